use Rattle.json_tables.specs.Names.{request_headers_to_add, request_headers_to_remove, response_headers_to_add, response_headers_to_remove}
use Rattle.std.proofs.Common.{refl}
use Rattle.read_action.proofs.edits.spellings_of.Goals as goal

pub returns-in-RequestAdd : goal.returns-in-RequestAdd
unfolding request_headers_to_add
returns-in-RequestAdd c = rw c.in-RequestAdd.is refl

pub returns-in-RequestRemove : goal.returns-in-RequestRemove
unfolding request_headers_to_remove
returns-in-RequestRemove c = rw c.in-RequestRemove.is refl

pub returns-in-ResponseAdd : goal.returns-in-ResponseAdd
unfolding response_headers_to_add
returns-in-ResponseAdd c = rw c.in-ResponseAdd.is refl

pub returns-in-ResponseRemove : goal.returns-in-ResponseRemove
unfolding response_headers_to_remove
returns-in-ResponseRemove c = rw c.in-ResponseRemove.is refl
