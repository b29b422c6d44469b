use Rattle.std.proofs.Common.{◌∙◌}
use Rattle.read_action.proofs.HeaderLists.{first_spelling, second_spelling}
use Rattle.read_action.proofs.edits.list_in.Goals as goal

pub returns-in-Some : goal.returns-in-Some
returns-in-Some c = first_spelling _ _ _ _ c.spellings_of.ensures c.in-Some.ensures

pub returns-in-None : goal.returns-in-None
returns-in-None c = c.given-in-None.ensures ∙ second_spelling _ _ _ c.spellings_of.ensures c.in-None.ensures
