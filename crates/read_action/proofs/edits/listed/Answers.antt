use Rattle.std.proofs.Common.{Ok, sym, ap, ◌∙◌}
use Rattle.read_action.proofs.HeaderLists.{list_is, list_absent}
use Rattle.read_action.proofs.edits.listed.Goals as goal

pub returns-in_ok-at-in-Some : goal.returns-in_ok-at-in-Some
returns-in_ok-at-in-Some g c = list_is _ _ _ _ _ _ _ _ c.spellings_of.ensures c.in_ok-at-in-Some.ensures c.in-Some.ensures c.read_list.ensures

pub returns-in-None : goal.returns-in-None
returns-in-None g c = list_absent _ _ _ _ c.in-None.ensures ∙ ap Ok (sym c.new.ensures)
