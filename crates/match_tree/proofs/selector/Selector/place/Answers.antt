use Rattle.std.proofs.Common.{◌∙◌, sym}
use Rattle.match_tree.proofs.Absent.{exact_absent, longest_absent}
use Rattle.match_tree.proofs.selector.Selector.place.Goals as goal

pub returns-in-None-clause-place : goal.returns-in-None-clause-place
returns-in-None-clause-place g c = rw c.in-Exact.is (c.count.ensures ∙ exact_absent _ c.in-Exact.keys (sym c.in-None.ensures))

pub returns-in-None-see-clause-place : goal.returns-in-None-see-clause-place
returns-in-None-see-clause-place g c = rw c.in-Prefix.is (c.count-in-None-see.ensures ∙ longest_absent _ c.in-Prefix.keys c.in-Prefix.keys (sym c.in-None-see.ensures))
