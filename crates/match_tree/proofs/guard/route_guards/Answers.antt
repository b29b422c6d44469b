use Rattle.match_tree.proofs.GuardLists.{adds_are}
use Rattle.match_tree.proofs.guard.route_guards.Goals as goal

pub returns : goal.returns
returns c = λ atoms rule r. adds_are _ _ _ _ c.new-list.ensures (c.in_ok-add_routes.ensures atoms rule r).1
