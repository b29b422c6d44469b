use Rattle.std.proofs.Common.{◌≡◌, ◌++◌, take}
use Rattle.cfg_types.specs.Order.{lent}
use Rattle.cfg_types.proofs.collect.add_routes.Given as goal

abbrev pub invariant-loop-route : goal.invariant-loop-route
invariant-loop-route l = lent l.all.items ≡ lent l.fn.all.items ++ take l.route-index l.routes
