use Rattle.std.proofs.Common.{◌≡◌, ◌++◌, flat_map, take}
use Rattle.cfg_types.specs.Order.{entry_routes, key_routes, lent}
use Rattle.cfg_types.proofs.collect.+collect.Given as goal

abbrev pub invariant-add_list-loop-entry : goal.invariant-add_list-loop-entry
invariant-add_list-loop-entry l = lent l.all.items ≡ lent l.fn.all.items ++ flat_map entry_routes (take l.entry-index l.entries)

abbrev pub invariant-add_map-loop-entry : goal.invariant-add_map-loop-entry
invariant-add_map-loop-entry l = lent l.all.items ≡ lent l.fn.all.items ++ flat_map key_routes (take l.entry-index l.keys)
