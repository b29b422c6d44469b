use Rattle.std.proofs.Common.{take}
use Rattle.goal_tables.specs.Fields.{ArePlaced}
use Rattle.goal_tables.proofs.shared.SharedTables.places.Given as goal

abbrev pub invariant-loop-atom : goal.invariant-loop-atom
invariant-loop-atom l = ArePlaced l.self (take l.atom-index l.goal.atoms) l.places.items
