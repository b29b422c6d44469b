use Rattle.std.proofs.Common.{take}
use Rattle.rx_auto.specs.Classes.{AreAlike}
use Rattle.rx_auto.proofs.sets.alike.Given as goal

abbrev pub invariant-loop-set : goal.invariant-loop-set
invariant-loop-set l = AreAlike (take l.set-index l.sets) l.first l.second
