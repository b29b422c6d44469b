use Rattle.std.proofs.Common.{ℕ, ◌<◌, get_or}
use Rattle.rx_auto.specs.Classes.{AreAlike}
use Rattle.rx_auto.proofs.classes.place_of.Given as goal

abbrev pub invariant-loop-i : goal.invariant-loop-i
invariant-loop-i l = (k : ℕ) → k < l.i → AreAlike l.sets (get_or l.bytes k 0) l.byte → ⊥
