use Rattle.std.proofs.Common.{take, ℕ}
use Rattle.rx_term.specs.Language.{Has}
use Rattle.rx_auto.specs.Classes.{AreAlike}
use Rattle.rx_auto.proofs.sets.has_alike.Given as goal

abbrev pub invariant-loop-other : goal.invariant-loop-other
invariant-loop-other l = (c : ℕ) → Has (take l.other-index l.bytes) c → AreAlike l.sets c l.byte → ⊥
