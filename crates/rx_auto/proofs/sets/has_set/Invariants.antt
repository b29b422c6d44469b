use Rattle.std.proofs.Common.{◌≢◌, ◌<◌, ℕ, get_or}
use Rattle.rx_auto.proofs.Likeness.{no_set}
use Rattle.rx_auto.proofs.sets.has_set.Given as goal

abbrev pub invariant-loop-other : goal.invariant-loop-other
invariant-loop-other l = (k : ℕ) → k < l.other-index → get_or l.sets k no_set ≢ l.set
