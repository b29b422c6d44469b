use Rattle.std.proofs.Common.{◌≡◌, length}
use Rattle.rx_term.specs.Layers.{wrapped}
use Rattle.rx_term.proofs.layers.close.Given as goal

abbrev pub invariant-loop-layer : goal.invariant-loop-layer
invariant-loop-layer l = wrapped l.layers l.term ≡ wrapped l.fn.layers l.fn.inner

abbrev pub decreases-loop-layer : goal.decreases-loop-layer
decreases-loop-layer l = length l.layers
