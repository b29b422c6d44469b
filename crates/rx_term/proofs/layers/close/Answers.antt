use Rattle.std.proofs.Common.{◌∙◌}
use Rattle.rx_term.proofs.Wrapping.{wrapped_pop}
use Rattle.rx_term.proofs.layers.close.Goals as goal

pub loop-layer-preserved : goal.loop-layer-preserved
loop-layer-preserved c = wrapped_pop _ _ c.in-Some.layer c.loop-layer.term _ c.in-Some.ensures c.in_ok-term.ensures ∙ c.loop-layer.invariant
