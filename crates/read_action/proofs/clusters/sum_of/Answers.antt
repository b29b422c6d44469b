use Rattle.read_action.proofs.Weights.{summed}
use Rattle.read_action.proofs.clusters.sum_of.Goals as goal

pub returns : goal.returns
returns c = summed _ _ _ c.loop-share-test.false c.loop-share.invariant.rest c.loop-share.invariant.fits
