use Rattle.rx_joint.proofs.Choosing.{ArePicked}
use Rattle.rx_joint.proofs.joint.Joint.choose.Given as goal

abbrev pub invariant-loop-claim : goal.invariant-loop-claim
invariant-loop-claim l = ArePicked l.choice l.claim-index l.numbers.items l.holds.items l.wanted.items
