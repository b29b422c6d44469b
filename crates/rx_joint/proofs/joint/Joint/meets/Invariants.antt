use Rattle.std.proofs.Common.{◌≡◌, take}
use Rattle.rx_term.specs.Closing.{Meets}
use Rattle.rx_joint.specs.Claims.{chosen}
use Rattle.rx_joint.proofs.joint.Joint.meets.Given as goal

abbrev pub invariant-loop-claim : goal.invariant-loop-claim
invariant-loop-claim l = record {
  room : l.scratch ≡ l.initial.scratch;
  meets : Meets l.self.valid (chosen l.self.terms (take l.claim-index l.choice)) l.text;
}
