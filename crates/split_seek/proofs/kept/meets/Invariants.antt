use Rattle.std.proofs.Common.{◌≡◌, take}
use Rattle.rx_term.specs.Closing.{Meets}
use Rattle.rx_joint.specs.Claims.{chosen}
use Rattle.split_seek.specs.Known.{IsKnown}
use Rattle.split_seek.proofs.kept.meets.Given as goal

abbrev pub invariant-loop-claim : goal.invariant-loop-claim
invariant-loop-claim l = record {
  room : l.scratch ≡ l.fn.scratch;
  known : IsKnown l.joint.terms l.text l.known.items;
  meets : Meets l.joint.valid (chosen l.joint.terms (take l.claim-index l.choice)) l.text;
}
