use Rattle.std.proofs.Common.{◌∙◌}
use Rattle.split_seek.proofs.Recalling.{meets_more}
use Rattle.split_seek.proofs.kept.meets.Goals as goal

pub loop-claim-preserved : goal.loop-claim-preserved
loop-claim-preserved c = record {
  room = c.is_in.ensures.room ∙ c.loop-claim.invariant.room;
  known = c.is_in.ensures.known;
  meets = meets_more c.args.joint.now.valid c.args.joint.now.terms c.args.choice.now c.loop-claim.claim-index c.args.text.now c.is_in.result c.loop-claim-test.true c.loop-claim.invariant.meets
      c.is_in.ensures.is_in c.if-is_in-holds.false;
}
