use Rattle.std.proofs.Common.{arith}
use Rattle.head_edit.specs.Maps.{heads_of}
use Rattle.head_edit.proofs.NameValues.{same-fold_more}
use Rattle.head_edit.proofs.edits.add_all.Goals as goal

pub loop-addition-preserved : goal.loop-addition-preserved
loop-addition-preserved c = record {
  same = same-fold_more c.args.additions.now c.loop-addition.addition-index c.addition-item.result (heads_of c.args.map.now) (heads_of c.loop-addition.map) (heads_of c.add.new.map) c.loop-addition-test.true c.addition-item.is c.loop-addition.invariant.same
      c.in_ok-add.ensures.ok;
  size = let before = c.loop-addition.invariant.size in let more = c.add.ensures.size in omega arith;
  valid = c.add.ensures.stays_valid;
}
