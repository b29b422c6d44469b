use Rattle.goal_form.proofs.WaitingLemmas.{item_drop, thus, given, met}
use Rattle.cert_check.proofs.Readings.{split_here, leaf_here, done_here, blocked}
use Rattle.cert_check.proofs.reading.reads.Goals as goal
use Rattle.cert_check.proofs.reading.reads.Goals.{in-Split+else-not-may_split+in_ok-decide, in_default+in_ok-may_leave+else-not-branch+in_ok-more}

pub returns-then-not-more : goal.returns-then-not-more
returns-then-not-more c =
    let here = item_drop c.args.nodes.now c.loop-node.node-index c.node-item.result c.loop-node-test.true c.node-item.is in
    blocked c.args.goal.now c.args.cap _ _ c.args.nodes.now _ c.loop-node.invariant.same
    (done_here c.args.goal.now c.args.cap c.loop-node.seen c.loop-node.more c.loop-node.trail.path _ _ c.node-item.result c.if-not-more.true here)

pub loop-node-preserved : goal.loop-node-preserved
loop-node-preserved c =
    let here = item_drop c.args.nodes.now c.loop-node.node-index c.node-item.result c.loop-node-test.true c.node-item.is in
    elim c.match-node.branch [
      | in-Split+else-not-may_split+in_ok-decide w ↦
          let step = split_here c.args.goal.now c.args.cap c.loop-node.seen c.loop-node.more c.loop-node.trail.path _ _ c.node-item.result w.in-Split.atom c.if-not-more.false here w.in-Split.is in
          let told = met w.may_split.result w.if-not-may_split.false w.may_split.ensures in
          record {
            same = rw (w.trail-is, w.more-is, w.seen-is, w.in_ok-decide.ensures.path, c.if-not-more.false) (thus c.loop-node.invariant.same (thus step (given told)));
            count = rw (w.trail-is, w.in_ok-decide.ensures.count) c.loop-node.invariant.count;
          }
      | in_default+in_ok-may_leave+else-not-branch+in_ok-more w ↦
          let step = leaf_here c.args.goal.now c.args.cap c.loop-node.seen c.loop-node.more c.loop-node.trail.path _ _ c.node-item.result c.if-not-more.false here w.in_default.not-Split in
          let told = met w.in_ok-may_leave.field-0 w.if-not-branch.false w.in_ok-may_leave.ensures in
          record {
            same = rw (w.trail-is, w.more-is, w.seen-is, w.seen_after-seen.ensures, w.in_ok-more.ensures.waits) (thus c.loop-node.invariant.same (thus step (given told)));
            count = rw (w.trail-is, w.in_ok-more.ensures.count) c.loop-node.invariant.count;
          }
    ]
