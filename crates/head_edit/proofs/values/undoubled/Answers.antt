use Rattle.head_edit.proofs.MapKinds.{undoubled_next}
use Rattle.head_edit.proofs.values.undoubled.Goals as goal
use Rattle.head_edit.proofs.values.undoubled.Goals.{then-starts_with, else-starts_with}

pub loop-at-preserved : goal.loop-at-preserved
loop-at-preserved c =
    elim c.if-starts_with.branch [
      | then-starts_with w ↦
          undoubled_next c.args.value.now c.loop-at.single.items c.push.new.self.items c.loop-at.at c.if-starts_with.at c.starts_with.result c.loop-at-test.true c.in_ok-push.ensures.items c.starts_with.ensures.value
          (rw w.if-starts_with.true w.at-is) c.loop-at.invariant
      | else-starts_with w ↦
          undoubled_next c.args.value.now c.loop-at.single.items c.push.new.self.items c.loop-at.at c.if-starts_with.at c.starts_with.result c.loop-at-test.true c.in_ok-push.ensures.items c.starts_with.ensures.value
          (rw w.if-starts_with.false w.at-is) c.loop-at.invariant
    ]
