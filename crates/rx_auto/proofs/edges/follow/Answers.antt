use Rattle.std.proofs.Common.{◌+◌, [], take, sym, ◌∙◌, subst}
use Rattle.rx_auto.specs.Live.{AddsNumbers}
use Rattle.rx_auto.specs.Edges.{Reads}
use Rattle.rx_auto.proofs.Reading.{follow_more, follow_skip}
use Rattle.rx_auto.proofs.edges.follow.Goals as goal
use Rattle.rx_auto.proofs.edges.follow.Goals.{then-has+in_ok-put, else-has}

pub loop-edge-preserved : goal.loop-edge-preserved
loop-edge-preserved c = elim c.if-has.branch [
  | then-has+in_ok-put w ↦ subst (λ z. AddsNumbers [] z.items (Reads (take (c.loop-edge.edge-index + 1) c.args.edges.now) c.args.byte)) (sym w.to-is)
      (follow_more c.args.edges.now c.args.byte c.loop-edge.edge-index _ c.loop-edge-test.true c.loop-edge.to.items w.put.new.list.items (sym c.has.ensures ∙ w.if-has.true) c.loop-edge.invariant w.in_ok-put.ensures)
  | else-has w ↦ subst (λ z. AddsNumbers [] z.items (Reads (take (c.loop-edge.edge-index + 1) c.args.edges.now) c.args.byte)) (sym w.to-is)
      (follow_skip c.args.edges.now c.args.byte c.loop-edge.edge-index _ c.loop-edge-test.true c.loop-edge.to.items (sym c.has.ensures ∙ w.if-has.false) c.loop-edge.invariant)
]
