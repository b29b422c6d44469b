use Rattle.std.proofs.Common.{◌+◌, take, sym, subst, refl}
use Rattle.rx_auto.specs.Edges.{AddsEdges}
use Rattle.rx_auto.proofs.Leading.{Numbers}
use Rattle.rx_auto.proofs.Reading.{edges_more, edges_all}
use Rattle.rx_auto.proofs.edges.put_edges.Goals as goal

pub loop-q-preserved : goal.loop-q-preserved
loop-q-preserved c = subst (λ z. AddsEdges c.args.to.now.items z (λ b x. Numbers c.args.spots.now c.args.reps.now b c.args.base (take (c.loop-q.q-index + 1) c.args.ps.now) x)) (sym c.in_ok-push.ensures.items)
    (edges_more c.args.spots.now c.args.reps.now c.args.base c.args.ps.now c.loop-q.q-index c.loop-q-test.true c.args.to.now.items c.loop-q.to.items _ refl refl c.loop-q.invariant)

pub returns : goal.returns
returns c = edges_all c.args.spots.now c.args.reps.now c.args.base c.args.ps.now c.loop-q.q-index c.args.to.now.items c.loop-q.to.items c.loop-q-test.false c.loop-q.auto.q-index-end c.loop-q.invariant
