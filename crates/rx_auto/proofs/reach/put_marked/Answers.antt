use Rattle.std.proofs.Common.{◌≡◌, ◌+◌, length, refl, sym, ◌∙◌, subst, arith}
use Rattle.rx_auto.specs.Edges.{AddsEdges}
use Rattle.rx_auto.proofs.Reached.{LeadsBelow, marked_more, marked_skip}
use Rattle.rx_auto.proofs.reach.put_marked.Goals as goal
use Rattle.rx_auto.proofs.reach.put_marked.Goals.{then-has+in_ok-push, else-has}

pub loop-q-preserved : goal.loop-q-preserved
loop-q-preserved c =
    let spots = c.args.spots.now in
    let reps = c.args.reps.now in
    let row = c.args.row.now.marks in
    let q = c.loop-q.q in
    elim c.if-has.branch [
      | then-has+in_ok-push w ↦ subst (λ z. AddsEdges c.args.to.now.items z.items (LeadsBelow spots reps row c.args.base (q + 1))) (sym w.to-is)
          (subst (λ z. AddsEdges c.args.to.now.items z (LeadsBelow spots reps row c.args.base (q + 1))) (sym w.in_ok-push.ensures.items)
          (marked_more spots reps row c.args.base q c.args.to.now.items c.loop-q.to.items _ (sym c.has.ensures ∙ w.if-has.true) refl refl c.loop-q.invariant))
      | else-has w ↦ subst (λ z. AddsEdges c.args.to.now.items z.items (LeadsBelow spots reps row c.args.base (q + 1))) (sym w.to-is)
          (marked_skip spots reps row c.args.base q c.args.to.now.items c.loop-q.to.items (sym c.has.ensures ∙ w.if-has.false) c.loop-q.invariant)
    ]

pub returns : goal.returns
returns c =
    let n : c.loop-q.q ≡ length c.args.spots.now = omega (arith, c.loop-q-test.false, c.loop-q.auto.q-end) in
    subst (λ k. AddsEdges c.args.to.now.items c.loop-q.to.items (LeadsBelow c.args.spots.now c.args.reps.now c.args.row.now.marks c.args.base k)) n c.loop-q.invariant
