use Rattle.std.proofs.Common.{◌≡◌, ◌-◌, get_or, [], true, arith, sym, ◌∙◌, subst}
use Rattle.match_tree.specs.KeyOrder.{order}
use Rattle.match_tree.proofs.Orders.{apart_more, ordered_from}
use Rattle.match_tree.proofs.Places.{key_at}
use Rattle.match_tree.proofs.keys.in_order.Goals as goal

pub loop-at-init : goal.loop-at-init
loop-at-init c = record { some = omega arith; apart = λ i j l m k. absurd (omega arith) }

pub returns : goal.returns
returns c = λ e. ordered_from c.args.by_length c.args.keys.now (λ i j l m. c.loop-at.invariant.apart i j l (omega (arith, c.loop-at-test.false)) m)

pub loop-at-preserved : goal.loop-at-preserved
loop-at-preserved c =
    let before = c.as_bytes.ensures ∙ key_at c.args.keys.now (c.loop-at.at - 1) c.index-keys-at.result (omega (arith, c.loop-at.invariant.some, c.loop-at-test.true)) c.index-keys-at.is in
    let here = c.as_bytes-in-loop-at.ensures ∙ key_at c.args.keys.now c.loop-at.at c.index-keys-at-in-loop-at.result c.loop-at-test.true c.index-keys-at-in-loop-at.is in
    let e = subst (λ k. order c.args.by_length k c.as_bytes-in-loop-at.result.now ≡ true) before (sym c.precedes.ensures ∙ c.if-not-precedes.false) in
    record {
      some = omega arith;
      apart = apart_more c.args.by_length c.args.keys.now c.loop-at.at c.loop-at.invariant.some c.loop-at-test.true c.loop-at.invariant.apart
          (subst (λ k. order c.args.by_length (get_or c.args.keys.now (c.loop-at.at - 1) []) k ≡ true) here e);
    }
