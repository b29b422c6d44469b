use Rattle.std.proofs.Common.{◌≡◌, ◌∙◌, subst, arith}
use Rattle.rx_auto.proofs.Numbering.{AreNumbered, numbered_found, numbered_begun, numbered_all}
use Rattle.rx_auto.proofs.classes.Classes.of.Goals as goal
use Rattle.rx_auto.proofs.classes.Classes.of.Goals.{in-Some+in_ok-push-in-Some, in-None+in_ok-push-in-None+in_ok-push-in-None-2}

pub loop-byte-preserved : goal.loop-byte-preserved
loop-byte-preserved c =
    elim c.match-place_of.branch [
      | in-Some+in_ok-push-in-Some w ↦ numbered_found _ _ c.as_slice.result.now _ _ w.in-Some.number _ _ c.loop-byte.invariant c.as_slice.ensures w.in-Some.ensures.some
          w.firsts-is (w.numbers-is ∙ w.in_ok-push-in-Some.ensures.ok)
      | in-None+in_ok-push-in-None+in_ok-push-in-None-2 w ↦ numbered_begun _ _ c.as_slice.result.now _ _ w.len.result _ _ c.loop-byte.invariant c.as_slice.ensures w.in-None.ensures.none
          w.len.ensures (w.firsts-is ∙ w.in_ok-push-in-None-2.ensures.ok) (w.numbers-is ∙ w.in_ok-push-in-None.ensures.ok)
    ]

pub returns : goal.returns
returns c =
    let e : c.loop-byte.byte ≡ 129 = omega (arith, c.loop-byte-test.false, c.loop-byte.auto.byte-end) in
    numbered_all c.args.sets.now c.loop-byte.firsts c.loop-byte.numbers (subst (AreNumbered c.args.sets.now c.loop-byte.firsts c.loop-byte.numbers) e c.loop-byte.invariant)
