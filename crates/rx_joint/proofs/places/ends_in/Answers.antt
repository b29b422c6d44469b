use Rattle.std.proofs.Common.{◌≡◌, true, false, [], ◌∷◌, get_or, refl, sym, ◌∙◌, subst}
use Rattle.rx_joint.specs.Joint.{terms_in, picked, Ends}
use Rattle.rx_joint.proofs.Ending.{one_number, ends_found, ends_taken, ends_own}
use Rattle.rx_joint.proofs.Led.{take_all}
use Rattle.rx_joint.proofs.places.ends_in.Goals as goal
use Rattle.rx_joint.proofs.places.ends_in.Goals.{else-number-slot-via-then-number-slot+else-ends_at, else-number-slot-via-else-number-slot}

pub ends_at-requires-clause-number : goal.ends_at-requires-clause-number
ends_at-requires-clause-number c = one_number (picked (terms_in c.args.tables.now) c.args.numbers.now) c.args.list.now c.loop-number.number-index c.loop-number-test.true c.requires.list

pub returns-then-ends_at : goal.returns-then-ends_at
returns-then-ends_at c =
    let t = picked (terms_in c.args.tables.now) c.args.numbers.now in
    let g = get_or c.args.list.now c.loop-number.number-index 0 in
    (λ _. ends_found t c.args.list.now c.loop-number.number-index c.loop-number-test.true c.args.slot (subst (Ends t (g ∷ [])) c.if-number-slot.true (c.ends_at.ensures.0 c.if-ends_at.true)), λ _. refl)

pub loop-number-preserved : goal.loop-number-preserved
loop-number-preserved c =
    let t = picked (terms_in c.args.tables.now) c.args.numbers.now in
    let g = get_or c.args.list.now c.loop-number.number-index 0 in
    ends_taken t c.args.list.now c.loop-number.number-index c.loop-number-test.true c.args.slot c.loop-number.invariant
    (λ e. elim c.else-number-slot.branch [
      | else-number-slot-via-then-number-slot+else-ends_at w ↦ clash (sym w.if-ends_at.false ∙ w.ends_at.ensures.1 (subst (Ends t (g ∷ [])) (sym (ends_own t g c.args.slot e)) e))
      | else-number-slot-via-else-number-slot w ↦ w.if-number-slot.false (ends_own t g c.args.slot e)
    ])
  where
    clash : false ≡ true → ⊥
    clash k = cc

pub returns : goal.returns
returns c =
    let t = picked (terms_in c.args.tables.now) c.args.numbers.now in (
      λ h. absurd (clash h),
      λ h. absurd (c.loop-number.invariant (subst (λ xs. Ends t xs c.args.slot) (sym (take_all c.loop-number.number-index c.args.list.now c.loop-number-test.false c.loop-number.auto.number-index-end)) h)),
    )
  where
    clash : false ≡ true → ⊥
    clash k = cc
