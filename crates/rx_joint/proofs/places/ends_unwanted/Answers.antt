use Rattle.std.proofs.Common.{◌≡◌, ◌<◌, true, false, [], ◌∷◌, get_or, refl, sym, ◌∙◌, ap, subst}
use Rattle.rx_auto.proofs.Likeness.{Has_get}
use Rattle.rx_joint.specs.Joint.{table_of, terms_in, picked, Ends}
use Rattle.rx_joint.specs.Claims.{hold_at}
use Rattle.rx_joint.proofs.Building.{picked_long}
use Rattle.rx_joint.proofs.Ending.{one_number, ends_found, ends_taken, ends_own}
use Rattle.rx_joint.proofs.Led.{take_all}
use Rattle.rx_joint.proofs.places.ends_unwanted.Goals as goal
use Rattle.rx_joint.proofs.places.ends_unwanted.Goals.{else-not-holds-number-via-then-not-holds-number+else-ends_at, else-not-holds-number-via-else-not-holds-number}

pub bounds-holds-number : goal.bounds-holds-number
bounds-holds-number c = subst (λ n. table_of (get_or c.args.list.now c.loop-number.number-index 0) < n) (picked_long (terms_in c.args.tables.now) c.args.numbers.now ∙ sym c.requires.long)
    (c.requires.list (get_or c.args.list.now c.loop-number.number-index 0) (Has_get c.args.list.now c.loop-number.number-index 0 c.loop-number-test.true)).0

pub ends_at-requires-clause-number : goal.ends_at-requires-clause-number
ends_at-requires-clause-number c = one_number (picked (terms_in c.args.tables.now) c.args.numbers.now) c.args.list.now c.loop-number.number-index c.loop-number-test.true c.requires.list

pub returns-then-ends_at : goal.returns-then-ends_at
returns-then-ends_at c =
    let t = picked (terms_in c.args.tables.now) c.args.numbers.now in
    let g = get_or c.args.list.now c.loop-number.number-index 0 in
    (λ _. (table_of g, c.if-not-holds-number.true, ends_found t c.args.list.now c.loop-number.number-index c.loop-number-test.true (table_of g) (c.ends_at.ensures.0 c.if-ends_at.true)), λ _. refl)

pub loop-number-preserved : goal.loop-number-preserved
loop-number-preserved c =
    let t = picked (terms_in c.args.tables.now) c.args.numbers.now in
    let g = get_or c.args.list.now c.loop-number.number-index 0 in
    λ i h. ends_taken t c.args.list.now c.loop-number.number-index c.loop-number-test.true i (c.loop-number.invariant i h)
    (λ e. elim c.else-not-holds-number.branch [
      | else-not-holds-number-via-then-not-holds-number+else-ends_at w ↦ clash (sym w.if-ends_at.false ∙ w.ends_at.ensures.1 (subst (Ends t (g ∷ [])) (sym (ends_own t g i e)) e))
      | else-not-holds-number-via-else-not-holds-number w ↦ clash (sym h ∙ ap (hold_at c.args.holds.now) (sym (ends_own t g i e)) ∙ w.if-not-holds-number.false)
    ])
  where
    clash : false ≡ true → ⊥
    clash k = cc

pub returns : goal.returns
returns c =
    let t = picked (terms_in c.args.tables.now) c.args.numbers.now in (
      λ h. absurd (clash h),
      λ h. absurd (c.loop-number.invariant h.0 h.1 (subst (λ xs. Ends t xs h.0) (sym (take_all c.loop-number.number-index c.args.list.now c.loop-number-test.false c.loop-number.auto.number-index-end)) h.2)),
    )
  where
    clash : false ≡ true → ⊥
    clash k = cc
