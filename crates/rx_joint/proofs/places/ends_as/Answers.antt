use Rattle.std.proofs.Common.{◌≡◌, true, false, ℕ, List, get_or, refl, sym, ◌∙◌, inl, inr, subst}
use Rattle.rx_term.specs.Language.{Has}
use Rattle.rx_auto.proofs.Likeness.{Has_get, Has_taken}
use Rattle.rx_joint.specs.Joint.{terms_in, picked, Ends}
use Rattle.rx_joint.proofs.Building.{picked_long}
use Rattle.rx_joint.proofs.Ending.{not_unwanted, not_wanted, all_as}
use Rattle.rx_joint.proofs.Led.{take_all}
use Rattle.rx_joint.proofs.places.ends_as.Goals as goal

clash : false ≡ true → ⊥
clash k = cc

pub returns-then-ends_unwanted : goal.returns-then-ends_unwanted
returns-then-ends_unwanted c =
    let tables = picked (terms_in c.args.tables.now) c.args.numbers.now in (
      λ h. absurd (clash h),
      λ f. absurd (not_unwanted tables c.args.holds.now c.args.wanted.now c.args.list.now c.requires.list (c.requires.long ∙ sym (picked_long (terms_in c.args.tables.now) c.args.numbers.now)) c.requires.wanted
          (c.ends_unwanted.ensures.0 c.if-ends_unwanted.true) f),
    )

pub returns-then-not-ends_in : goal.returns-then-not-ends_in
returns-then-not-ends_in c =
    let tables = picked (terms_in c.args.tables.now) c.args.numbers.now in (
      λ h. absurd (clash h),
      λ f. absurd (not_wanted tables c.args.holds.now c.args.wanted.now c.args.list.now c.requires.list (c.requires.long ∙ sym (picked_long (terms_in c.args.tables.now) c.args.numbers.now)) c.requires.wanted
          (get_or c.args.wanted.now c.loop-slot.slot-index 0) (Has_get c.args.wanted.now c.loop-slot.slot-index 0 c.loop-slot-test.true)
          (λ e. clash (sym c.if-not-ends_in.true ∙ c.ends_in.ensures.1 e)) f),
    )

pub loop-slot-preserved : goal.loop-slot-preserved
loop-slot-preserved c = λ i h. elim (Has_taken c.args.wanted.now c.loop-slot.slot-index 0 i c.loop-slot-test.true h) [
  | inl k ↦ c.loop-slot.invariant i k
  | inr e ↦ subst (Ends (picked (terms_in c.args.tables.now) c.args.numbers.now) c.args.list.now) e (c.ends_in.ensures.0 c.if-not-ends_in.false)
]

pub returns : goal.returns
returns c =
    let tables = picked (terms_in c.args.tables.now) c.args.numbers.now in
    let e = take_all c.loop-slot.slot-index c.args.wanted.now c.loop-slot-test.false c.loop-slot.auto.slot-index-end in (
      λ _. all_as tables c.args.holds.now c.args.wanted.now c.args.list.now c.requires.list (c.requires.long ∙ sym (picked_long (terms_in c.args.tables.now) c.args.numbers.now)) c.requires.wanted
          (λ h. clash (sym c.if-ends_unwanted.false ∙ c.ends_unwanted.ensures.1 h))
          (λ i h. c.loop-slot.invariant i (subst (λ (xs : List ℕ). Has xs i) (sym e) h)),
      λ _. refl,
    )
