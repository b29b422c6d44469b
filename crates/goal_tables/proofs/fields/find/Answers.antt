use Rattle.std.proofs.Common.{◌≡◌, ◌≢◌, ℕ, ◌<◌, ◌+◌, Bool, true, false, Some, slice_get, eqb, refl, sym, subst, ◌∙◌, arith}
use Rattle.std.proofs.lemmas.Bool.{eqb-true, eqb-false}
use Rattle.std.proofs.lemmas.Option.{slice_get_read, slice_get_within}
use Rattle.goal_form.proofs.SameFields.{same_field_is, same_refl}
use Rattle.goal_form.specs.Fields.{same_field}
use Rattle.goal_tables.specs.declared.fields.FieldTables.{FieldTables}
use Rattle.goal_tables.proofs.Places.{one_place}
use Rattle.goal_tables.proofs.fields.find.Goals as goal

pub returns-then-same_field-clause-some : goal.returns-then-same_field-clause-some
returns-then-same_field-clause-some c =
    let e = c.index-fields-i.result in
    (e, slice_get_read c.args.fields.now _ c.loop-i.i e refl c.loop-i-test.true c.index-fields-i.is, same_field_is e.field c.args.field.now (sym c.same_field.ensures ∙ c.if-same_field.true))

pub loop-i-preserved : goal.loop-i-preserved
loop-i-preserved c = λ k e lt g same. at k e lt g same (eqb k c.loop-i.i) refl
  where
    at : (k : ℕ) (e : FieldTables) → k < c.loop-i.i + 1 → slice_get c.args.fields.now k ≡ Some e → e.field ≡ c.args.field.now → (b : Bool) → eqb k c.loop-i.i ≡ b → ⊥
    at k e lt g same true w =
        let x = c.index-fields-i.result in
        let here = slice_get_read c.args.fields.now _ c.loop-i.i x refl c.loop-i-test.true c.index-fields-i.is in
        let one : e ≡ x = one_place c.args.fields.now c.loop-i.i e x (subst (λ n. slice_get c.args.fields.now n ≡ Some e) (eqb-true k c.loop-i.i w) g) here in
        let field : x.field ≡ c.args.field.now = subst (λ y. y.field ≡ c.args.field.now) one same in
        let yes : same_field x.field c.args.field.now ≡ true = subst (λ f. same_field x.field f ≡ true) field (same_refl x.field) in
        let no : same_field x.field c.args.field.now ≡ false = sym c.same_field.ensures ∙ c.if-same_field.false in
        cc
    at k e lt g same false w = let other : k ≢ c.loop-i.i = eqb-false k c.loop-i.i w in c.loop-i.invariant k e (omega arith) g same

pub returns-clause-none : goal.returns-clause-none
returns-clause-none c = λ h.
    let within = slice_get_within c.args.fields.now h.0 h.1.0 h.1.1 in
    let end = c.loop-i-test.false in
    c.loop-i.invariant h.0 h.1.0 (omega arith) h.1.1 h.1.2
