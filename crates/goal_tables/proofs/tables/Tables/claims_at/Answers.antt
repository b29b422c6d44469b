use Rattle.std.proofs.Common.{◌≡◌, Some, None, take, get_or, slice_get, false, refl, sym, ap, subst, ◌∙◌}
use Rattle.std.proofs.lemmas.List.{take_more, take_all}
use Rattle.std.proofs.lemmas.Option.{slice_get_read}
use Rattle.goal_form.specs.Valid.{valid_of}
use Rattle.goal_form.specs.declared.atom.Atom.TheVariants.{Present, Within}
use Rattle.goal_tables.specs.Fields.{AreFields}
use Rattle.goal_tables.specs.Tables.{IsRoomy}
use Rattle.goal_tables.proofs.Growing.{joint_at}
use Rattle.goal_tables.proofs.Claims.{Says, says_silent, says_present, says_within}
use Rattle.goal_tables.proofs.Found.{field_is, names_field, names_term}
use Rattle.goal_tables.proofs.tables.Tables.claims_at.Goals as goal
use Rattle.goal_tables.proofs.tables.Tables.claims_at.Goals.{in-Some-term_at+in-Some-Within+in_ok-push-in-Some-Within, in-Some-term_at+in-Some-Present, in-Some-term_at+in-None, in_default-term_at}

pub loop-step-preserved : goal.loop-step-preserved
loop-step-preserved c =
    let t = c.args.self.now in
    let f = c.args.field.now in
    let path = c.args.path.now in
    let i = c.loop-step.step-index in
    let p = get_or path i (0, false) in
    let entry = c.in-Some.entry.now in
    let terms = entry.joint.terms in
    let inv = c.loop-step.invariant in
    let more = take_more path i (0, false) c.loop-step-test.true in
    let read = slice_get_read c.self.inside.fields.now _ c.args.at entry refl c.in-Some.ensures.lookup.3.0 c.in-Some.ensures.lookup.1 in
    let here : slice_get t.fields c.args.at ≡ Some entry = subst (λ m. slice_get m.fields c.args.at ≡ Some entry) c.self.view_is read in
    let atoms = ap (λ m. m.atoms) c.self.view_is in
    elim c.match-term_at.branch [
      | in-Some-term_at+in-Some-Within+in_ok-push-in-Some-Within w ↦
          let s = w.in-Some-term_at.ensures.some in
          let x = w.in-Some-Within in
          let e = subst (λ xs. slice_get xs p.0 ≡ Some (Within x.field-0-0 x.field-0-1 x.own)) atoms (sym x.ensures ∙ ap Some x.field-0-is) in
          rw (w.absent-is, w.user-is, w.choice-is, w.in_ok-push-in-Some-Within.ensures.items, more)
          (says_within t.atoms f terms (take i path) c.loop-step.absent c.loop-step.user c.loop-step.choice.items inv p x.field-0-0 x.field-0-1 x.own w.in-Some-term_at.term e
          (names_field t.atoms t.fields p.0 c.args.at w.in-Some-term_at.term s f c.requires _ e) (names_term t.atoms t.fields p.0 c.args.at w.in-Some-term_at.term s f c.requires entry here x.field-0-0 x.field-0-1 x.own e))
      | in-Some-term_at+in-Some-Present w ↦
          let s = w.in-Some-term_at.ensures.some in
          let x = w.in-Some-Present in
          let e = subst (λ xs. slice_get xs p.0 ≡ Some (Present x.field-0-0)) atoms (sym x.ensures ∙ ap Some x.field-0-is) in
          rw (w.absent-is, w.user-is, w.choice-is, more)
          (says_present t.atoms f terms (take i path) c.loop-step.absent c.loop-step.user c.loop-step.choice.items inv p x.field-0-0 e (names_field t.atoms t.fields p.0 c.args.at w.in-Some-term_at.term s f c.requires _ e))
      | in-Some-term_at+in-None w ↦
          let s = w.in-Some-term_at.ensures.some in
          let none : slice_get t.atoms p.0 ≡ None = subst (λ xs. slice_get xs p.0 ≡ None) atoms (sym w.in-None.ensures) in
          absurd (never s.is none)
      | in_default-term_at w ↦
          rw (w.absent-is, w.user-is, w.choice-is, more)
          (says_silent t.atoms f terms (take i path) c.loop-step.absent c.loop-step.user c.loop-step.choice.items inv p (w.in_default-term_at.ensures.none f c.requires))
    ]
  where
    never : {A : Type 0} {o : Rattle.std.specs.declared.option.Option.Option A} {x : A} → o ≡ Some x → o ≡ None → ⊥
    never a b = cc

pub returns : goal.returns
returns c =
    let t = c.args.self.now in
    let entry = c.in-Some.entry.now in
    let read = slice_get_read c.self.inside.fields.now _ c.args.at entry refl c.in-Some.ensures.lookup.3.0 c.in-Some.ensures.lookup.1 in
    let here : slice_get t.fields c.args.at ≡ Some entry = subst (λ m. slice_get m.fields c.args.at ≡ Some entry) c.self.view_is read in
    let formed : AreFields t.fields = subst (λ m. AreFields m.fields) c.self.view_is c.self.invariant.formed in
    let roomy : IsRoomy t.fields t.room = subst (λ m. IsRoomy m.fields m.room) c.self.view_is c.self.invariant.roomy in
    let same : entry.field ≡ c.args.field.now = field_is t.fields c.args.at entry c.args.field.now here c.requires in
    let all = take_all c.loop-step.step-index c.args.path.now c.loop-step-test.false in
    let says = subst (λ path. Says t.atoms c.args.field.now entry.joint.terms path c.loop-step.absent c.loop-step.user c.loop-step.choice.items) all c.loop-step.invariant in
    record {
      joint = joint_at t.fields c.args.at entry c.args.field.now formed here same;
      valid = formed.valid c.args.at entry here ∙ ap valid_of same;
      room = roomy c.args.at entry here;
      absent = says.absent_is;
      user = says.user_is;
      within = says.within;
      claims = says.claims;
    }
