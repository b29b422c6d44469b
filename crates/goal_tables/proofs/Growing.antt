-- Fields that get more terms, and more fields.
use Rattle.std.proofs.Common.{◌≡◌, ℕ, ◌+◌, Bool, List, [], ◌∷◌, ◌++◌, length, length-append, Some, slice_get, refl, sym, ap, subst, ◌∙◌, inl, inr, arith}
use Rattle.std.proofs.Math.ListN.{set}
use Rattle.std.proofs.lemmas.Option.{slice_get_within}
use Rattle.text_base.specs.declared.request.Field.{Field}
use Rattle.rx_term.specs.declared.terms.Term.{Term}
use Rattle.rx_joint.specs.Meanings.{JointMeaning}
use Rattle.goal_form.specs.declared.atom.Atom.{Atom}
use Rattle.goal_form.specs.declared.atom.Atom.TheVariants.{Present, Within}
use Rattle.goal_form.specs.Goals.{field_in}
use Rattle.goal_form.specs.Valid.{valid_of}
use Rattle.goal_tables.specs.declared.fields.FieldTables.{FieldTables}
use Rattle.goal_tables.specs.declared.fields.Place.{Place}
use Rattle.goal_tables.specs.Fields.{IsFieldAt, HasField, HasTermAt, AreFields, HasAlways, IsTermOf, IsPlaced, ArePlaced, Extends, IsJointOf}
use Rattle.goal_tables.proofs.Places.{got_left, got_last, got_snoc, got_set, set_got, one_place}

pub no_fields : AreFields []
no_fields = record { valid = λ i e h. cc; apart = λ i j d e h k s. cc }

pub extends_same : (es : List FieldTables) → Extends es es
extends_same es i d h = (d, h, refl, λ n t e. e)

-- ---- one more field

module _ (es : List FieldTables) (s : AreFields es) (f : Field) (j : JointMeaning) (none : HasField es f → ⊥) (valid : j.valid ≡ valid_of f) where
  abbrev entry : FieldTables
  entry = record { field = f; joint = j }

  pub fields_push : AreFields (es ++ entry ∷ [])
  fields_push = record {
    valid = λ i e h. elim (got_snoc es entry i e h) [ inl old ↦ s.valid i e old | inr last ↦ subst (λ x. x.joint.valid ≡ valid_of x.field) last.1 valid ];
    apart = λ i k d e h l same. elim (got_snoc es entry i d h) [
      | inl old ↦ elim (got_snoc es entry k e l) [
        | inl old' ↦ s.apart i k d e old old' same
        | inr last ↦ absurd (none (i, (d, old, same ∙ ap (λ x. x.field) (sym last.1))))
      ]
      | inr last ↦ elim (got_snoc es entry k e l) [
        | inl old' ↦ absurd (none (k, (e, old', sym same ∙ ap (λ x. x.field) (sym last.1))))
        | inr last' ↦ last.0 ∙ sym last'.0
      ]
    ];
  }

  pub extends_push : Extends es (es ++ entry ∷ [])
  extends_push i d h = (d, got_left es (entry ∷ []) i d h, refl, λ n t e. e)

  pub there_push : IsFieldAt (es ++ entry ∷ []) (length es) f
  there_push = (entry, got_last es entry, refl)

-- ---- one more term

module _ (es : List FieldTables) (s : AreFields es) (at : ℕ) (d : FieldTables) (here : slice_get es at ≡ Some d) (j : JointMeaning)
    (valid : j.valid ≡ d.joint.valid) (kept : (n : ℕ) (t : Term) → slice_get d.joint.terms n ≡ Some t → slice_get j.terms n ≡ Some t) where
  abbrev changed : FieldTables
  changed = record { field = d.field; joint = j }

  valid_changed : j.valid ≡ valid_of d.field
  valid_changed = valid ∙ s.valid at d here

  abbrev IsOf : ℕ → FieldTables → Type 0
  IsOf i e = (c : FieldTables) × (slice_get es i ≡ Some c) × (c.field ≡ e.field)

  of_old : (i : ℕ) (e : FieldTables) → slice_get (set es at changed) i ≡ Some e → IsOf i e
  of_old i e h = elim (got_set es at changed i e h) [
    | inl same ↦ (d, subst (λ k. slice_get es k ≡ Some d) (sym same.0) here, ap (λ x. x.field) same.1)
    | inr old ↦ (e, old, refl)
  ]

  pub fields_set : AreFields (set es at changed)
  fields_set = record {
    valid = λ i e h. elim (got_set es at changed i e h) [ inl same ↦ subst (λ x. x.joint.valid ≡ valid_of x.field) same.1 valid_changed | inr old ↦ s.valid i e old ];
    apart = λ i k x y h l same.
        let a = of_old i x h in
        let b = of_old k y l in
        s.apart i k a.0 b.0 a.1 b.1 (a.2 ∙ same ∙ sym b.2);
  }

  pub extends_set : Extends es (set es at changed)
  extends_set i c h = elim (set_got es at changed i c h) [
    | inl same ↦
        let one : c ≡ d = one_place es at c d (subst (λ k. slice_get es k ≡ Some c) same.0 h) here in
        (changed, same.1, ap (λ x. x.field) (sym one), λ n t e. kept n t (subst (λ x. slice_get x.joint.terms n ≡ Some t) one e))
    | inr old ↦ (c, old.1, refl, λ n t e. e)
  ]

  pub term_set : (n : ℕ) (term : Term) → slice_get j.terms n ≡ Some term → HasTermAt (set es at changed) at n term
  term_set n term e = elim (set_got es at changed at d here) [ inl same ↦ (changed, same.1, e) | inr old ↦ absurd (old.0 refl) ]

pub terms_left : (old new : List Term) (term : Term) → new ≡ old ++ term ∷ [] → (n : ℕ) (t : Term) → slice_get old n ≡ Some t → slice_get new n ≡ Some t
terms_left old new term e n t h = subst (λ ts. slice_get ts n ≡ Some t) (sym e) (got_left old (term ∷ []) n t h)

pub terms_last : (old new : List Term) (term : Term) (n : ℕ) → new ≡ old ++ term ∷ [] → n ≡ length old → slice_get new n ≡ Some term
terms_last old new term n e l = subst (λ ts. slice_get ts n ≡ Some term) (sym e) (subst (λ m. slice_get (old ++ term ∷ []) m ≡ Some term) (sym l) (got_last old term))

-- ---- places

term_more : (a : Atom) (old new : List Term) (n : ℕ) → ((t : Term) → slice_get old n ≡ Some t → slice_get new n ≡ Some t) → IsTermOf old n a → IsTermOf new n a
term_more (Present f) old new n h k = tt
term_more (Within f term user) old new n h k = h term k

pub placed_more : (old new : List FieldTables) (a : Atom) (p : Place) → Extends old new → IsPlaced old a p → IsPlaced new a p
placed_more old new a p h s =
    let e = h p.field s.entry s.there in
    record { entry = e.0; there = e.1; same = e.2 ∙ s.same; term = term_more a s.entry.joint.terms e.0.joint.terms p.term (λ t k. e.3 p.term t k) s.term }

pub are_placed_more : (old new : List FieldTables) (atoms : List Atom) (places : List Place) → Extends old new → ArePlaced old atoms places → ArePlaced new atoms places
are_placed_more old new atoms places h s = record { long = s.long; each = λ k a p e g. placed_more old new a p h (s.each k a p e g) }

pub extends_then : (a b c : List FieldTables) → Extends a b → Extends b c → Extends a c
extends_then a b c h k i d e =
    let x = h i d e in
    let y = k i x.0 x.1 in
    (y.0, y.1, y.2 ∙ x.2, λ n t g. y.3 n t (x.3 n t g))

pub at_more : (old new : List FieldTables) (i : ℕ) (f : Field) → Extends old new → IsFieldAt old i f → IsFieldAt new i f
at_more old new i f h s = let e = h i s.0 s.1 in (e.0, e.1, e.2 ∙ s.2)

pub has_more : (old new : List FieldTables) (f : Field) → Extends old new → HasField old f → HasField new f
has_more old new f h s = (s.0, at_more old new s.0 f h s.1)

pub placed_at : (es : List FieldTables) (i n : ℕ) (a : Atom) → IsFieldAt es i (field_in a) → ((e : FieldTables) → slice_get es i ≡ Some e → IsTermOf e.joint.terms n a) →
    IsPlaced es a (record { field = i; term = n })
placed_at es i n a s term = record { entry = s.0; there = s.1; same = s.2; term = term s.0 s.1 }

pub term_there : (es : List FieldTables) (i n : ℕ) (term : Term) (f : Field) (user : Bool) → HasTermAt es i n term → (e : FieldTables) → slice_get es i ≡ Some e → IsTermOf e.joint.terms n (Within f term user)
term_there es i n term f user h e g = subst (λ x. slice_get x.joint.terms n ≡ Some term) (one_place es i h.0 e h.1 g) h.2

pub always_more : (old new : List FieldTables) → Extends old new → HasAlways old → HasAlways new
always_more old new h s f e = has_more old new f h (s f e)

pub none_placed : (fields : List FieldTables) → ArePlaced fields [] []
none_placed fields = record { long = refl; each = λ k a p e g. cc }

pub are_placed_push : (fields : List FieldTables) (atoms : List Atom) (places : List Place) (a : Atom) (p : Place) → ArePlaced fields atoms places → IsPlaced fields a p → ArePlaced fields (atoms ++ a ∷ []) (places ++ p ∷ [])
are_placed_push fields atoms places a p s here = record {
  long = length-append places (p ∷ []) ∙ ap (λ n. n + 1) s.long ∙ sym (length-append atoms (a ∷ []));
  each = λ k b q e g. elim (got_snoc atoms a k b e) [
    | inl old ↦ elim (got_snoc places p k q g) [
      | inl old' ↦ s.each k b q old old'
      | inr last ↦ let within = slice_get_within atoms k b old in let long = s.long in absurd (let at = last.0 in omega arith)
    ]
    | inr last ↦ elim (got_snoc places p k q g) [
      | inl old' ↦ let within = slice_get_within places k q old' in let long = s.long in absurd (let at = last.0 in omega arith)
      | inr last' ↦ subst (λ x. IsPlaced fields b x) last'.1 (subst (λ x. IsPlaced fields x p) last.1 here)
    ]
  ];
}

-- ---- the tables of a field

pub joint_at : (es : List FieldTables) (i : ℕ) (e : FieldTables) (f : Field) → AreFields es → slice_get es i ≡ Some e → e.field ≡ f → IsJointOf es f e.joint
joint_at es i e f s h same = record {
  there = (i, e, h, same, refl);
  only = λ k d g is. ap (λ x. x.joint) (one_place es i d e (subst (λ n. slice_get es n ≡ Some d) (s.apart k i d e g h (is ∙ sym same)) g) h);
}
