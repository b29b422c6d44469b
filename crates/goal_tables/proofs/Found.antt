-- What a place, and what an atom of a field, tell.
use Rattle.std.proofs.Common.{◌≡◌, ℕ, ◌<◌, List, ◌++◌, ◌∷◌, [], Bool, length, Some, slice_get, sym, ap, subst, ◌∙◌, inl, inr, arith}
use Rattle.std.proofs.lemmas.Option.{slice_get_within, slice_get_cases}
use Rattle.text_base.specs.declared.request.Field.{Field}
use Rattle.text_base.specs.declared.request.Field.TheVariants as field
use Rattle.rx_term.specs.declared.terms.Term.{Term}
use Rattle.goal_form.specs.declared.atom.Atom.{Atom}
use Rattle.goal_form.specs.declared.atom.Atom.TheVariants.{Within}
use Rattle.goal_form.specs.Goals.{field_in}
use Rattle.goal_tables.specs.declared.fields.FieldTables.{FieldTables}
use Rattle.goal_tables.specs.declared.fields.Place.{Place}
use Rattle.goal_tables.specs.Fields.{IsFieldAt, HasField, HasAlways, AreFields, IsTermOf, IsPlaced, ArePlaced, Extends}
use Rattle.goal_tables.specs.Tables.{AreShared, NamesField, IsSilent}
use Rattle.goal_tables.proofs.Places.{one_place}
use Rattle.goal_tables.proofs.Growing.{are_placed_more, are_placed_push, always_more}
use Rattle.goal_tables.proofs.Claims.{other_silent}

pub same_within : {f g : Field} {s t : Term} {u v : Bool} → Within f s u ≡ Within g t v → s ≡ t
same_within e = cc

atom_there : (atoms : List Atom) (k n : ℕ) → n ≡ length atoms → k < n → (a : Atom) × (slice_get atoms k ≡ Some a)
atom_there atoms k n long lt = elim (slice_get_cases atoms k).1 [ inl h ↦ (h.0, h.2) | inr h ↦ absurd (let past = h.0 in omega arith) ]

module _ (atoms : List Atom) (fields : List FieldTables) (places : List Place) (placed : ArePlaced fields atoms places) (k at : ℕ) (p : Place) (here : slice_get places k ≡ Some p) where
  pub names_at : p.field ≡ at → NamesField atoms fields k at p.term
  names_at e =
      let a = atom_there atoms k (length places) placed.long (slice_get_within places k p here) in
      let s = placed.each k a.0 p a.1 here in
      record { atom = a.0; is = a.1; entry = s.entry; there = subst (λ n. slice_get fields n ≡ Some s.entry) e s.there; same = s.same; term = s.term }

  pub silent_at : AreFields fields → (p.field ≡ at → ⊥) → (f : Field) → IsFieldAt fields at f → IsSilent (slice_get atoms k) f
  silent_at formed other f d =
      let a = atom_there atoms k (length places) placed.long (slice_get_within places k p here) in
      let s = placed.each k a.0 p a.1 here in
      subst (λ o. IsSilent o f) (sym a.1) (other_silent a.0 f (λ same. other (formed.apart p.field at s.entry d.0 s.there d.1 (s.same ∙ same ∙ sym d.2))))

module _ (atoms : List Atom) (fields : List FieldTables) (k at n : ℕ) (s : NamesField atoms fields k at n) (f : Field) (d : IsFieldAt fields at f) where
  pub names_field : (a : Atom) → slice_get atoms k ≡ Some a → field_in a ≡ f
  names_field a e =
      let one : s.atom ≡ a = one_place atoms k s.atom a s.is e in
      let entry : s.entry ≡ d.0 = one_place fields at s.entry d.0 s.there d.1 in
      ap field_in (sym one) ∙ sym s.same ∙ ap (λ x. x.field) entry ∙ d.2

  pub names_term : (entry : FieldTables) → slice_get fields at ≡ Some entry → (g : Field) (term : Term) (own : Bool) → slice_get atoms k ≡ Some (Within g term own) → slice_get entry.joint.terms n ≡ Some term
  names_term entry there g term own e =
      let one : s.atom ≡ Within g term own = one_place atoms k s.atom (Within g term own) s.is e in
      let same : s.entry ≡ entry = one_place fields at s.entry entry s.there there in
      subst (λ x. slice_get x.joint.terms n ≡ Some term) same (subst (IsTermOf s.entry.joint.terms n) one s.term)

pub field_is : (fields : List FieldTables) (at : ℕ) (entry : FieldTables) (f : Field) → slice_get fields at ≡ Some entry → IsFieldAt fields at f → entry.field ≡ f
field_is fields at entry f here d = ap (λ x. x.field) (one_place fields at entry d.0 here d.1) ∙ d.2

-- the term of an atom by its place
pub term_placed : (fields : List FieldTables) (p : Place) (f : Field) (term : Term) (user : Bool) → IsPlaced fields (Within f term user) p → (entry : FieldTables) → slice_get fields p.field ≡ Some entry →
    slice_get entry.joint.terms p.term ≡ Some term
term_placed fields p f term user s entry there =
    subst (λ x. slice_get x.joint.terms p.term ≡ Some term) (one_place fields p.field s.entry entry s.there there) s.term

-- ---- shared tables

module _ (old new : List FieldTables) (atoms : List Atom) (places : List Place) (s : AreShared old atoms places) (formed : AreFields new) (more : Extends old new) where
  pub shared_more : AreShared new atoms places
  shared_more = record { formed = formed; always = always_more old new more s.always; placed = are_placed_more old new atoms places more s.placed }

  pub shared_push : (a : Atom) (p : Place) → IsPlaced new a p → AreShared new (atoms ++ a ∷ []) (places ++ p ∷ [])
  shared_push a p here = record {
    formed = formed;
    always = always_more old new more s.always;
    placed = are_placed_push new atoms places a p (are_placed_more old new atoms places more s.placed) here;
  }

pub always_five : (es : List FieldTables) → HasField es field.Authority → HasField es field.Target → HasField es field.Method → HasField es field.Proto → HasField es field.Random → HasAlways es
always_five es a t m p r field.Authority e = a
always_five es a t m p r field.Target e = t
always_five es a t m p r field.Method e = m
always_five es a t m p r field.Proto e = p
always_five es a t m p r field.Random e = r
always_five es a t m p r field.Runtime e = cc
always_five es a t m p r field.Internal e = cc
always_five es a t m p r (field.Header name) e = cc
