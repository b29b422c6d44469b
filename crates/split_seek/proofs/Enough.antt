-- With enough states no field has too many.
use Rattle.std.proofs.Common.{◌≡◌, ℕ, zero, suc, ◌+◌, Bool, true, false, ◌||◌, List, [], ◌∷◌, ◌++◌, map, length, length-append, Some, slice_get, refl, sym, ap, subst, cond, arith}
use Rattle.std.specs.List.{slice_index_or}
use Rattle.text_base.specs.Asked.{Bytes}
use Rattle.text_base.specs.declared.request.Field.{Field}
use Rattle.rx_term.specs.declared.terms.Term.{Term}
use Rattle.rx_term.specs.Language.{Each, SameSet, state}
use Rattle.rx_term.specs.Closing.{Claim, SameStates, words_from, words, Apart}
use Rattle.rx_rows.proofs.RowParts.{Each_left, Each_right, Each_append}
use Rattle.goal_form.specs.declared.atom.Atom.{Atom}
use Rattle.goal_form.specs.declared.atom.Atom.TheVariants.{Present, Within}
use Rattle.goal_form.specs.declared.goal.Goal.{Goal}
use Rattle.goal_form.specs.Fields.{same_field}
use Rattle.goal_form.specs.Formulas.{Path}
use Rattle.goal_form.specs.Goals.{claim_of, claims_of, is_user_of, has_user}
use Rattle.goal_form.specs.Unfinished.{Overflows}
use Rattle.goal_form.specs.Valid.{valid_of}
use Rattle.goal_tables.specs.Fields.{term_of, terms_of}
use Rattle.split_seek.specs.Findings.{has_user_in, AreEnough}

-- ---- users

or_right : (x y : Bool) → y ≡ true → (x || y) ≡ true
or_right true y h = refl
or_right false y h = h

user_at : (atoms : List Atom) (f : Field) (k : ℕ) → is_user_of (slice_get atoms k) f ≡ true → has_user_in atoms f ≡ true
user_at [] f k h = cc
user_at (a ∷ atoms) f zero h = rw h refl
user_at (a ∷ atoms) f (suc k) h = or_right (is_user_of (Some a) f) _ (user_at atoms f k h)

user_step : (atoms : List Atom) (f : Field) (k : ℕ) (more : Bool) → (more ≡ true → has_user_in atoms f ≡ true) → (b : Bool) → is_user_of (slice_get atoms k) f ≡ b → (b || more) ≡ true → has_user_in atoms f ≡ true
user_step atoms f k more rest true e h = user_at atoms f k e
user_step atoms f k more rest false e h = rest h

user_in : (atoms : List Atom) (f : Field) (path : Path) → has_user atoms path f ≡ true → has_user_in atoms f ≡ true
user_in atoms f [] h = cc
user_in atoms f (p ∷ ps) h = user_step atoms f p.0 (has_user atoms ps f) (user_in atoms f ps) (is_user_of (slice_get atoms p.0) f) refl h

-- ---- the terms of a path are among those of the goal

module _ (P : Term → Type 0) (f : Field) where
  own_at : (b : Bool) (term : Term) (holds : Bool) → Each P (cond b (term ∷ []) []) → Each P (map (λ (c : Claim). c.0) (cond b ((term, holds) ∷ []) []))
  own_at true term holds h = h
  own_at false term holds h = tt

  own_claim : (a : Atom) (holds : Bool) → Each P (term_of a f) → Each P (map (λ (c : Claim). c.0) (claim_of (Some a) holds f))
  own_claim (Present g) holds h = tt
  own_claim (Within g term user) holds h = own_at (same_field g f) term holds h

  claim_at : (atoms : List Atom) (k : ℕ) (holds : Bool) → Each P (terms_of atoms f) → Each P (map (λ (c : Claim). c.0) (claim_of (slice_get atoms k) holds f))
  claim_at [] k holds h = tt
  claim_at (a ∷ atoms) zero holds h = own_claim a holds (Each_left P (term_of a f) (terms_of atoms f) h)
  claim_at (a ∷ atoms) (suc k) holds h = claim_at atoms k holds (Each_right P (term_of a f) (terms_of atoms f) h)

  map_append : (xs ys : List Claim) → map (λ (c : Claim). c.0) (xs ++ ys) ≡ map (λ (c : Claim). c.0) xs ++ map (λ (c : Claim). c.0) ys
  map_append [] ys = refl
  map_append (x ∷ xs) ys = ap (λ z. x.0 ∷ z) (map_append xs ys)

  claims_at : (atoms : List Atom) (path : Path) → Each P (terms_of atoms f) → Each P (map (λ (c : Claim). c.0) (claims_of atoms path f))
  claims_at atoms [] h = tt
  claims_at atoms (p ∷ ps) h =
      subst (Each P) (sym (map_append (claim_of (slice_get atoms p.0) p.1 f) (claims_of atoms ps f)))
      (Each_append P (map (λ (c : Claim). c.0) (claim_of (slice_get atoms p.0) p.1 f)) (map (λ (c : Claim). c.0) (claims_of atoms ps f)) (claim_at atoms p.0 p.1 h) (claims_at atoms ps h))

states_path : (atoms : List Atom) (path : Path) (f : Field) (valid : Term) (v w : Bytes) → SameStates (valid ∷ terms_of atoms f) v w → SameStates (valid ∷ map (λ (c : Claim). c.0) (claims_of atoms path f)) v w
states_path atoms path f valid v w h = (h.0, claims_at (λ t. SameSet (state t v) (state t w)) f atoms path h.1)

each_map : {A : Type 0} (P Q : A → Type 0) (xs : List A) → ((x : A) → P x → Q x) → Each P xs → Each Q xs
each_map P Q [] f h = tt
each_map P Q (x ∷ xs) f h = (f x h.0, each_map P Q xs f h.1)

apart_map : {A : Type 0} (R S : A → A → Type 0) (xs : List A) → ((x y : A) → S x y → R x y) → Apart R xs → Apart S xs
apart_map R S [] f h = tt
apart_map R S (x ∷ xs) f h = (each_map (λ y. R x y → ⊥) (λ y. S x y → ⊥) xs (λ y none s. none (f x y s)) h.0, apart_map R S xs f h.1)

-- ---- the number of words

words_long : (ws : List Bytes) (es : List (ℕ × ℕ)) → length (words_from ws es) ≡ length ws + length es
words_long ws [] = omega arith
words_long ws (e ∷ es) =
    let more = words_long (ws ++ (slice_index_or ws e.0 [] ++ e.1 ∷ []) ∷ []) es in
    let one = length-append ws ((slice_index_or ws e.0 [] ++ e.1 ∷ []) ∷ []) in
    omega arith

pub none_full : (goal : Goal) (splits cap : ℕ) → AreEnough goal splits cap → (path : Path) (f : Field) (es : List (ℕ × ℕ)) → Overflows goal cap path f es → ⊥
none_full goal splits cap enough path f es o =
    let long = words_long ([] ∷ []) es in
    let many = o.many in
    enough.states f (user_in goal.atoms f path o.user) (words es) (omega arith)
    (apart_map _ _ (words es) (states_path goal.atoms path f (valid_of f)) o.apart.apart)
