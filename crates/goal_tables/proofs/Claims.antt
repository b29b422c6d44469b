-- What a path says of a field, one step after the other.
use Rattle.std.proofs.Common.{◌≡◌, ℕ, ◌<◌, Bool, true, false, ◌||◌, ◌&&◌, List, [], ◌∷◌, ◌++◌, map, length, Some, None, slice_get, refl, sym, ap, ap₂, subst, ◌∙◌, append_assoc, append-nil}
use mathlib.Core.Bool.{not}
use Rattle.std.specs.List.{list_any}
use Rattle.std.proofs.lemmas.List.Folds.{list_any-append}
use Rattle.std.proofs.lemmas.Option.{slice_get_within, get_or_from_slice_get}
use Rattle.text_base.specs.declared.request.Field.{Field}
use Rattle.rx_term.specs.declared.terms.Term.{Term, Nothing}
use Rattle.rx_auto.specs.Node.{term_at}
use Rattle.rx_rows.proofs.RowParts.{Each_append}
use Rattle.rx_joint.specs.Claims.{chosen, AreChosen}
use Rattle.goal_form.specs.declared.atom.Atom.{Atom}
use Rattle.goal_form.specs.declared.atom.Atom.TheVariants.{Present, Within}
use Rattle.goal_form.specs.Formulas.{Path}
use Rattle.goal_form.specs.Fields.{same_field}
use Rattle.goal_form.specs.Goals.{field_in, denies, is_user_of, claim_of, claims_of, is_claimed_absent, has_user}
use Rattle.goal_form.proofs.SameFields.{same_field_is, same_refl}
use Rattle.goal_tables.specs.Tables.{IsSilent}

-- what the steps so far say of the field: the flags, and the choice among its terms
pub record Says (atoms : List Atom) (f : Field) (terms : List Term) (path : Path) (absent user : Bool) (choice : List (ℕ × Bool)) : Type 0 where
  pub absent_is : absent ≡ is_claimed_absent atoms path f
  pub user_is : user ≡ has_user atoms path f
  pub within : AreChosen terms choice
  pub claims : chosen terms choice ≡ claims_of atoms path f

pub says_none : (atoms : List Atom) (f : Field) (terms : List Term) → Says atoms f terms [] false false []
says_none atoms f terms = record { absent_is = refl; user_is = refl; within = tt; claims = refl }

or_false : (x : Bool) → (x || false) ≡ x
or_false true = refl
or_false false = refl

claims_more : (atoms : List Atom) (path : Path) (p : ℕ × Bool) (f : Field) → claims_of atoms (path ++ p ∷ []) f ≡ claims_of atoms path f ++ claim_of (slice_get atoms p.0) p.1 f
claims_more atoms [] p f = append-nil (claim_of (slice_get atoms p.0) p.1 f)
claims_more atoms (q ∷ path) p f =
    ap (λ z. claim_of (slice_get atoms q.0) q.1 f ++ z) (claims_more atoms path p f)
    ∙ sym (append_assoc (claim_of (slice_get atoms q.0) q.1 f) (claims_of atoms path f) (claim_of (slice_get atoms p.0) p.1 f))

map_snoc : {A B : Type 0} (g : A → B) (xs : List A) (x : A) → map g (xs ++ x ∷ []) ≡ map g xs ++ g x ∷ []
map_snoc g [] x = refl
map_snoc g (y ∷ xs) x = ap (λ z. g y ∷ z) (map_snoc g xs x)

any_more : (g : ℕ × Bool → Bool) (path : Path) (p : ℕ × Bool) (b : Bool) → b ≡ list_any g path → (b || g p) ≡ list_any g (path ++ p ∷ [])
any_more g path p b e = ap₂ (λ x y. x || y) e (sym (or_false (g p))) ∙ sym (list_any-append g path (p ∷ []))

other : (f g : Field) → (g ≡ f → ⊥) → same_field g f ≡ false
other f g none = at (same_field g f) refl
  where
    at : (b : Bool) → same_field g f ≡ b → b ≡ false
    at true e = absurd (none (same_field_is g f e))
    at false e = refl

pub none_silent : (f : Field) → IsSilent None f
none_silent f = record { denies_not = refl; user_not = refl; claim_not = λ b. refl }

pub other_silent : (a : Atom) (f : Field) → (field_in a ≡ f → ⊥) → IsSilent (Some a) f
other_silent (Present g) f none = record { denies_not = other f g none; user_not = refl; claim_not = λ b. refl }
other_silent (Within g term user) f none =
    let e = other f g none in
    record { denies_not = refl; user_not = rw e refl; claim_not = λ b. rw e refl }

module _ (atoms : List Atom) (f : Field) (terms : List Term) (path : Path) (absent user : Bool) (choice : List (ℕ × Bool)) (s : Says atoms f terms path absent user choice) (p : ℕ × Bool) where
  and_no : (x : Bool) → (x && false) ≡ false
  and_no true = refl
  and_no false = refl

  flag : (g : ℕ × Bool → Bool) (b : Bool) → b ≡ list_any g path → g p ≡ false → b ≡ list_any g (path ++ p ∷ [])
  flag g b e none = sym (or_false b) ∙ ap (λ x. b || x) (sym none) ∙ any_more g path p b e

  pub says_silent : IsSilent (slice_get atoms p.0) f → Says atoms f terms (path ++ p ∷ []) absent user choice
  says_silent k = record {
    absent_is = flag (λ q. not q.1 && denies (slice_get atoms q.0) f) absent s.absent_is (ap (λ x. not p.1 && x) k.denies_not ∙ and_no (not p.1));
    user_is = flag (λ q. is_user_of (slice_get atoms q.0) f) user s.user_is k.user_not;
    within = s.within;
    claims = s.claims ∙ sym (claims_more atoms path p f ∙ ap (λ z. claims_of atoms path f ++ z) (k.claim_not p.1) ∙ append-nil (claims_of atoms path f));
  }

  pub says_present : (g : Field) → slice_get atoms p.0 ≡ Some (Present g) → g ≡ f → Says atoms f terms (path ++ p ∷ []) (absent || not p.1) user choice
  says_present g e same =
      let yes : same_field g f ≡ true = subst (λ x. same_field g x ≡ true) same (same_refl g) in
      record {
        absent_is = ap (λ x. absent || x) (and_yes (not p.1) (denies (slice_get atoms p.0) f) (ap (λ o. denies o f) e ∙ yes))
            ∙ any_more (λ q. not q.1 && denies (slice_get atoms q.0) f) path p absent s.absent_is;
        user_is = flag (λ q. is_user_of (slice_get atoms q.0) f) user s.user_is (ap (λ o. is_user_of o f) e);
        within = s.within;
        claims = s.claims ∙ sym (claims_more atoms path p f ∙ ap (λ o. claims_of atoms path f ++ claim_of o p.1 f) e ∙ append-nil (claims_of atoms path f));
      }
    where
      and_yes : (x y : Bool) → y ≡ true → x ≡ (x && y)
      and_yes true y h = sym h
      and_yes false y h = refl

  pub says_within : (g : Field) (term : Term) (own : Bool) (n : ℕ) → slice_get atoms p.0 ≡ Some (Within g term own) → g ≡ f → slice_get terms n ≡ Some term →
      Says atoms f terms (path ++ p ∷ []) absent (user || own) (choice ++ (n, p.1) ∷ [])
  says_within g term own n e same there =
      let yes : same_field g f ≡ true = subst (λ x. same_field g x ≡ true) same (same_refl g) in
      let claim : claim_of (slice_get atoms p.0) p.1 f ≡ (term, p.1) ∷ [] = ap (λ o. claim_of o p.1 f) e ∙ rw yes refl in
      record {
        absent_is = flag (λ q. not q.1 && denies (slice_get atoms q.0) f) absent s.absent_is (ap (λ o. not p.1 && denies o f) e ∙ and_no (not p.1));
        user_is = ap (λ x. user || x) (sym (ap (λ o. is_user_of o f) e ∙ ap (λ b. b && own) yes)) ∙ any_more (λ q. is_user_of (slice_get atoms q.0) f) path p user s.user_is;
        within = Each_append (λ x. x.0 < length terms) choice ((n, p.1) ∷ []) s.within (slice_get_within terms n term there, tt);
        claims = map_snoc (λ x. (term_at terms x.0, x.1)) choice (n, p.1)
            ∙ ap₂ (λ xs x. xs ++ (x, p.1) ∷ []) s.claims (get_or_from_slice_get terms n term Nothing there)
            ∙ sym (claims_more atoms path p f ∙ ap (λ z. claims_of atoms path f ++ z) claim);
      }
