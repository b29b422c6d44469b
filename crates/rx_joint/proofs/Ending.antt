-- Which tables have an ending place among the live ones.
use Rattle.std.proofs.Common.{◌≡◌, ℕ, zero, suc, ◌+◌, ◌<◌, ◌/◌, Bool, true, false, IsTrue, ◌↔◌, inl, inr, List, [], ◌∷◌, length, get_or, take, refl, sym, ◌∙◌, ap, subst, arith}
use Rattle.rx_term.specs.declared.terms.Term.{Term}
use Rattle.rx_term.specs.Language.{Has, nullable}
use Rattle.rx_term.specs.Closing.{Is}
use Rattle.rx_auto.proofs.Likeness.{Has_get, Has_taken}
use Rattle.rx_auto.specs.Node.{term_at}
use Rattle.rx_joint.specs.Joint.{table_of, place_of, table_at, AreNumbers, Ends}
use Rattle.rx_joint.specs.Claims.{hold_at, AreWanted}

clash : false ≡ true → ⊥
clash k = cc

-- a table that has to have the text is there
pub held_below : (holds : List Bool) (i : ℕ) → hold_at holds i ≡ true → i < length holds
held_below [] i h = absurd (clash h)
held_below (b ∷ holds) zero h = omega arith
held_below (b ∷ holds) (suc i) h = omega (arith, held_below holds i h)

module _ (tables : List (List Term)) (list : List ℕ) (i : ℕ) (l : i < length list) where
  pub one_number : AreNumbers tables list → AreNumbers tables (get_or list i 0 ∷ [])
  one_number a g (inl e) = subst (λ z. (table_of z < length tables) × (place_of z < length (table_at tables (table_of z)))) e (a (get_or list i 0) (Has_get list i 0 l))
  one_number a g (inr z) = absurd z

  pub ends_found : (t : ℕ) → Ends tables (get_or list i 0 ∷ []) t → Ends tables list t
  ends_found t e = (e.0, by e.0 e.1, e.2, e.3)
    where
      by : (g : ℕ) → Has (get_or list i 0 ∷ []) g → Has list g
      by g (inl e) = subst (Has list) e (Has_get list i 0 l)
      by g (inr z) = absurd z

  pub ends_taken : (t : ℕ) → (Ends tables (take i list) t → ⊥) → (Ends tables (get_or list i 0 ∷ []) t → ⊥) → Ends tables (take (i + 1) list) t → ⊥
  ends_taken t none other e = elim (Has_taken list i 0 e.0 l e.1) [ inl k ↦ none (e.0, k, e.2, e.3) | inr k ↦ other (e.0, inl k, e.2, e.3) ]

-- the only place is that of its own table
pub ends_own : (tables : List (List Term)) (g t : ℕ) → Ends tables (g ∷ []) t → table_of g ≡ t
ends_own tables g t e = by e.1
  where
    by : Has (g ∷ []) e.0 → table_of g ≡ t
    by (inl q) = ap table_of q ∙ e.2
    by (inr z) = absurd z

-- the only place ends exactly where its term has the empty text
pub ends_one : (tables : List (List Term)) (g : ℕ) (ts : List Term) (r : Bool) → table_at tables (table_of g) ≡ ts → r ≡ nullable (term_at ts (place_of g)) →
    IsTrue r ↔ Ends tables (g ∷ []) (g / 4294967296)
ends_one tables g ts r e n = (
  λ h. (g, inl refl, refl, ap (λ z. nullable (term_at z (place_of g))) e ∙ sym n ∙ h),
  λ h. n ∙ ap (λ z. nullable (term_at z (place_of g))) (sym e) ∙ by h.0 h.1 h.3,
)
  where
    by : (x : ℕ) → Has (g ∷ []) x → nullable (term_at (table_at tables (table_of x)) (place_of x)) ≡ true → nullable (term_at (table_at tables (table_of g)) (place_of g)) ≡ true
    by x (inl q) k = ap (λ z. nullable (term_at (table_at tables (table_of z)) (place_of z))) q ∙ k
    by x (inr z) k = absurd z

module _ (tables : List (List Term)) (holds : List Bool) (wanted list : List ℕ) (numbers : AreNumbers tables list) (long : length holds ≡ length tables) (wants : AreWanted holds wanted) where
  -- a place ends that is not to
  pub not_unwanted : ((i : ℕ) × (hold_at holds i ≡ false) × Ends tables list i) → ((i : ℕ) → i < length holds → Is (hold_at holds i) (Ends tables list i)) → ⊥
  not_unwanted h f = subst (λ b. Is b (Ends tables list h.0)) h.1 (f h.0 below) h.2
    where
      below : h.0 < length holds
      below = let k = numbers h.2.0 h.2.1 in let e = h.2.2 in omega (arith, k.0, long, e)

  -- no place ends of a table that is to have one
  pub not_wanted : (i : ℕ) → Has wanted i → (Ends tables list i → ⊥) → ((i : ℕ) → i < length holds → Is (hold_at holds i) (Ends tables list i)) → ⊥
  not_wanted i h none f =
      let t = (wants i).0 h in
      none (subst (λ b. Is b (Ends tables list i)) t (f i (held_below holds i t)))

  pub all_as : (((i : ℕ) × (hold_at holds i ≡ false) × Ends tables list i) → ⊥) → ((i : ℕ) → Has wanted i → Ends tables list i) →
      (i : ℕ) → i < length holds → Is (hold_at holds i) (Ends tables list i)
  all_as none each i l = by (hold_at holds i) refl
    where
      by : (b : Bool) → hold_at holds i ≡ b → Is (hold_at holds i) (Ends tables list i)
      by true e = subst (λ b. Is b (Ends tables list i)) (sym e) (each i ((wants i).1 e))
      by false e = subst (λ b. Is b (Ends tables list i)) (sym e) (λ h. none (i, e, h))
