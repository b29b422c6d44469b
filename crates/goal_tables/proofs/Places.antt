-- Elements of lists by their places, where lists grow or one element changes.
use Rattle.std.proofs.Common.{◌≡◌, ℕ, zero, suc, List, [], ◌∷◌, ◌++◌, length, Some, slice_get, refl, ap, ◌⊎◌, inl, inr, arith}
use Rattle.std.proofs.Math.ListN.{set}

pub got_left : {A : Type 0} (xs ys : List A) (k : ℕ) (x : A) → slice_get xs k ≡ Some x → slice_get (xs ++ ys) k ≡ Some x
got_left [] ys k x e = cc
got_left (y ∷ xs) ys zero x e = e
got_left (y ∷ xs) ys (suc k) x e = got_left xs ys k x e

pub got_last : {A : Type 0} (xs : List A) (x : A) → slice_get (xs ++ x ∷ []) (length xs) ≡ Some x
got_last [] x = refl
got_last (y ∷ xs) x = got_last xs x

pub got_snoc : {A : Type 0} (xs : List A) (x : A) (k : ℕ) (y : A) → slice_get (xs ++ x ∷ []) k ≡ Some y → (slice_get xs k ≡ Some y) ⊎ ((k ≡ length xs) × (x ≡ y))
got_snoc [] x zero y e = let same : x ≡ y = cc in inr (refl, same)
got_snoc [] x (suc k) y e = cc
got_snoc (z ∷ xs) x zero y e = inl e
got_snoc (z ∷ xs) x (suc k) y e = elim (got_snoc xs x k y e) [ inl h ↦ inl h | inr h ↦ inr (ap suc h.0, h.1) ]

pub got_set : {A : Type 0} (xs : List A) (i : ℕ) (x : A) (k : ℕ) (y : A) → slice_get (set xs i x) k ≡ Some y → ((k ≡ i) × (x ≡ y)) ⊎ (slice_get xs k ≡ Some y)
got_set [] i x k y e = cc
got_set (z ∷ xs) zero x zero y e = let same : x ≡ y = cc in inl (refl, same)
got_set (z ∷ xs) zero x (suc k) y e = inr e
got_set (z ∷ xs) (suc i) x zero y e = inr e
got_set (z ∷ xs) (suc i) x (suc k) y e = elim (got_set xs i x k y e) [ inl h ↦ inl (ap suc h.0, h.1) | inr h ↦ inr h ]

pub set_got : {A : Type 0} (xs : List A) (i : ℕ) (x : A) (k : ℕ) (y : A) → slice_get xs k ≡ Some y →
    ((k ≡ i) × (slice_get (set xs i x) k ≡ Some x)) ⊎ ((k ≡ i → ⊥) × (slice_get (set xs i x) k ≡ Some y))
set_got [] i x k y e = cc
set_got (z ∷ xs) zero x zero y e = inl (refl, refl)
set_got (z ∷ xs) zero x (suc k) y e = inr (λ h. cc, e)
set_got (z ∷ xs) (suc i) x zero y e = inr (λ h. cc, e)
set_got (z ∷ xs) (suc i) x (suc k) y e = elim (set_got xs i x k y e) [ inl h ↦ inl (ap suc h.0, h.1) | inr h ↦ inr (λ s. h.0 (omega arith), h.1) ]

pub one_place : {A : Type 0} (xs : List A) (k : ℕ) (x y : A) → slice_get xs k ≡ Some x → slice_get xs k ≡ Some y → x ≡ y
one_place xs k x y a b = cc
