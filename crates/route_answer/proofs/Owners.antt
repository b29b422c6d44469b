-- The number of the host that owns a route is the number of a host.
use Rattle.std.proofs.Common.{◌≡◌, ℕ, zero, suc, ◌+◌, ◌<◌, ◌⊎◌, inl, inr, List, [], ◌∷◌, ◌++◌, length, replicate, Some, None, slice_get, arith}
use Rattle.cfg_types.specs.Order.{owners}

-- an element is one of the copies, or one behind them
copied_or : {A : Type 0} (m : ℕ) (v : A) (ys : List A) (n : ℕ) (x : A) → slice_get (replicate m v ++ ys) n ≡ Some x → (v ≡ x) ⊎ ((k : ℕ) × (slice_get ys k ≡ Some x))
copied_or zero v ys n x e = inr (n, e)
copied_or (suc m) v ys zero x e = inl (cc)
copied_or (suc m) v ys (suc n) x e = copied_or m v ys n x e

owner_within : {X A : Type 0} (f : X → List A) (start : ℕ) (xs : List X) (n h : ℕ) → slice_get (owners f start xs) n ≡ Some h → h < start + length xs
owner_within f start [] n h e = absurd (cc)
owner_within f start (x ∷ xs) n h e =
    elim (copied_or (length (f x)) start (owners f (start + 1) xs) n h e) [
      | inl s ↦ omega arith
      | inr (k, g) ↦ omega (arith, owner_within f (start + 1) xs k h g)
    ]

inside : {A : Type 0} (xs : List A) (i : ℕ) → i < length xs → None ≡ slice_get xs i → ⊥
inside [] i l e = omega arith
inside (x ∷ xs) zero l e = cc
inside (x ∷ xs) (suc i) l e = inside xs i (omega arith) e

-- so that host is there
pub owner_there : {X A : Type 0} (f : X → List A) (xs : List X) (n h : ℕ) → slice_get (owners f 0 xs) n ≡ Some h → None ≡ slice_get xs h → ⊥
owner_there f xs n h e k = let l = owner_within f 0 xs n h e in inside xs h (omega arith) k
