-- Lists put together from the lists of elements.
use Rattle.std.proofs.Common.{◌≡◌, ◌<◌, ◌≤◌, ◌+◌, ℕ, zero, suc, List, [], ◌∷◌, ◌++◌, length, take, drop, get_or, flat_map, None, slice_get, refl, sym, ◌∙◌, ap, arith, take-append-drop, drop-cons, length-append, append-nil}
use Rattle.std.proofs.lemmas.Grind.{flat_map-append}
use Rattle.std.proofs.lemmas.List.{take_more}

-- the lists before one element, its list, and the lists after it
pub flat_map_at : {A B : Type 0} (f : A → List B) (xs : List A) (i : ℕ) (x : A) → i < length xs → x ≡ get_or xs i x → flat_map f xs ≡ flat_map f (take i xs) ++ (f x ++ flat_map f (drop (suc i) xs))
flat_map_at f xs i x lt is =
    ap (flat_map f) (sym (take-append-drop i xs))
    ∙ flat_map-append f (take i xs) (drop i xs)
    ∙ ap (λ t. flat_map f (take i xs) ++ flat_map f t) (drop-cons xs i x lt)
    ∙ ap (λ y. flat_map f (take i xs) ++ (f y ++ flat_map f (drop (suc i) xs))) (sym is)

-- the lists through one element
pub flat_map_through : {A B : Type 0} (f : A → List B) (xs : List A) (i : ℕ) (x : A) → i < length xs → x ≡ get_or xs i x → flat_map f (take (i + 1) xs) ≡ flat_map f (take i xs) ++ f x
flat_map_through f xs i x lt is =
    rw (take_more xs i x lt, flat_map-append f (take i xs) (get_or xs i x ∷ []))
    (ap (λ t. flat_map f (take i xs) ++ t) (append-nil (f (get_or xs i x))) ∙ ap (λ y. flat_map f (take i xs) ++ f y) (sym is))

pub slice_get-front : {A : Type 0} (xs ys : List A) (at : ℕ) → at < length xs → slice_get (xs ++ ys) at ≡ slice_get xs at
slice_get-front [] ys at h = absurd (omega arith)
slice_get-front (x ∷ xs) ys zero h = refl
slice_get-front (x ∷ xs) ys (suc at) h = slice_get-front xs ys at (omega arith)

pub slice_get-past : {A : Type 0} (xs ys : List A) (at left : ℕ) → at ≡ left + length xs → slice_get (xs ++ ys) at ≡ slice_get ys left
slice_get-past [] ys at left e = ap (slice_get ys) (omega (arith, e))
slice_get-past (x ∷ xs) ys zero left e = absurd (omega arith)
slice_get-past (x ∷ xs) ys (suc at) left e = slice_get-past xs ys at left (omega arith)

pub slice_get-none : {A : Type 0} (xs : List A) (at : ℕ) → length xs ≤ at → slice_get xs at ≡ None
slice_get-none [] at h = refl
slice_get-none (x ∷ xs) zero h = absurd (omega arith)
slice_get-none (x ∷ xs) (suc at) h = slice_get-none xs at (omega arith)

-- an element of the list of element i
pub flat_map_get : {A B : Type 0} (f : A → List B) (xs : List A) (i : ℕ) (x : A) (at left : ℕ) → i < length xs → x ≡ get_or xs i x → at ≡ left + length (flat_map f (take i xs)) → left < length (f x) → slice_get (flat_map f xs) at ≡ slice_get (f x) left
flat_map_get f xs i x at left lt is e h =
    rw (flat_map_at f xs i x lt is)
    (slice_get-past (flat_map f (take i xs)) (f x ++ flat_map f (drop (suc i) xs)) at left e ∙ slice_get-front (f x) (flat_map f (drop (suc i) xs)) left h)

-- past the list of element i
pub flat_map_left : {A B : Type 0} (f : A → List B) (xs : List A) (i : ℕ) (x : A) (at left more : ℕ) → i < length xs → x ≡ get_or xs i x → at ≡ left + length (flat_map f (take i xs)) → left ≡ more + length (f x) → at ≡ more + length (flat_map f (take (i + 1) xs))
flat_map_left f xs i x at left more lt is e p = rw (flat_map_through f xs i x lt is) (omega (arith, e, p, length-append (flat_map f (take i xs)) (f x)))
