-- The longest keys first: the same entries, in the order of prefix maps.
use Rattle.std.proofs.Common.{◌≡◌, ◌≤◌, ◌<◌, ◌⊎◌, inl, inr, ℕ, Bool, true, false, ◌&&◌, ◌||◌, ◌==◌, List, [], ◌∷◌, length, map, if◌then◌else◌, refl, arith}
use Rattle.std.specs.Prelude.{All, nat_lt}
use Rattle.std.specs.List.{list_all}
use Rattle.std.proofs.lemmas.Grind.{common_steps}
use Rattle.std.proofs.lemmas.Bool.{and_from, and_parts, lt-ltb, ltb-true, eqb-true}
use Rattle.std.proofs.lemmas.Bool.Decides.{nat_tests}
use Rattle.std.proofs.lemmas.List.Elements.{All-nil, All-cons, All-head, All-tail}
use Rattle.cfg_types.specs.Kinds.{is_empty, byte_order, longer_first, are_ordered}
use Rattle.cfg_types.specs.declared.trees.KeyThen.{KeyThen}
use Rattle.read_tree.specs.Maps.{put_longer, longest_first}

abbrev pub keys_of : List KeyThen → List (List ℕ)
keys_of ks = map (λ k. k.key) ks

-- ---- what holds of each entry

put_all : (P : KeyThen → Type 0) (k : KeyThen) (xs : List KeyThen) → P k → All P xs → All P (put_longer k xs)
put_all P k [] p all = All-cons P k [] p (All-nil P)
put_all P k (x ∷ xs) p all = by (nat_lt (length k.key) (length x.key)) (put_all P k xs p (All-tail P x xs all))
  where
    by : (b : Bool) → All P (put_longer k xs) → All P (if b then x ∷ put_longer k xs else k ∷ x ∷ xs)
    by true rest = All-cons P x (put_longer k xs) (All-head P x xs all) rest
    by false rest = All-cons P k (x ∷ xs) p all

pub all_longest : (P : KeyThen → Type 0) (ks : List KeyThen) → All P ks → All P (longest_first ks)
all_longest P [] all = all
all_longest P (k ∷ ks) all = put_all P k (longest_first ks) (All-head P k ks all) (all_longest P ks (All-tail P k ks all))

put_some : (k : KeyThen) (xs : List KeyThen) → is_empty (put_longer k xs) ≡ false
put_some k [] = refl
put_some k (x ∷ xs) = by (nat_lt (length k.key) (length x.key))
  where
    by : (b : Bool) → is_empty (if b then x ∷ put_longer k xs else k ∷ x ∷ xs) ≡ false
    by true = refl
    by false = refl

pub some_longest : (ks : List KeyThen) → is_empty ks ≡ false → is_empty (longest_first ks) ≡ false
some_longest [] e = absurd (cc e)
some_longest (k ∷ ks) e = put_some k (longest_first ks)

-- ---- keys

put_keys : (p : List ℕ → Bool) (k : KeyThen) (xs : List KeyThen) → p k.key ≡ true → list_all p (keys_of xs) ≡ true → list_all p (keys_of (put_longer k xs)) ≡ true
put_keys p k [] a all = and_from (p k.key) true a refl
put_keys p k (x ∷ xs) a all =
    let h = and_parts (p x.key) (list_all p (keys_of xs)) all in
    by (nat_lt (length k.key) (length x.key)) (and_from (p x.key) (list_all p (keys_of (put_longer k xs))) h.0 (put_keys p k xs a h.1))
  where
    by : (b : Bool) → list_all p (x.key ∷ keys_of (put_longer k xs)) ≡ true → list_all p (keys_of (if b then x ∷ put_longer k xs else k ∷ x ∷ xs)) ≡ true
    by true rest = rest
    by false rest = and_from (p k.key) (list_all p (keys_of (x ∷ xs))) a all

keys_longest : (p : List ℕ → Bool) (ks : List KeyThen) → list_all p (keys_of ks) ≡ true → list_all p (keys_of (longest_first ks)) ≡ true
keys_longest p [] all = refl
keys_longest p (k ∷ ks) all =
    let h = and_parts (p k.key) (list_all p (keys_of ks)) all in
    put_keys p k (longest_first ks) h.0 (keys_longest p ks h.1)

-- ---- their order

longer : (a b : List ℕ) → length b < length a → longer_first a b ≡ true
longer a b l = rw (lt-ltb (length b) (length a) l) refl

as_long : (a b : List ℕ) → length b ≤ length a → byte_order a b ≡ true → longer_first a b ≡ true
as_long a b l e = elim (cases (length b) (length a) l) [ inl m ↦ longer a b m | inr s ↦ level s e ]
  where
    cases : (m n : ℕ) → m ≤ n → (m < n) ⊎ (n ≡ m)
    cases m n l = grind arith

    level : length a ≡ length b → byte_order a b ≡ true → longer_first a b ≡ true
    level s e = grind (arith, common_steps, s, e)

no_longer : (a b : List ℕ) → longer_first a b ≡ true → length b ≤ length a
no_longer a b e = by (nat_lt (length b) (length a)) (length a == length b) refl refl e
  where
    by : (l s : Bool) → nat_lt (length b) (length a) ≡ l → (length a == length b) ≡ s → (l || (s && byte_order a b)) ≡ true → length b ≤ length a
    by true s f g h = let l = ltb-true (length b) (length a) f in omega (arith, l)
    by false true f g h = let s = eqb-true (length a) (length b) g in omega (arith, s)
    by false false f g h = absurd (cc h)

all_as_long : (k x : List ℕ) (ks : List (List ℕ)) → length x ≤ length k → list_all (byte_order k) ks ≡ true → list_all (longer_first x) ks ≡ true → list_all (longer_first k) ks ≡ true
all_as_long k x [] l all behind = refl
all_as_long k x (y ∷ ks) l all behind =
    let h = and_parts (byte_order k y) (list_all (byte_order k) ks) all in
    let b = and_parts (longer_first x y) (list_all (longer_first x) ks) behind in
    let m = no_longer x y b.0 in
    and_from (longer_first k y) (list_all (longer_first k) ks) (as_long k y (omega (arith, l, m)) h.0) (all_as_long k x ks l h.1 b.1)

put_ordered : (k : KeyThen) (xs : List KeyThen) → list_all (byte_order k.key) (keys_of xs) ≡ true → are_ordered longer_first (keys_of xs) ≡ true → are_ordered longer_first (keys_of (put_longer k xs)) ≡ true
put_ordered k [] all h = refl
put_ordered k (x ∷ xs) all h =
    let a = and_parts (byte_order k.key x.key) (list_all (byte_order k.key) (keys_of xs)) all in
    let o = and_parts (list_all (longer_first x.key) (keys_of xs)) (are_ordered longer_first (keys_of xs)) h in
    by (nat_lt (length k.key) (length x.key)) refl a.0 a.1 o.0 (put_ordered k xs a.1 o.1)
  where
    by : (b : Bool) → nat_lt (length k.key) (length x.key) ≡ b → byte_order k.key x.key ≡ true → list_all (byte_order k.key) (keys_of xs) ≡ true → list_all (longer_first x.key) (keys_of xs) ≡ true →
        are_ordered longer_first (keys_of (put_longer k xs)) ≡ true → are_ordered longer_first (keys_of (if b then x ∷ put_longer k xs else k ∷ x ∷ xs)) ≡ true
    by true e f a o rest =
        and_from (list_all (longer_first x.key) (keys_of (put_longer k xs))) (are_ordered longer_first (keys_of (put_longer k xs)))
        (put_keys (longer_first x.key) k xs (longer x.key k.key (ltb-true (length k.key) (length x.key) e)) o) rest
    by false e f a o rest =
        let l : length x.key ≤ length k.key = grind (arith, nat_tests, e) in
        and_from (list_all (longer_first k.key) (keys_of (x ∷ xs))) (are_ordered longer_first (keys_of (x ∷ xs)))
        (and_from (longer_first k.key x.key) (list_all (longer_first k.key) (keys_of xs)) (as_long k.key x.key l f) (all_as_long k.key x.key (keys_of xs) l a o)) h

pub ordered_longest : (ks : List KeyThen) → are_ordered byte_order (keys_of ks) ≡ true → are_ordered longer_first (keys_of (longest_first ks)) ≡ true
ordered_longest [] h = refl
ordered_longest (k ∷ ks) h =
    let p = and_parts (list_all (byte_order k.key) (keys_of ks)) (are_ordered byte_order (keys_of ks)) h in
    put_ordered k (longest_first ks) (keys_longest (byte_order k.key) ks p.0) (ordered_longest ks p.1)
