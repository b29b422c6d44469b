-- The orders of keys: none is before itself, and what is before one that is before another is before that one.
use Rattle.std.proofs.Common.{◌≡◌, ◌≤◌, ◌<◌, ◌+◌, ◌-◌, ◌⊎◌, inl, inr, ℕ, zero, suc, Bool, true, false, ◌&&◌, ◌||◌, ◌==◌, List, [], ◌∷◌, length, get_or, refl, sym, ◌∙◌, subst, arith}
use Rattle.std.specs.Prelude.{nat_lt}
use Rattle.std.specs.List.{list_all}
use Rattle.std.proofs.lemmas.Grind.{common_steps}
use Rattle.std.proofs.lemmas.Bool.{and_parts, and_from, lt-ltb, ltb-true, eqb-true}
use Rattle.text_base.specs.Asked.{Bytes}
use Rattle.cfg_types.specs.Kinds.{byte_order, longer_first, are_ordered}
use Rattle.match_tree.specs.KeyOrder.{order}

-- ---- one step: a number is less, or the same and the rest decides

less_step : (x y : ℕ) (r : Bool) → (nat_lt x y || (x == y && r)) ≡ true → (x < y) ⊎ ((x ≡ y) × (r ≡ true))
less_step x y r e = by (nat_lt x y) (x == y) r refl refl e
  where
    by : (l s : Bool) (r : Bool) → nat_lt x y ≡ l → (x == y) ≡ s → (l || (s && r)) ≡ true → (x < y) ⊎ ((x ≡ y) × (r ≡ true))
    by true s r p q e = inl (ltb-true x y p)
    by false true r p q e = inr (eqb-true x y q, e)
    by false false r p q e = absurd (cc e)

step_less : (x y : ℕ) (r : Bool) → (x < y) ⊎ ((x ≡ y) × (r ≡ true)) → (nat_lt x y || (x == y && r)) ≡ true
step_less x y r (inl l) = rw (lt-ltb x y l) refl
step_less x y r (inr s) = grind (arith, common_steps, s)

not_less : (x : ℕ) (r : Bool) → r ≡ false → (nat_lt x x || (x == x && r)) ≡ false
not_less x r e = grind (arith, common_steps, e)

chain : (x y z : ℕ) (r s t : Bool) → (r ≡ true → s ≡ true → t ≡ true) → (x < y) ⊎ ((x ≡ y) × (r ≡ true)) → (y < z) ⊎ ((y ≡ z) × (s ≡ true)) → (x < z) ⊎ ((x ≡ z) × (t ≡ true))
chain x y z r s t f (inl l) (inl m) = inl (omega arith)
chain x y z r s t f (inl l) (inr m) = let e = m.0 in inl (omega arith)
chain x y z r s t f (inr l) (inl m) = let e = l.0 in inl (omega arith)
chain x y z r s t f (inr l) (inr m) = inr (l.0 ∙ m.0, f l.1 m.1)

-- ---- the two orders

byte-apart : (a : Bytes) → byte_order a a ≡ false
byte-apart [] = refl
byte-apart (x ∷ a) = not_less x (byte_order a a) (byte-apart a)

byte-chain : (a b c : Bytes) → byte_order a b ≡ true → byte_order b c ≡ true → byte_order a c ≡ true
byte-chain [] [] c e f = f
byte-chain [] (y ∷ b) [] e f = absurd (cc f)
byte-chain [] (y ∷ b) (z ∷ c) e f = refl
byte-chain (x ∷ a) [] c e f = absurd (cc e)
byte-chain (x ∷ a) (y ∷ b) [] e f = absurd (cc f)
byte-chain (x ∷ a) (y ∷ b) (z ∷ c) e f =
    step_less x z (byte_order a c) (chain x y z _ _ _ (byte-chain a b c) (less_step x y (byte_order a b) e) (less_step y z (byte_order b c) f))

pub length_step : (a b : Bytes) → longer_first a b ≡ true → (length b < length a) ⊎ ((length a ≡ length b) × (byte_order a b ≡ true))
length_step a b e = by (nat_lt (length b) (length a)) (length a == length b) refl refl e
  where
    by : (l s : Bool) → nat_lt (length b) (length a) ≡ l → (length a == length b) ≡ s → (l || (s && byte_order a b)) ≡ true → (length b < length a) ⊎ ((length a ≡ length b) × (byte_order a b ≡ true))
    by true s p q e = inl (ltb-true (length b) (length a) p)
    by false true p q e = inr (eqb-true (length a) (length b) q, e)
    by false false p q e = absurd (cc e)

step_length : (a b : Bytes) → (length b < length a) ⊎ ((length a ≡ length b) × (byte_order a b ≡ true)) → longer_first a b ≡ true
step_length a b (inl l) = rw (lt-ltb (length b) (length a) l) refl
step_length a b (inr s) = grind (arith, common_steps, s)

chain_lengths : (a b c : Bytes) → (length b < length a) ⊎ ((length a ≡ length b) × (byte_order a b ≡ true)) → (length c < length b) ⊎ ((length b ≡ length c) × (byte_order b c ≡ true)) →
    (length c < length a) ⊎ ((length a ≡ length c) × (byte_order a c ≡ true))
chain_lengths a b c (inl l) (inl m) = inl (omega arith)
chain_lengths a b c (inl l) (inr m) = let e = m.0 in inl (omega arith)
chain_lengths a b c (inr l) (inl m) = let e = l.0 in inl (omega arith)
chain_lengths a b c (inr l) (inr m) = inr (l.0 ∙ m.0, byte-chain a b c l.1 m.1)

pub apart : (b : Bool) (a : Bytes) → order b a a ≡ false
apart true a = not_less (length a) (byte_order a a) (byte-apart a)
apart false a = byte-apart a

pub chained : (o : Bool) (a b c : Bytes) → order o a b ≡ true → order o b c ≡ true → order o a c ≡ true
chained true a b c e f = step_length a c (chain_lengths a b c (length_step a b e) (length_step b c f))
chained false a b c e f = byte-chain a b c e f

-- ---- keys in order

head_before : (o : Bool) (k : Bytes) (ks : List Bytes) (j : ℕ) → list_all (order o k) ks ≡ true → j < length ks → order o k (get_or ks j []) ≡ true
head_before o k [] j e lt = absurd (omega arith)
head_before o k (x ∷ ks) zero e lt = (and_parts (order o k x) (list_all (order o k) ks) e).0
head_before o k (x ∷ ks) (suc j) e lt = head_before o k ks j (and_parts (order o k x) (list_all (order o k) ks) e).1 (omega arith)

pub in_order : (o : Bool) (ks : List Bytes) (i j : ℕ) → are_ordered (order o) ks ≡ true → i < j → j < length ks → order o (get_or ks i []) (get_or ks j []) ≡ true
in_order o [] i j e l lt = absurd (omega arith)
in_order o (k ∷ ks) i zero e l lt = absurd (omega arith)
in_order o (k ∷ ks) zero (suc j) e l lt = head_before o k ks j (and_parts (list_all (order o k) ks) (are_ordered (order o) ks) e).0 (omega arith)
in_order o (k ∷ ks) (suc i) (suc j) e l lt = in_order o ks i j (and_parts (list_all (order o k) ks) (are_ordered (order o) ks) e).1 (omega arith) (omega arith)

-- what comes before the first key behind it comes before all of them
abbrev pub AreApart : Bool → List Bytes → ℕ → Type 0
AreApart o ks n = (i j : ℕ) → i < j → j < n → j < length ks → order o (get_or ks i []) (get_or ks j []) ≡ true

pub apart_more : (o : Bool) (ks : List Bytes) (n : ℕ) → 1 ≤ n → n < length ks → AreApart o ks n → order o (get_or ks (n - 1) []) (get_or ks n []) ≡ true → AreApart o ks (n + 1)
apart_more o ks n pos lt h e i j l m k = elim (three i j n l m) [
  | inl p ↦ h i j l p k
  | inr r ↦ elim r [
    | inl p ↦ subst (λ x. order o (get_or ks i []) (get_or ks x []) ≡ true) (sym p.1) (subst (λ x. order o (get_or ks x []) (get_or ks n []) ≡ true) (sym p.0) e)
    | inr p ↦ subst (λ x. order o (get_or ks i []) (get_or ks x []) ≡ true) (sym p.1) (chained o (get_or ks i []) (get_or ks (n - 1) []) (get_or ks n []) (h i (n - 1) p.0 (omega arith) (omega arith)) e)
  ]
]
  where
    three : (i j n : ℕ) → i < j → j < n + 1 → (j < n) ⊎ (((i ≡ n - 1) × (j ≡ n)) ⊎ ((i < n - 1) × (j ≡ n)))
    three i j n l m = grind arith

all_from : (o : Bool) (k : Bytes) (ks : List Bytes) → ((j : ℕ) → j < length ks → order o k (get_or ks j []) ≡ true) → list_all (order o k) ks ≡ true
all_from o k [] h = refl
all_from o k (x ∷ ks) h = and_from (order o k x) (list_all (order o k) ks) (h 0 (omega arith)) (all_from o k ks (λ j l. h (suc j) (omega arith)))

pub ordered_from : (o : Bool) (ks : List Bytes) → ((i j : ℕ) → i < j → j < length ks → order o (get_or ks i []) (get_or ks j []) ≡ true) → are_ordered (order o) ks ≡ true
ordered_from o [] h = refl
ordered_from o (k ∷ ks) h =
    and_from (list_all (order o k) ks) (are_ordered (order o) ks) (all_from o k ks (λ j l. h 0 (suc j) (omega arith) (omega arith))) (ordered_from o ks (λ i j l m. h (suc i) (suc j) (omega arith) (omega arith)))
