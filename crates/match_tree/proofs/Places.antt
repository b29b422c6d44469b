-- The places of keys that a search by halves finds.
use Rattle.std.proofs.Common.{◌≡◌, ◌≤◌, ◌<◌, ◌+◌, ◌-◌, ◌⊎◌, inl, inr, ℕ, zero, suc, Bool, true, false, not, ◌&&◌, List, [], ◌∷◌, Some, length, take, get_or, refl, sym, ◌∙◌, ap, subst, arith, bytes_eq}
use Rattle.std.specs.Prelude.{nat_lt, min}
use Rattle.std.specs.List.{list_any, position_or_len}
use Rattle.std.proofs.lemmas.Bool.{and_parts, and_from, lt-ltb, ltb-true}
use Rattle.std.proofs.lemmas.List.{length-take}
use Rattle.std.proofs.lemmas.List.Sums.{position_or_len_is, fails_before_first, passes_at_first}
use Rattle.std.proofs.lemmas.List.Folds.{list_any_none, list_any_at}
use Rattle.std.proofs.lemmas.List.Elements.{All-from_get_or}
use Rattle.std.proofs.lemmas.Slice.Eq.{bytes_eq-Decides}
use Rattle.text_base.specs.Asked.{Bytes}
use Rattle.text_base.specs.Forms.{begins}
use Rattle.cfg_types.specs.Kinds.{are_ordered}
use Rattle.match_tree.specs.KeyOrder.{order, is_longest, IsBound, AreWithin}
use Rattle.match_tree.proofs.Orders.{apart, chained, in_order}

refuted : (b : Bool) → (b ≡ true → ⊥) → b ≡ false
refuted true f = absurd (f refl)
refuted false f = refl

true-false : (b : Bool) → b ≡ true → b ≡ false → ⊥
true-false true e f = cc f
true-false false e f = cc e

equal : (a b : Bytes) → bytes_eq a b ≡ true → a ≡ b
equal a b e = (bytes_eq-Decides a b).0 e

same : (a b : Bytes) → a ≡ b → bytes_eq a b ≡ true
same a b e = (bytes_eq-Decides a b).1 e

-- the key that stands at a place
pub key_at : (ks : List Bytes) (i : ℕ) (k : Bytes) → i < length ks → k ≡ get_or ks i k → k ≡ get_or ks i []
key_at [] i k lt e = absurd (omega arith)
key_at (x ∷ ks) zero k lt e = e
key_at (x ∷ ks) (suc i) k lt e = key_at ks i k (omega arith) e

-- ---- one bound, by halves

-- the key in the middle comes before the text, and so do those before it
pub below_middle : (o : Bool) (ks : List Bytes) (t : Bytes) (m : ℕ) → are_ordered (order o) ks ≡ true → m < length ks → order o (get_or ks m []) t ≡ true →
    (j : ℕ) → j < m + 1 → order o (get_or ks j []) t ≡ true
below_middle o ks t m e lt h j l = elim (at_or_before j m l) [
  | inl s ↦ subst (λ k. order o (get_or ks k []) t ≡ true) (sym s) h
  | inr b ↦ chained o (get_or ks j []) (get_or ks m []) t (in_order o ks j m e b lt) h
]
  where
    at_or_before : (j m : ℕ) → j < m + 1 → (j ≡ m) ⊎ (j < m)
    at_or_before j m l = grind arith

pub above_middle : (o : Bool) (ks : List Bytes) (t : Bytes) (m : ℕ) → are_ordered (order o) ks ≡ true → m < length ks → order o (get_or ks m []) t ≡ false →
    (j : ℕ) → m ≤ j → j < length ks → order o (get_or ks j []) t ≡ false
above_middle o ks t m e lt h j l k = elim (at_or_behind j m l) [
  | inl s ↦ subst (λ k. order o (get_or ks k []) t ≡ false) (sym s) h
  | inr b ↦ refuted _ (λ f. true-false _ (chained o (get_or ks m []) (get_or ks j []) t (in_order o ks m j e b k) f) h)
]
  where
    at_or_behind : (j m : ℕ) → m ≤ j → (j ≡ m) ⊎ (m < j)
    at_or_behind j m l = grind arith

-- ---- the key that equals the text

-- a key that comes before the text isn't the text
apart_below : (o : Bool) (k t : Bytes) → order o k t ≡ true → bytes_eq t k ≡ false
apart_below o k t h = refuted _ (λ e. true-false _ (subst (λ x. order o k x ≡ true) (equal t k e) h) (apart o k))

pub found_at : (o : Bool) (ks : List Bytes) (t : Bytes) (at : ℕ) → IsBound o ks t at → at < length ks → bytes_eq t (get_or ks at []) ≡ true →
    at ≡ position_or_len (λ k. bytes_eq t k) ks
found_at o ks t at b lt e =
    sym (position_or_len_is (λ k. bytes_eq t k) ks at [] b.within (λ k l. apart_below o (get_or ks k []) t (b.below k l)) (λ l. e))

pub absent_at : (o : Bool) (ks : List Bytes) (t : Bytes) (at : ℕ) → are_ordered (order o) ks ≡ true → IsBound o ks t at → (at < length ks → bytes_eq t (get_or ks at []) ≡ false) →
    length ks ≡ position_or_len (λ k. bytes_eq t k) ks
absent_at o ks t at ordered b differs =
    sym (position_or_len_is (λ k. bytes_eq t k) ks (length ks) [] (omega arith) none (λ l. absurd (omega arith)))
  where
    above : (k : ℕ) → at < k → k < length ks → bytes_eq t (get_or ks k []) ≡ false
    above k l lt = refuted _ (λ e.
        let before : order o (get_or ks at []) (get_or ks k []) ≡ true = in_order o ks at k ordered l lt in
        true-false _ (subst (λ x. order o (get_or ks at []) x ≡ true) (sym (equal t (get_or ks k []) e)) before) (b.above at (omega arith) (omega arith)))

    three : (k : ℕ) → (k < at) ⊎ ((k ≡ at) ⊎ (at < k))
    three k = grind arith

    none : (k : ℕ) → k < length ks → bytes_eq t (get_or ks k []) ≡ false
    none k lt = elim (three k) [
      | inl l ↦ apart_below o (get_or ks k []) t (b.below k l)
      | inr r ↦ elim r [
        | inl s ↦ subst (λ x. bytes_eq t (get_or ks x []) ≡ false) (sym s) (differs (subst (λ x. x < length ks) s lt))
        | inr l ↦ above k l lt
      ]
    ]

-- ---- the longest key that is a prefix

-- no key that is longer than this is a prefix of the text
abbrev pub NoneLonger : Bytes → List Bytes → ℕ → Type 0
NoneLonger t ks size = (k : ℕ) → k < length ks → size < length (get_or ks k []) → begins t (get_or ks k []) ≡ false

front_is : (t k : Bytes) → begins t k ≡ true → k ≡ take (length k) t
front_is t k e = equal k (take (length k) t) e

-- a prefix isn't longer than the text
shorter : (t k : Bytes) → begins t k ≡ true → length k ≤ length t
shorter t k e = let h : length k ≡ length (take (length k) t) = ap length (front_is t k e) in omega (arith, h, length-take (length k) t)

longest_at : (ks : List Bytes) (most k : ℕ) → AreWithin most ks → k < length ks → length (get_or ks k []) ≤ most
longest_at [] most k w lt = absurd (omega arith)
longest_at (x ∷ ks) most zero w lt = w.0
longest_at (x ∷ ks) most (suc k) w lt = longest_at ks most k w.1 (omega arith)

pub none_longer : (t : Bytes) (ks : List Bytes) (most : ℕ) → AreWithin most ks → NoneLonger t ks (min (length t) most)
none_longer t ks most w k lt long = refuted _ (λ e. let s = shorter t (get_or ks k []) e in let m = longest_at ks most k w lt in absurd (omega arith))

-- a prefix of this length is the front of the text
front_at : (t k : Bytes) (size : ℕ) → length k ≡ size → begins t k ≡ true → bytes_eq (take size t) k ≡ true
front_at t k size l e = same (take size t) k (sym (front_is t k e ∙ ap (λ n. take n t) l))

-- the front of the text is no key, so none of its length is a prefix
pub none_longer-less : (t : Bytes) (ks : List Bytes) (size : ℕ) → NoneLonger t ks size → length ks ≤ position_or_len (λ k. bytes_eq (take size t) k) ks →
    NoneLonger t ks (size - 1)
none_longer-less t ks size none past k lt long = refuted _ (λ e. elim (as_long (length (get_or ks k [])) size long) [
  | inl l ↦ true-false _ e (none k lt l)
  | inr s ↦ true-false _ (front_at t (get_or ks k []) size s e) (fails_before_first (λ x. bytes_eq (take size t) x) ks k [] (omega arith))
])
  where
    as_long : (n size : ℕ) → size - 1 < n → (size < n) ⊎ (n ≡ size)
    as_long n size l = grind arith

is_longest-false : (t k : Bytes) (ks : List Bytes) → begins t k ≡ false → is_longest (Some t) ks k ≡ false
is_longest-false t k ks e = rw e refl

-- at the end no key is a prefix
pub no_prefix : (t : Bytes) (ks : List Bytes) → NoneLonger t ks 0 → length ks ≤ position_or_len (λ k. bytes_eq (take 0 t) k) ks →
    length ks ≡ position_or_len (λ k. is_longest (Some t) ks k) ks
no_prefix t ks none past =
    sym (position_or_len_is (λ k. is_longest (Some t) ks k) ks (length ks) [] (omega arith) (λ k lt. is_longest-false t (get_or ks k []) ks (never k lt)) (λ l. absurd (omega arith)))
  where
    never : (k : ℕ) → k < length ks → begins t (get_or ks k []) ≡ false
    never k lt = refuted _ (λ e. elim (some_or_none (length (get_or ks k []))) [
      | inl l ↦ true-false _ e (none k lt l)
      | inr s ↦ true-false _ (front_at t (get_or ks k []) 0 s e) (fails_before_first (λ x. bytes_eq (take 0 t) x) ks k [] (omega arith))
    ])
      where
        some_or_none : (n : ℕ) → (0 < n) ⊎ (n ≡ 0)
        some_or_none n = grind arith

-- an earlier key isn't the front of the text, so it isn't the longest that is a prefix
is_longest-less : (t : Bytes) (ks : List Bytes) (k at size : ℕ) → at < length ks → k < length ks → begins t (get_or ks at []) ≡ true → length (get_or ks at []) ≡ size →
    (size < length (get_or ks k []) → begins t (get_or ks k []) ≡ false) → bytes_eq (take size t) (get_or ks k []) ≡ false → is_longest (Some t) ks (get_or ks k []) ≡ false
is_longest-less t ks k at size lt l p s none differs = refuted _ (λ e.
    let parts = and_parts (begins t (get_or ks k [])) (not (list_any (λ x. begins t x && nat_lt (length (get_or ks k [])) (length x)) ks)) e in
    elim (three (length (get_or ks k [])) size) [
      | inl short ↦
          let longer : list_any (λ x. begins t x && nat_lt (length (get_or ks k [])) (length x)) ks ≡ true =
          list_any_at (λ x. begins t x && nat_lt (length (get_or ks k [])) (length x)) ks at [] lt (and_from _ _ p (lt-ltb _ _ (subst (λ n. length (get_or ks k []) < n) (sym s) short))) in
          not-true _ longer parts.1
      | inr r ↦ elim r [
        | inl level ↦ true-false _ (front_at t (get_or ks k []) size level parts.0) differs
        | inr long ↦ true-false _ parts.0 (none long)
      ]
    ])
  where
    three : (n m : ℕ) → (n < m) ⊎ ((n ≡ m) ⊎ (m < n))
    three n m = grind arith

    not-true : (b : Bool) → b ≡ true → not b ≡ true → ⊥
    not-true true e f = cc f
    not-true false e f = cc e

-- the front of the text is a key, and no longer one is a prefix
pub longest_found : (t : Bytes) (ks : List Bytes) (size at : ℕ) → size ≤ length t → NoneLonger t ks size → at ≡ position_or_len (λ k. bytes_eq (take size t) k) ks → at < length ks →
    at ≡ position_or_len (λ k. is_longest (Some t) ks k) ks
longest_found t ks size at fits none is lt =
    sym (position_or_len_is (λ k. is_longest (Some t) ks k) ks at [] (omega arith) earlier (λ l. here))
  where
    found : bytes_eq (take size t) (get_or ks at []) ≡ true
    found = subst (λ n. bytes_eq (take size t) (get_or ks n []) ≡ true) (sym is) (passes_at_first (λ k. bytes_eq (take size t) k) ks [] (subst (λ n. n < length ks) is lt))

    key : take size t ≡ get_or ks at []
    key = equal (take size t) (get_or ks at []) found

    key_length : length (get_or ks at []) ≡ size
    key_length = let h : length (take size t) ≡ length (get_or ks at []) = ap length key in omega (arith, h, length-take size t)

    prefix : begins t (get_or ks at []) ≡ true
    prefix = same (get_or ks at []) (take (length (get_or ks at [])) t) (sym key ∙ ap (λ n. take n t) (sym key_length))

    longer : ℕ → Bool
    longer k = begins t (get_or ks k []) && nat_lt (length (get_or ks at [])) (length (get_or ks k []))

    no_longer : (k : ℕ) → k < length ks → (begins t (get_or ks k []) && nat_lt (length (get_or ks at [])) (length (get_or ks k []))) ≡ false
    no_longer k l = refuted _ (λ e.
        let p = and_parts (begins t (get_or ks k [])) (nat_lt (length (get_or ks at [])) (length (get_or ks k []))) e in
        let m = ltb-true (length (get_or ks at [])) (length (get_or ks k [])) p.1 in
        true-false _ p.0 (none k l (omega (arith, key_length))))

    here : is_longest (Some t) ks (get_or ks at []) ≡ true
    here =
        let none = list_any_none (λ k. begins t k && nat_lt (length (get_or ks at [])) (length k)) ks (All-from_get_or (λ k. (begins t k && nat_lt (length (get_or ks at [])) (length k)) ≡ false) ks [] no_longer) in
        rw (prefix, none) refl

    earlier : (k : ℕ) → k < at → is_longest (Some t) ks (get_or ks k []) ≡ false
    earlier k l = is_longest-less t ks k at size lt (omega arith) prefix key_length (λ p. none k (omega arith) p)
        (fails_before_first (λ x. bytes_eq (take size t) x) ks k [] (subst (λ n. k < n) is l))
