-- A stable sort by the length of keys is the order by insertion.
use Rattle.std.proofs.Common.{◌≡◌, ◌≤◌, ◌<◌, ◌+◌, ◌⊎◌, inl, inr, ℕ, suc, Bool, true, false, not, ◌==◌, cond, List, [], ◌∷◌, length, get_or, refl, sym, ◌∙◌, ap, subst, arith}
use Rattle.std.specs.Prelude.{nat_lt}
use Rattle.std.specs.List.{filter}
use Rattle.std.specs.List.Sorted.{IsSortedBy, IsStableBy, ties}
use Rattle.std.specs.Ordering.{is_lt, nat_cmp}
use Rattle.std.specs.declared.cmp.Ordering.TheVariants.{Less, Equal, Greater}
use Rattle.std.proofs.lemmas.Bool.{lt-ltb, ltb-true, and_parts}
use Rattle.cfg_types.specs.declared.trees.KeyThen.{KeyThen}
use Rattle.read_tree.specs.Maps.{put_longer, longest_first}

-- the longer key comes first
abbrev pub before : KeyThen → KeyThen → Bool
before x y = is_lt (nat_cmp (length y.key) (length x.key))

-- the keys don't get longer
abbrev Falls : List KeyThen → Type 0
Falls [] = Unit {0}
Falls (x ∷ []) = Unit {0}
Falls (x ∷ (y ∷ ys)) = (length y.key ≤ length x.key) × Falls (y ∷ ys)

-- ---- one comparison

refuted : (b : Bool) → (b ≡ true → ⊥) → b ≡ false
refuted true f = absurd (f refl)
refuted false f = refl

less_is : (m n : ℕ) → is_lt (nat_cmp m n) ≡ nat_lt m n
less_is m n = by (nat_lt m n) (nat_eq_of m n)
  where
    nat_eq_of : ℕ → ℕ → Bool
    nat_eq_of a b = a == b

    by : (l e : Bool) → is_lt (cond l Less (cond e Equal Greater)) ≡ l
    by true e = refl
    by false true = refl
    by false false = refl

no_more : (x y : KeyThen) → before y x ≡ false → length y.key ≤ length x.key
no_more x y e = elim (cases (length y.key) (length x.key)) [
  | inl l ↦ l
  | inr g ↦ absurd (true-false (sym (less_is (length x.key) (length y.key) ∙ lt-ltb _ _ g) ∙ e))
]
  where
    true-false : true ≡ false → ⊥
    true-false e = cc e

    cases : (m n : ℕ) → (m ≤ n) ⊎ (n < m)
    cases m n = grind arith

tied_same : (x y : KeyThen) → length x.key ≡ length y.key → ties before x y ≡ true
tied_same x y e = rw (level x y (omega (arith, e)), level y x (omega (arith, e))) refl
  where
    level : (a b : KeyThen) → length a.key ≤ length b.key → before a b ≡ false
    level a b l = refuted _ (λ t. absurd (omega (arith, l, ltb-true (length b.key) (length a.key) (sym (less_is (length b.key) (length a.key)) ∙ t))))

same_tied : (x y : KeyThen) → ties before x y ≡ true → length x.key ≡ length y.key
same_tied x y e =
    let p = and_parts (not (before x y)) (not (before y x)) e in
    let l = no_more y x (not_true (before x y) p.0) in
    let m = no_more x y (not_true (before y x) p.1) in
    omega (arith, l, m)
  where
    not_true : (b : Bool) → not b ≡ true → b ≡ false
    not_true true f = absurd (cc f)
    not_true false f = refl

untied : (x y : KeyThen) → length y.key < length x.key → ties before x y ≡ false
untied x y l = refuted _ (λ e. let s = same_tied x y e in absurd (omega (arith, l, s)))

-- ---- lists that fall, with the same elements of each length

rest_falls : (x : KeyThen) (xs : List KeyThen) → Falls (x ∷ xs) → Falls xs
rest_falls x [] f = tt
rest_falls x (y ∷ ys) f = f.1

none_tied : (z x : KeyThen) (xs : List KeyThen) → Falls (x ∷ xs) → length x.key < length z.key → filter (ties before z) (x ∷ xs) ≡ []
none_tied z x [] f l = rw (untied z x l) refl
none_tied z x (y ∷ ys) f l = rw (untied z x l) (none_tied z y ys f.1 (omega (arith, f.0, l)))

same_rest : (v : Bool) (y : KeyThen) (ys zs : List KeyThen) → cond v (y ∷ ys) ys ≡ cond v (y ∷ zs) zs → ys ≡ zs
same_rest true y ys zs e = cc e
same_rest false y ys zs e = e

pub same_list : (ys zs : List KeyThen) → Falls ys → Falls zs → ((x : KeyThen) → filter (ties before x) ys ≡ filter (ties before x) zs) → ys ≡ zs
same_list [] [] f g h = refl
same_list [] (z ∷ zs) f g h = absurd (first z (filter (ties before z) zs) (h z ∙ ap (λ v. cond v (z ∷ filter (ties before z) zs) (filter (ties before z) zs)) (tied_same z z refl)))
  where
    first : (z : KeyThen) (zs : List KeyThen) → [] ≡ z ∷ zs → ⊥
    first z zs e = cc e
same_list (y ∷ ys) [] f g h = absurd (first y (filter (ties before y) ys) (sym (h y) ∙ ap (λ v. cond v (y ∷ filter (ties before y) ys) (filter (ties before y) ys)) (tied_same y y refl)))
  where
    first : (z : KeyThen) (zs : List KeyThen) → [] ≡ z ∷ zs → ⊥
    first z zs e = cc e
same_list (y ∷ ys) (z ∷ zs) f g h = elim (three (length y.key) (length z.key)) [
  | inl l ↦ absurd (first z (filter (ties before z) zs) (sym (none_tied z y ys f l) ∙ h z ∙ ap (λ v. cond v (z ∷ filter (ties before z) zs) (filter (ties before z) zs)) (tied_same z z refl)))
  | inr r ↦ elim r [
    | inl s ↦
        let both : y ∷ filter (ties before y) ys ≡ z ∷ filter (ties before y) zs =
        sym (ap (λ v. cond v (y ∷ filter (ties before y) ys) (filter (ties before y) ys)) (tied_same y y refl)) ∙ h y ∙ ap (λ v. cond v (z ∷ filter (ties before y) zs) (filter (ties before y) zs)) (tied_same y z s) in
        let heads : y ≡ z = cc both in
        let rests = (λ (x : KeyThen). same_rest (ties before x z) z (filter (ties before x) ys) (filter (ties before x) zs)
        (subst (λ w. cond (ties before x w) (w ∷ filter (ties before x) ys) (filter (ties before x) ys) ≡ filter (ties before x) (z ∷ zs)) heads (h x))) in
        ap (λ w. w ∷ ys) heads ∙ ap (λ l. z ∷ l) (same_list ys zs (rest_falls y ys f) (rest_falls z zs g) rests)
    | inr l ↦ absurd (first y (filter (ties before y) ys) (sym (none_tied y z zs g l) ∙ sym (h y) ∙ ap (λ v. cond v (y ∷ filter (ties before y) ys) (filter (ties before y) ys)) (tied_same y y refl)))
  ]
]
  where
    first : (z : KeyThen) (zs : List KeyThen) → [] ≡ z ∷ zs → ⊥
    first z zs e = cc e

    three : (m n : ℕ) → (m < n) ⊎ ((m ≡ n) ⊎ (n < m))
    three m n = grind arith

-- ---- a list that is sorted falls

pub falls_from : (ys : List KeyThen) → IsSortedBy before ys → Falls ys
falls_from [] h = tt
falls_from (x ∷ []) h = tt
falls_from (x ∷ (y ∷ ys)) h = (
  no_more x y (h 0 x (omega arith) (omega arith)),
  falls_from (y ∷ ys) (λ k d p q. (let e : suc k + 1 ≡ suc (k + 1) = omega arith in subst (λ n. before (get_or (x ∷ (y ∷ ys)) n d) (get_or (y ∷ ys) k d) ≡ false) e (h (suc k) d (omega arith) (omega (arith, q))))),
)

-- ---- insertion falls, and keeps the elements of each length

put_filter : (x k : KeyThen) (xs : List KeyThen) → filter (ties before x) (put_longer k xs) ≡ filter (ties before x) (k ∷ xs)
put_filter x k [] = refl
put_filter x k (y ∷ ys) = by (nat_lt (length k.key) (length y.key)) refl (put_filter x k ys)
  where
    swap : (v w : Bool) (rest : List KeyThen) → ((v ≡ true) → (w ≡ true) → ⊥) → cond v (y ∷ cond w (k ∷ rest) rest) (cond w (k ∷ rest) rest) ≡ cond w (k ∷ cond v (y ∷ rest) rest) (cond v (y ∷ rest) rest)
    swap true true rest f = absurd (f refl refl)
    swap true false rest f = refl
    swap false true rest f = refl
    swap false false rest f = refl

    by : (v : Bool) → nat_lt (length k.key) (length y.key) ≡ v → filter (ties before x) (put_longer k ys) ≡ filter (ties before x) (k ∷ ys) →
        filter (ties before x) (cond v (y ∷ put_longer k ys) (k ∷ (y ∷ ys))) ≡ filter (ties before x) (k ∷ (y ∷ ys))
    by true e h =
        ap (λ l. cond (ties before x y) (y ∷ l) l) h
        ∙ swap (ties before x y) (ties before x k) (filter (ties before x) ys) (λ a b. let l = ltb-true (length k.key) (length y.key) e in let s = same_tied x y a in let t = same_tied x k b in absurd (omega (arith, l, s, t)))
    by false e h = refl

pub longest_filter : (x : KeyThen) (ks : List KeyThen) → filter (ties before x) (longest_first ks) ≡ filter (ties before x) ks
longest_filter x [] = refl
longest_filter x (k ∷ ks) = put_filter x k (longest_first ks) ∙ ap (λ l. cond (ties before x k) (k ∷ l) l) (longest_filter x ks)

abbrev HeadUpTo : KeyThen → List KeyThen → Type 0
HeadUpTo y [] = Unit {0}
HeadUpTo y (z ∷ zs) = length z.key ≤ length y.key

falls_behind : (y : KeyThen) (zs : List KeyThen) → HeadUpTo y zs → Falls zs → Falls (y ∷ zs)
falls_behind y [] h f = tt
falls_behind y (z ∷ zs) h f = (h, f)

head_of : (y : KeyThen) (ys : List KeyThen) → Falls (y ∷ ys) → HeadUpTo y ys
head_of y [] f = tt
head_of y (z ∷ zs) f = f.0

put_head : (y k : KeyThen) (ys : List KeyThen) → HeadUpTo y ys → length k.key ≤ length y.key → HeadUpTo y (put_longer k ys)
put_head y k [] h l = l
put_head y k (z ∷ zs) h l = by (nat_lt (length k.key) (length z.key))
  where
    by : (v : Bool) → HeadUpTo y (cond v (z ∷ put_longer k zs) (k ∷ (z ∷ zs)))
    by true = h
    by false = l

put_falls : (k : KeyThen) (xs : List KeyThen) → Falls xs → Falls (put_longer k xs)
put_falls k [] f = tt
put_falls k (y ∷ ys) f = by (nat_lt (length k.key) (length y.key)) refl (put_falls k ys (rest_falls y ys f))
  where
    by : (v : Bool) → nat_lt (length k.key) (length y.key) ≡ v → Falls (put_longer k ys) → Falls (cond v (y ∷ put_longer k ys) (k ∷ (y ∷ ys)))
    by true e h = falls_behind y (put_longer k ys) (put_head y k ys (head_of y ys f) (let l = ltb-true (length k.key) (length y.key) e in omega (arith, l))) h
    by false e h = (not_less (length k.key) (length y.key) e, f)
      where
        not_less : (m n : ℕ) → nat_lt m n ≡ false → n ≤ m
        not_less m n e = elim (cases n m) [ inl l ↦ l | inr g ↦ absurd (both (sym (lt-ltb m n g) ∙ e)) ]
          where
            cases : (a b : ℕ) → (a ≤ b) ⊎ (b < a)
            cases a b = grind arith

            both : true ≡ false → ⊥
            both e = cc e

pub longest_falls : (ks : List KeyThen) → Falls (longest_first ks)
longest_falls [] = tt
longest_falls (k ∷ ks) = put_falls k (longest_first ks) (longest_falls ks)

pub sorted_is : (xs ys : List KeyThen) → IsSortedBy before ys → IsStableBy before xs ys → ys ≡ longest_first xs
sorted_is xs ys sorted stable = same_list ys (longest_first xs) (falls_from ys sorted) (longest_falls xs) (λ x. stable x ∙ sym (longest_filter x xs))
