-- Numbers that come by first places: each is one that came before, or the next one.
use Rattle.std.proofs.Common.{◌≡◌, ℕ, zero, suc, ◌+◌, ◌<◌, ◌≤◌, Bool, true, false, not, ◌&&◌, ◌==◌, ◌⊎◌, inl, inr, List, [], ◌∷◌, map, length, Some, slice_get, refl, sym, ap, ap₂, subst, ◌∙◌, arith, nat_lt, ltb-true, lt-ltb}
use Rattle.std.specs.Prelude.{filter}
use Rattle.std.specs.List.{range_with_len}
use Rattle.std.proofs.lemmas.Bool.{eqb-true, eq-eqb, cases_lt}
use Rattle.goal_form.specs.declared.atom.Atom.{Atom}
use Rattle.goal_form.specs.Goals.{AreDistinct}
use Rattle.goal_build.specs.Numbering.{firsts}

-- ---- two filters in one

both_step : {A : Type 0} (p q r : A → Bool) (x : A) (xs : List A) (v w : Bool) → q x ≡ v → p x ≡ w → (q x && p x) ≡ r x → filter p (filter q xs) ≡ filter r xs →
    filter p (filter q (x ∷ xs)) ≡ filter r (x ∷ xs)
both_step p q r x xs true true e f h k = let s : r x ≡ true = sym h ∙ (rw (e, f) refl) in rw (e, f, s) (ap (λ l. x ∷ l) k)
both_step p q r x xs true false e f h k = let s : r x ≡ false = sym h ∙ (rw (e, f) refl) in rw (e, f, s) k
both_step p q r x xs false w e f h k = let s : r x ≡ false = sym h ∙ (rw e refl) in rw (e, s) k

filter_both : {A : Type 0} (p q r : A → Bool) → ((x : A) → (q x && p x) ≡ r x) → (xs : List A) → filter p (filter q xs) ≡ filter r xs
filter_both p q r h [] = refl
filter_both p q r h (x ∷ xs) = both_step p q r x xs (q x) (p x) refl refl (h x) (filter_both p q r h xs)

-- ---- the next number

-- m numbers came before, each number here is one of these or the next one, and n come in all
abbrev pub Follows : ℕ → List ℕ → ℕ → Type 0
Follows m [] n = m ≡ n
Follows m (k ∷ ks) n = ((k < m) × Follows m ks n) ⊎ ((k ≡ m) × Follows (m + 1) ks n)

follows_up : (ks : List ℕ) (m n : ℕ) → Follows m ks n → m ≤ n
follows_up [] m n h = omega (arith, h)
follows_up (k ∷ ks) m n (inl h) = follows_up ks m n h.1
follows_up (k ∷ ks) m n (inr h) = let l = follows_up ks (m + 1) n h.1 in omega (arith, l)

-- a number below m is none of those from m on
old_number : (m k j : ℕ) → k < m → (not (j == k) && not (nat_lt j m)) ≡ not (nat_lt j m)
old_number m k j l = by (j == k) (nat_lt j m) refl refl
  where
    by : (v w : Bool) → (j == k) ≡ v → nat_lt j m ≡ w → (not (j == k) && not (nat_lt j m)) ≡ not (nat_lt j m)
    by true true e f = rw (e, f) refl
    by true false e f = let s = eqb-true j k e in let t : nat_lt j m ≡ true = lt-ltb j m (omega (arith, s, l)) in absurd (cc)
    by false w e f = rw e refl

-- those from m on without m are those from m + 1 on
next_number : (m k j : ℕ) → k ≡ m → (not (j == k) && not (nat_lt j m)) ≡ not (nat_lt j (m + 1))
next_number m k j s = elim (cases_lt j (m + 1)) [
  | inl l ↦ elim (cases_lt j m) [
    | inl u ↦ rw (lt-ltb j m u, lt-ltb j (m + 1) l) (never (j == k))
    | inr u ↦ let t : (j == k) ≡ true = eq-eqb j k (omega (arith, s, l, u)) in rw (t, lt-ltb j (m + 1) l) refl
  ]
  | inr l ↦ rw (differs l, not_below m (omega (arith, l)), not_below (m + 1) l) refl
]
  where
    never : (b : Bool) → (not b && false) ≡ false
    never true = refl
    never false = refl

    not_below : (n : ℕ) → n ≤ j → nat_lt j n ≡ false
    not_below n l = by (nat_lt j n) refl
      where
        by : (v : Bool) → nat_lt j n ≡ v → nat_lt j n ≡ false
        by false e = e
        by true e = let u = ltb-true j n e in absurd (omega (arith, u, l))

    differs : m + 1 ≤ j → (j == k) ≡ false
    differs l = by (j == k) refl
      where
        by : (v : Bool) → (j == k) ≡ v → (j == k) ≡ false
        by false e = e
        by true e = let u = eqb-true j k e in absurd (omega (arith, u, l, s))

abbrev From : ℕ → List ℕ → List ℕ
From m ks = filter (λ k. not (nat_lt k m)) (firsts ks)

follow_step : (k : ℕ) (ks : List ℕ) (m d : ℕ) → ((n e : ℕ) → From n ks ≡ range_with_len n e → Follows n ks (n + e)) → (v : Bool) → nat_lt k m ≡ v →
    From m (k ∷ ks) ≡ range_with_len m d → Follows m (k ∷ ks) (m + d)
follow_step k ks m d f true e h =
    let l = ltb-true k m e in
    let there : From m (k ∷ ks) ≡ From m ks =
    (rw e (filter_both (λ j. not (nat_lt j m)) (λ j. not (j == k)) (λ j. not (nat_lt j m)) (λ j. old_number m k j l) (firsts ks))) in
    inl (l, f m d (sym there ∙ h))
follow_step k ks m zero f false e h = absurd (let g = rw e at h in cc)
follow_step k ks m (suc d) f false e h =
    let there : From m (k ∷ ks) ≡ k ∷ filter (λ j. not (nat_lt j m)) (filter (λ j. not (j == k)) (firsts ks)) = (rw e refl) in
    let all : k ∷ filter (λ j. not (nat_lt j m)) (filter (λ j. not (j == k)) (firsts ks)) ≡ m ∷ range_with_len (m + 1) d = sym there ∙ h in
    let same : k ≡ m = (cc) in
    let rest : filter (λ j. not (nat_lt j m)) (filter (λ j. not (j == k)) (firsts ks)) ≡ range_with_len (m + 1) d = (cc) in
    let next = filter_both (λ j. not (nat_lt j m)) (λ j. not (j == k)) (λ j. not (nat_lt j (m + 1))) (λ j. next_number m k j same) (firsts ks) in
    inr (same, subst (λ n. Follows (m + 1) ks n) (omega arith) (f (m + 1) d (sym next ∙ rest)))

follows_from : (ks : List ℕ) (m d : ℕ) → From m ks ≡ range_with_len m d → Follows m ks (m + d)
follows_from [] m zero h = omega arith
follows_from [] m (suc d) h = absurd (cc)
follows_from (k ∷ ks) m d h = follow_step k ks m d (λ n e g. follows_from ks n e g) (nat_lt k m) refl h

none_below : (k : ℕ) → nat_lt k 0 ≡ false
none_below k = by (nat_lt k 0) refl
  where
    by : (v : Bool) → nat_lt k 0 ≡ v → nat_lt k 0 ≡ false
    by false e = e
    by true e = let l = ltb-true k 0 e in absurd (omega (arith, l))

all_from : (ks : List ℕ) → filter (λ k. not (nat_lt k 0)) ks ≡ ks
all_from [] = refl
all_from (k ∷ ks) = rw (none_below k) (ap (λ l. k ∷ l) (all_from ks))

pub follows_all : (ks : List ℕ) (n : ℕ) → firsts ks ≡ range_with_len 0 n → Follows 0 ks n
follows_all ks n h = subst (λ o. Follows 0 ks o) (omega arith) (follows_from ks 0 n (all_from (firsts ks) ∙ h))

-- ---- the same atoms one after the other have the same numbers

pub some_at : {A : Type 0} (xs : List A) (k : ℕ) → k < length xs → (x : A) × (slice_get xs k ≡ Some x)
some_at [] k l = absurd (omega (arith, l))
some_at (x ∷ xs) zero l = (x, refl)
some_at (x ∷ xs) (suc k) l = some_at xs k (omega (arith, l))

same_slices : {A : Type 0} (xs ys : List A) → length xs ≡ length ys → ((i : ℕ) → i < length xs → slice_get xs i ≡ slice_get ys i) → xs ≡ ys
same_slices [] [] e h = refl
same_slices [] (y ∷ ys) e h = absurd (cc)
same_slices (x ∷ xs) [] e h = absurd (cc)
same_slices (x ∷ xs) (y ∷ ys) e h =
    let k = h 0 (omega arith) in
    let head : x ≡ y = (cc) in
    ap₂ (λ u v. u ∷ v) head (same_slices xs ys (omega (arith, e)) (λ i l. h (suc i) (omega (arith, l))))

module _ (a b : List Atom) (apart_a : AreDistinct a) (apart_b : AreDistinct b) where
  abbrev Agree : ℕ → Type 0
  Agree m = (i : ℕ) → i < m → slice_get a i ≡ slice_get b i

  one_more : (m k j : ℕ) → k ≡ m → j ≡ m → slice_get a k ≡ slice_get b j → Agree m → Agree (m + 1)
  one_more m k j s t e h i l = elim (cases_lt i m) [
    | inl u ↦ h i u
    | inr u ↦ let v : i ≡ k = omega (arith, s, l, u) in let w : j ≡ i = omega (arith, s, t, v) in ap (slice_get a) v ∙ e ∙ ap (slice_get b) w
  ]

  one_order : (ks js : List ℕ) (m n o : ℕ) → Follows m ks n → Follows m js o → n ≡ length a → o ≡ length b → map (slice_get a) ks ≡ map (slice_get b) js → Agree m →
      (ks ≡ js) × (n ≡ o) × Agree n
  one_order [] [] m n o f g la lb e h = (refl, sym f ∙ g, λ i l. h i (omega (arith, l, f)))
  one_order [] (j ∷ js) m n o f g la lb e h = absurd (cc)
  one_order (k ∷ ks) [] m n o f g la lb e h = absurd (cc)
  one_order (k ∷ ks) (j ∷ js) m n o (inl f) (inl g) la lb e h =
      let head : slice_get a k ≡ slice_get b j = (cc) in
      let rest : map (slice_get a) ks ≡ map (slice_get b) js = (cc) in
      let up = follows_up ks m n f.1 in
      let low = f.0 in
      let (x, there) = some_at a k (omega (arith, up, low, la)) in
      let same = apart_b k j x (sym (h k f.0) ∙ there) (sym head ∙ there) in
      let r = one_order ks js m n o f.1 g.1 la lb rest h in
      (ap₂ (λ u v. u ∷ v) same r.0, r.1, r.2)
  one_order (k ∷ ks) (j ∷ js) m n o (inl f) (inr g) la lb e h =
      let head : slice_get a k ≡ slice_get b j = (cc) in
      let up = follows_up ks m n f.1 in
      let low = f.0 in
      let next = g.0 in
      let (x, there) = some_at a k (omega (arith, up, low, la)) in
      let same = apart_b k j x (sym (h k f.0) ∙ there) (sym head ∙ there) in
      absurd (omega (arith, same, low, next))
  one_order (k ∷ ks) (j ∷ js) m n o (inr f) (inl g) la lb e h =
      let head : slice_get a k ≡ slice_get b j = (cc) in
      let up = follows_up js m o g.1 in
      let low = g.0 in
      let next = f.0 in
      let (x, there) = some_at b j (omega (arith, up, low, lb)) in
      let same = apart_a j k x (h j g.0 ∙ there) (head ∙ there) in
      absurd (omega (arith, same, low, next))
  one_order (k ∷ ks) (j ∷ js) m n o (inr f) (inr g) la lb e h =
      let head : slice_get a k ≡ slice_get b j = (cc) in
      let rest : map (slice_get a) ks ≡ map (slice_get b) js = (cc) in
      let r = one_order ks js (m + 1) n o f.1 g.1 la lb rest (one_more m k j f.0 g.0 head h) in
      (ap₂ (λ u v. u ∷ v) (f.0 ∙ sym g.0) r.0, r.1, r.2)

  pub one_numbering : (ks js : List ℕ) → firsts ks ≡ range_with_len 0 (length a) → firsts js ≡ range_with_len 0 (length b) → map (slice_get a) ks ≡ map (slice_get b) js →
      (ks ≡ js) × (a ≡ b)
  one_numbering ks js f g e =
      let r = one_order ks js 0 (length a) (length b) (follows_all ks (length a) f) (follows_all js (length b) g) refl refl e (λ i l. absurd (omega (arith, l))) in
      (r.0, same_slices a b r.1 r.2)
