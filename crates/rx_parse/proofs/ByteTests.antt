-- What the tests of bytes say.
use Rattle.std.proofs.Common.{◌≡◌, ℕ, ◌+◌, ◌-◌, ◌<◌, ◌≤◌, Bool, true, false, ◌&&◌, not, nat_lt, ◌==◌, ◌⊎◌, inl, inr, refl, sym, ◌∙◌, subst, arith}
use Rattle.rx_term.specs.declared.sets.ByteSet.{ByteSet}
use Rattle.rx_term.specs.Term.{has_byte}
use Rattle.rx_term.specs.Pattern.{IsAny, IsDigit, IsFold, IsWord, IsEscapeSet, IsSetOf, IsSetLetter}
use Rattle.rx_parse.specs.declared.bytes.Bytes.TheVariants.{Any, Range, Escape, Both, Without}
use Rattle.rx_parse.specs.Kinds.{is_within, is_any, is_digit}
use Rattle.rx_parse.specs.Sets.{is_word, is_in_range, holds, filled, IsSetBy}
use Rattle.rx_parse.proofs.Runs.{within_true, true_within, true_lt, or_cases, or_left, or_right, and_true, true_and, eq_true, true_eq}
use Rattle.rx_parse.proofs.Filled.{filled_set}

-- each test has its set
pub set_by : (p : ℕ → Bool) → (s : ByteSet) × IsSetBy p s
set_by p = let s : ByteSet = record { 0 = filled p 128 } in (s, filled_set p s refl)

pub has_small : (s : ByteSet) (b : ℕ) → has_byte s b ≡ true → b < 128
has_small s b h = true_lt b 128 (true_and (nat_lt b 128) _ h).0

-- a set by a test is the set of what the test says
pub test_set : (P : ℕ → Type 0) (p : ℕ → Bool) (s : ByteSet) → IsSetBy p s → ((b : ℕ) → p b ≡ true → P b) → ((b : ℕ) → P b → p b ≡ true) → IsSetOf P s
test_set P p s h f g = record {
  small = h.small;
  forth = λ b k. f b (sym (h.at b (has_small s b k)) ∙ k);
  back = λ b l k. h.at b l ∙ g b k;
}

pub not_true : (c : Bool) → not c ≡ true → c ≡ true → ⊥
not_true true h k = let e : false ≡ true = h in no e
  where
    no : false ≡ true → ⊥
    no e = cc
not_true false h k = no k
  where
    no : false ≡ true → ⊥
    no e = cc

pub true_not : (c : Bool) → (c ≡ true → ⊥) → not c ≡ true
true_not true h = absurd (h refl)
true_not false h = refl

-- ---- ranges

abbrev pub IsInRange : Bool → ℕ → ℕ → ℕ → Type 0
IsInRange f low high b = (y : ℕ) × (low ≤ y) × (y ≤ high) × IsFold f y b

pub range_says : (f : Bool) (low high b : ℕ) → is_in_range f low high b ≡ true → IsInRange f low high b
range_says false low high b h =
    elim (or_cases (is_within low high b) _ h) [
      | inl k ↦ let r = true_within low high b k in (b, r.0, r.1, refl)
      | inr k ↦ absurd (no k)
    ]
  where
    no : false ≡ true → ⊥
    no e = cc
range_says true low high b h =
    elim (or_cases (is_within low high b) _ h) [
      | inl k ↦ let r = true_within low high b k in (b, r.0, r.1, inl refl)
      | inr k ↦ elim (or_cases (is_within 97 122 b && is_within low high (b - 32)) _ k) [
        | inl j ↦
            let t = true_and (is_within 97 122 b) _ j in
            let u = true_within 97 122 b t.0 in
            let r = true_within low high (b - 32) t.1 in
            (b - 32, r.0, r.1, inr (inl ((omega arith, omega arith), omega arith)))
        | inr j ↦
            let t = true_and (is_within 65 90 b) _ j in
            let u = true_within 65 90 b t.0 in
            let r = true_within low high (b + 32) t.1 in
            (b + 32, r.0, r.1, inr (inr ((omega arith, omega arith), refl)))
      ]
    ]

pub range_test : (f : Bool) (low high b : ℕ) → IsInRange f low high b → is_in_range f low high b ≡ true
range_test false low high b (y, l, h, e) = or_left _ _ (within_true low high b (omega arith) (omega arith))
range_test true low high b (y, l, h, inl e) = or_left _ _ (within_true low high b (omega arith) (omega arith))
range_test true low high b (y, l, h, inr (inl e)) =
    or_right (is_within low high b) _
    (or_left _ _
    (and_true (is_within 97 122 b) _ (within_true 97 122 b (omega arith) (omega arith)) (within_true low high (b - 32) (omega arith) (omega arith))))
range_test true low high b (y, l, h, inr (inr e)) =
    or_right (is_within low high b) _
    (or_right (is_within 97 122 b && is_within low high (b - 32)) _
    (and_true (is_within 65 90 b) _ (within_true 65 90 b (omega arith) (omega arith)) (within_true low high (b + 32) (omega arith) (omega arith))))

pub range_set : (f : Bool) (low high : ℕ) (s : ByteSet) → IsSetBy (holds (Range f low high)) s → IsSetOf (IsInRange f low high) s
range_set f low high s h = test_set (IsInRange f low high) (is_in_range f low high) s h (range_says f low high) (range_test f low high)

-- a set of other words
pub same_set : (P Q : ℕ → Type 0) (s : ByteSet) → IsSetOf P s → ((b : ℕ) → P b → Q b) → ((b : ℕ) → Q b → P b) → IsSetOf Q s
same_set P Q s h f g = record { small = h.small; forth = λ b k. f b (h.forth b k); back = λ b l k. h.back b l (g b k) }

pub fold_set : (f : Bool) (a : ℕ) (s : ByteSet) → IsSetBy (holds (Range f a a)) s → IsSetOf (IsFold f a) s
fold_set f a s h =
    same_set (IsInRange f a a) (IsFold f a) s (range_set f a a s h)
    (λ b k. let e : k.0 ≡ a = omega arith in subst (λ y. IsFold f y b) e k.3)
    (λ b k. (a, omega arith, omega arith, k))

pub any_set : (s : ByteSet) → IsSetBy (holds Any) s → IsSetOf IsAny s
any_set s h = test_set IsAny is_any s h (true_within 32 126) (λ b k. within_true 32 126 b k.0 k.1)

-- ---- set escapes

pub word_says : (b : ℕ) → is_word b ≡ true → IsWord b
word_says b h =
    elim (or_cases (is_digit b) _ h) [
      | inl k ↦ inl (true_within 48 57 b k)
      | inr k ↦ elim (or_cases (is_within 65 90 b) _ k) [
        | inl j ↦ inr (inl (true_within 65 90 b j))
        | inr j ↦ elim (or_cases (is_within 97 122 b) _ j) [
          | inl i ↦ inr (inr (inl (true_within 97 122 b i)))
          | inr i ↦ inr (inr (inr (true_eq b 95 i)))
        ]
      ]
    ]

pub word_test : (b : ℕ) → IsWord b → is_word b ≡ true
word_test b (inl h) = or_left _ _ (within_true 48 57 b h.0 h.1)
word_test b (inr (inl h)) = or_right (is_digit b) _ (or_left _ _ (within_true 65 90 b h.0 h.1))
word_test b (inr (inr (inl h))) = or_right (is_digit b) _ (or_right (is_within 65 90 b) _ (or_left _ _ (within_true 97 122 b h.0 h.1)))
word_test b (inr (inr (inr h))) = or_right (is_digit b) _ (or_right (is_within 65 90 b) _ (or_right (is_within 97 122 b) _ (eq_true b 95 h)))

without_set : (P : ℕ → Type 0) (p : ℕ → Bool) (s : ByteSet) → IsSetBy (λ b. is_any b && not (p b)) s → ((b : ℕ) → p b ≡ true → P b) → ((b : ℕ) → P b → p b ≡ true) →
    IsSetOf (λ b. IsAny b × (P b → ⊥)) s
without_set P p s h f g =
    test_set (λ b. IsAny b × (P b → ⊥)) (λ b. is_any b && not (p b)) s h
    (λ b k. let t = true_and (is_any b) _ k in (true_within 32 126 b t.0, λ x. not_true (p b) t.1 (g b x)))
    (λ b k. and_true (is_any b) _ (within_true 32 126 b k.0.0 k.0.1) (true_not (p b) (λ x. k.1 (f b x))))

pub escape_set : (c : ℕ) (s : ByteSet) → IsSetLetter c → IsSetBy (holds (Escape c)) s → IsSetOf (IsEscapeSet c) s
escape_set c s (inl e) h =
    subst (λ x. IsSetBy (holds (Escape x)) s → IsSetOf (IsEscapeSet x) s) e
    (λ g. same_set IsDigit (IsEscapeSet 100) s (test_set IsDigit is_digit s g (true_within 48 57) (λ b k. within_true 48 57 b k.0 k.1))
    (λ b k. inl (refl, k))
    (λ b k. elim k [
      | inl j ↦ j.1
      | inr (inl j) ↦ absurd (omega arith)
      | inr (inr (inl j)) ↦ absurd (omega arith)
      | inr (inr (inr (inl j))) ↦ absurd (omega arith)
      | inr (inr (inr (inr (inl j)))) ↦ absurd (omega arith)
      | inr (inr (inr (inr (inr j)))) ↦ absurd (omega arith)
    ]))
    h
escape_set c s (inr (inl e)) h =
    subst (λ x. IsSetBy (holds (Escape x)) s → IsSetOf (IsEscapeSet x) s) e
    (λ g. same_set IsWord (IsEscapeSet 119) s (test_set IsWord is_word s g word_says word_test)
    (λ b k. inr (inl (refl, k)))
    (λ b k. elim k [
      | inl j ↦ absurd (omega arith)
      | inr (inl j) ↦ j.1
      | inr (inr (inl j)) ↦ absurd (omega arith)
      | inr (inr (inr (inl j))) ↦ absurd (omega arith)
      | inr (inr (inr (inr (inl j)))) ↦ absurd (omega arith)
      | inr (inr (inr (inr (inr j)))) ↦ absurd (omega arith)
    ]))
    h
escape_set c s (inr (inr (inl e))) h =
    subst (λ x. IsSetBy (holds (Escape x)) s → IsSetOf (IsEscapeSet x) s) e
    (λ g. same_set (λ b. b ≡ 32) (IsEscapeSet 115) s (test_set (λ b. b ≡ 32) (λ b. b == 32) s g (λ b. true_eq b 32) (λ b. eq_true b 32))
    (λ b k. inr (inr (inl (refl, k))))
    (λ b k. elim k [
      | inl j ↦ absurd (omega arith)
      | inr (inl j) ↦ absurd (omega arith)
      | inr (inr (inl j)) ↦ j.1
      | inr (inr (inr (inl j))) ↦ absurd (omega arith)
      | inr (inr (inr (inr (inl j)))) ↦ absurd (omega arith)
      | inr (inr (inr (inr (inr j)))) ↦ absurd (omega arith)
    ]))
    h
escape_set c s (inr (inr (inr (inl e)))) h =
    subst (λ x. IsSetBy (holds (Escape x)) s → IsSetOf (IsEscapeSet x) s) e
    (λ g. same_set (λ b. IsAny b × (IsDigit b → ⊥)) (IsEscapeSet 68) s
    (without_set IsDigit is_digit s g (true_within 48 57) (λ b k. within_true 48 57 b k.0 k.1))
    (λ b k. inr (inr (inr (inl (refl, k.0, k.1)))))
    (λ b k. elim k [
      | inl j ↦ absurd (omega arith)
      | inr (inl j) ↦ absurd (omega arith)
      | inr (inr (inl j)) ↦ absurd (omega arith)
      | inr (inr (inr (inl j))) ↦ (j.1, j.2)
      | inr (inr (inr (inr (inl j)))) ↦ absurd (omega arith)
      | inr (inr (inr (inr (inr j)))) ↦ absurd (omega arith)
    ]))
    h
escape_set c s (inr (inr (inr (inr (inl e))))) h =
    subst (λ x. IsSetBy (holds (Escape x)) s → IsSetOf (IsEscapeSet x) s) e
    (λ g. same_set (λ b. IsAny b × (IsWord b → ⊥)) (IsEscapeSet 87) s (without_set IsWord is_word s g word_says word_test)
    (λ b k. inr (inr (inr (inr (inl (refl, k.0, k.1))))))
    (λ b k. elim k [
      | inl j ↦ absurd (omega arith)
      | inr (inl j) ↦ absurd (omega arith)
      | inr (inr (inl j)) ↦ absurd (omega arith)
      | inr (inr (inr (inl j))) ↦ absurd (omega arith)
      | inr (inr (inr (inr (inl j)))) ↦ (j.1, j.2)
      | inr (inr (inr (inr (inr j)))) ↦ absurd (omega arith)
    ]))
    h
escape_set c s (inr (inr (inr (inr (inr (inl e)))))) h =
    subst (λ x. IsSetBy (holds (Escape x)) s → IsSetOf (IsEscapeSet x) s) e
    (λ g. same_set (λ b. IsAny b × (b ≡ 32 → ⊥)) (IsEscapeSet 83) s (without_set (λ b. b ≡ 32) (λ b. b == 32) s g (λ b. true_eq b 32) (λ b. eq_true b 32))
    (λ b k. inr (inr (inr (inr (inr (refl, k.0, k.1))))))
    (λ b k. elim k [
      | inl j ↦ absurd (omega arith)
      | inr (inl j) ↦ absurd (omega arith)
      | inr (inr (inl j)) ↦ absurd (omega arith)
      | inr (inr (inr (inl j))) ↦ absurd (omega arith)
      | inr (inr (inr (inr (inl j)))) ↦ absurd (omega arith)
      | inr (inr (inr (inr (inr j)))) ↦ (j.1, j.2)
    ]))
    h
escape_set c s (inr (inr (inr (inr (inr (inr z)))))) h = absurd z

-- ---- unions and complements

pub both_set : (P Q : ℕ → Type 0) (s u r : ByteSet) → IsSetOf P s → IsSetOf Q u → IsSetBy (holds (Both s u)) r → IsSetOf (λ b. P b ⊎ Q b) r
both_set P Q s u r h g k = record {
  small = k.small;
  forth = λ b j.
      elim (or_cases (has_byte s b) (has_byte u b) (sym (k.at b (has_small r b j)) ∙ j)) [ inl i ↦ inl (h.forth b i) | inr i ↦ inr (g.forth b i) ];
  back = λ b l j. k.at b l ∙ (elim j [ inl i ↦ or_left (has_byte s b) _ (h.back b l i) | inr i ↦ or_right (has_byte s b) _ (g.back b l i) ]);
}

pub complement_set : (P : ℕ → Type 0) (s r : ByteSet) → IsSetOf P s → IsSetBy (holds (Without s)) r → IsSetOf (λ b. IsAny b × (P b → ⊥)) r
complement_set P s r h k = record {
  small = k.small;
  forth = λ b j.
      let l = has_small r b j in
      let t = true_and (is_any b) _ (sym (k.at b l) ∙ j) in
      (true_within 32 126 b t.0, λ x. not_true (has_byte s b) t.1 (h.back b l x));
  back = λ b l j.
      k.at b l ∙ and_true (is_any b) _ (within_true 32 126 b j.0.0 j.0.1) (true_not (has_byte s b) (λ x. j.1 (h.forth b x)));
}
