-- How the front of braces grows, and how it ends.
use Rattle.std.proofs.Common.{◌≡◌, ℕ, zero, suc, ◌+◌, ◌-◌, ◌*◌, ◌/◌, ◌%◌, ◌<◌, ◌≤◌, true, ◌&&◌, nat_lt, inl, inr, List, [], ◌∷◌, ◌++◌, length, refl, sym, ◌∙◌, ap, subst, append_assoc, length-append, arith}
use Rattle.rx_term.specs.Language.{Each}
use Rattle.rx_term.specs.Pattern.{IsDigit, IsNumber, decimal, IsTimes, Times, Exactly, AtLeast, Between}
use Rattle.rx_term.specs.Pattern.IsTimes.{exactly, at_least, between}
use Rattle.rx_parse.specs.declared.place.Braces.{Braces}
use Rattle.rx_parse.specs.declared.place.Braces.TheVariants.{Least, Most}
use Rattle.rx_parse.specs.Kinds.{reaches, digit_next}
use Rattle.rx_parse.proofs.Held.{IsBracesFront}
use Rattle.rx_parse.proofs.Runs.{or_cases, true_and, true_lt}
use Rattle.rx_parse.proofs.Counts.{reaches_from}

each_snoc : (v : List ℕ) (b : ℕ) → Each IsDigit v → IsDigit b → Each IsDigit (v ++ b ∷ [])
each_snoc [] b h k = (k, tt)
each_snoc (x ∷ v) b h k = (h.0, each_snoc v b h.1 k)

decimal_snoc : (v : List ℕ) (b a : ℕ) → decimal a (v ++ b ∷ []) ≡ digit_next (decimal a v) b
decimal_snoc [] b a = refl
decimal_snoc (x ∷ v) b a = decimal_snoc v b (10 * a + (x - 48))

length_snoc : (v : List ℕ) (b : ℕ) → length (v ++ b ∷ []) ≡ length v + 1
length_snoc v b = length-append v (b ∷ [])

no_length : (v : List ℕ) → length v ≡ 0 → v ≡ []
no_length [] e = refl
no_length (b ∷ v) e = absurd (omega arith)

pub least_grow : (k n b : ℕ) (z : List ℕ) → IsBracesFront (Least k n) z → IsDigit b → k < 3 → digit_next n b ≤ 255 →
    IsBracesFront (Least (k + 1) (digit_next n b)) (z ++ b ∷ [])
least_grow k n b z x h l m = (
  x.0 ++ b ∷ [],
  ap (λ y. y ++ b ∷ []) x.1,
  length_snoc x.0 b ∙ ap (λ i. i + 1) x.2,
  omega arith,
  each_snoc x.0 b x.4 h,
  ap (λ i. digit_next i b) x.5 ∙ sym (decimal_snoc x.0 b 0),
  m,
)

least_number : (k n : ℕ) (z : List ℕ) (x : IsBracesFront (Least k n) z) → 1 ≤ k → IsNumber x.0 n
least_number k n z x h = (omega (arith, x.2), omega (arith, x.2, x.3), x.4, x.5, x.6)

pub least_comma : (k n : ℕ) (z : List ℕ) → IsBracesFront (Least k n) z → 1 ≤ k → IsBracesFront (Most n 0 0) (z ++ 44 ∷ [])
least_comma k n z x h = (x.0, [], ap (λ y. y ++ 44 ∷ []) x.1, least_number k n z x h, refl, omega arith, tt, refl, omega arith, inl refl)

pub least_closed : (k n : ℕ) (z : List ℕ) → IsBracesFront (Least k n) z → 1 ≤ k → IsTimes (z ++ 125 ∷ []) (Exactly n)
least_closed k n z x h = exactly x.0 (ap (λ y. y ++ 125 ∷ []) x.1) (least_number k n z x h)

pub most_grow : (n k m b : ℕ) (z : List ℕ) → IsBracesFront (Most n k m) z → IsDigit b → k < 3 → reaches n (k + 1) (digit_next m b) ≡ true →
    IsBracesFront (Most n (k + 1) (digit_next m b)) (z ++ b ∷ [])
most_grow n k m b z x h l r =
    let small : digit_next m b < 256 = true_lt (digit_next m b) 256 (true_and (nat_lt (digit_next m b) 256) _ r).0 in (
      x.0,
      x.1 ++ b ∷ [],
      ap (λ y. y ++ b ∷ []) x.2 ∙ ap (λ y. 123 ∷ y) (append_assoc x.0 (44 ∷ x.1) (b ∷ [])),
      x.3,
      length_snoc x.1 b ∙ ap (λ i. i + 1) x.4,
      omega arith,
      each_snoc x.1 b x.6 h,
      ap (λ i. digit_next i b) x.7 ∙ sym (decimal_snoc x.1 b 0),
      omega arith,
      inr r,
    )

pub most_open : (n m : ℕ) (z : List ℕ) → IsBracesFront (Most n 0 m) z → IsTimes (z ++ 125 ∷ []) (AtLeast n)
most_open n m z x =
    at_least x.0
    (ap (λ y. y ++ 125 ∷ []) (x.2 ∙ ap (λ y. 123 ∷ (x.0 ++ 44 ∷ y)) (no_length x.1 x.4)) ∙ ap (λ y. 123 ∷ y) (append_assoc x.0 (44 ∷ []) (125 ∷ [])))
    x.3

pub most_closed : (n k m : ℕ) (z : List ℕ) → IsBracesFront (Most n k m) z → 1 ≤ k → n ≤ m → IsTimes (z ++ 125 ∷ []) (Between n m)
most_closed n k m z x h l =
    between x.0 x.1 (ap (λ y. y ++ 125 ∷ []) x.2 ∙ ap (λ y. 123 ∷ y) (append_assoc x.0 (44 ∷ x.1) (125 ∷ []))) x.3
    (omega (arith, x.4), omega (arith, x.4, x.5), x.6, x.7, x.8) l

-- ---- ends

-- some text ends the braces
abbrev pub Ends : List ℕ → Type 0
Ends z = (c : List ℕ) × (q : Times) × IsTimes (z ++ c) q

ends_along : (z v : List ℕ) → Ends (z ++ v) → Ends z
ends_along z v h = (v ++ h.0, h.1, subst (λ y. IsTimes y h.1) (append_assoc z v h.0) h.2)

least_ends : (k n : ℕ) (z : List ℕ) → IsBracesFront (Least k n) z → Ends z
least_ends zero n z x =
    let e : n ≡ 0 = x.5 ∙ ap (decimal 0) (no_length x.0 x.2) in
    let g = least_grow 0 n 48 z x (omega arith, omega arith) (omega arith) (omega arith) in
    ends_along z (48 ∷ []) (125 ∷ [], Exactly (digit_next n 48), least_closed (0 + 1) (digit_next n 48) (z ++ 48 ∷ []) g (omega arith))
least_ends (suc k) n z x = (125 ∷ [], Exactly n, least_closed (suc k) n z x (omega arith))

-- more digits, up to a number that is great enough
most_grows : (n : ℕ) (v : List ℕ) (k m : ℕ) (z : List ℕ) → IsBracesFront (Most n k m) z → Each IsDigit v → k + length v ≤ 3 → decimal m v ≤ 255 → n ≤ decimal m v →
    1 ≤ k → Ends z
most_grows n [] k m z x h l s g p = (125 ∷ [], Between n m, most_closed n k m z x p g)
most_grows n (b ∷ v) k m z x h l s g p =
    let r = reaches_from v n (k + 1) (digit_next m b) h.1 (omega arith) (omega arith) s g in
    let y = most_grow n k m b z x h.0 (omega arith) r in
    ends_along z (b ∷ []) (most_grows n v (k + 1) (digit_next m b) (z ++ b ∷ []) y h.1 (omega arith) s g (omega arith))

most_ends : (n k m : ℕ) (z : List ℕ) → IsBracesFront (Most n k m) z → Ends z
most_ends n zero m z x = (125 ∷ [], AtLeast n, most_open n m z x)
most_ends n (suc k) m z x =
    elim x.9 [
      | inl e ↦ absurd (omega arith)
      | inr r ↦ elim (or_cases (nat_lt n (m + 1)) _ (true_and (nat_lt m 256) _ r).1) [
        | inl a ↦ let l = true_lt n (m + 1) a in (125 ∷ [], Between n m, most_closed n (suc k) m z x (omega arith) (omega arith))
        | inr a ↦ elim (or_cases (nat_lt (suc k) 3 && (nat_lt (10 * m) 256 && nat_lt n (10 * m + 10))) _ a) [
          | inl b ↦
              let t = true_and (nat_lt (suc k) 3) _ b in
              let u = true_and (nat_lt (10 * m) 256) _ t.1 in
              let i = true_lt (suc k) 3 t.0 in
              let j = true_lt (10 * m) 256 u.0 in
              let o = true_lt n (10 * m + 10) u.1 in
              let w = x.3.4 in
              most_grows n ((48 + (n - 10 * m)) ∷ []) (suc k) m z x ((omega arith, omega arith), tt) (omega arith) (omega arith) (omega arith) (omega arith)
          | inr b ↦
              let t = true_and (nat_lt (suc k) 2) _ b in
              let u = true_and (nat_lt (100 * m) 256) _ t.1 in
              let i = true_lt (suc k) 2 t.0 in
              let j = true_lt (100 * m) 256 u.0 in
              let o = true_lt n (100 * m + 100) u.1 in
              let w = x.3.4 in
              most_grows n ((48 + (n - 100 * m) / 10) ∷ (48 + (n - 100 * m) % 10) ∷ []) (suc k) m z x ((omega arith, omega arith), ((omega arith, omega arith), tt)) (omega arith)
              (omega arith) (omega arith) (omega arith)
        ]
      ]
    ]

pub braces_end : (c : Braces) (z : List ℕ) → IsBracesFront c z → Ends z
braces_end (Least k n) z x = least_ends k n z x
braces_end (Most n k m) z x = most_ends n k m z x
