-- The reader counts what a quantifier says.
use Rattle.std.proofs.Common.{◌≡◌, ◌≢◌, ℕ, ◌+◌, ◌<◌, ◌≤◌, Bool, true, false, ◌&&◌, cond, nat_lt, ◌==◌, List, [], ◌∷◌, ◌++◌, length, Option, Some, refl, sym, ◌∙◌, ap, arith}
use Rattle.rx_term.specs.Language.{Each}
use Rattle.rx_term.specs.Pattern.{IsDigit, IsNumber, decimal, IsTimes, Times, Exactly, Between}
use Rattle.rx_term.specs.Pattern.IsTimes.{many, plenty, maybe, exactly, at_least, between}
use Rattle.rx_parse.specs.declared.reader.Reader.{Reader}
use Rattle.rx_parse.specs.declared.place.Braces.{Braces}
use Rattle.rx_parse.specs.declared.place.Braces.TheVariants.{Least, Most}
use Rattle.rx_parse.specs.declared.place.Place.TheVariants.{Atomic, InBraces}
use Rattle.rx_parse.specs.Kinds.{is_digit, reaches, digit_next}
use Rattle.rx_parse.specs.Answer.{at_place, quantified, braces_of}
use Rattle.rx_parse.proofs.Runs.{lt_true, and_true, eq_false}
use Rattle.rx_parse.proofs.Counts.{decimal_grows, digit_true, reaches_from}
use Rattle.rx_unique.proofs.Reading.{read, read_through}

chosen : (c : Bool) (x y r : Option Reader) → c ≡ true → x ≡ r → cond c x y ≡ r
chosen true x y r e h = h
chosen false x y r e h = cc

passed : (c : Bool) (x y r : Option Reader) → c ≡ false → y ≡ r → cond c x y ≡ r
passed true x y r e h = cc
passed false x y r e h = h

-- the reader in braces
abbrev in_braces : Reader → Braces → Reader
in_braces r c = at_place r (InBraces c)

-- ---- numbers

least_digit : (r : Reader) (k a b : ℕ) → IsDigit b → k < 3 → digit_next a b ≤ 255 → braces_of (Least k a) (in_braces r (Least k a)) b ≡ Some (in_braces r (Least (k + 1) (digit_next a b)))
least_digit r k a b h l m =
    chosen (is_digit b) _ _ _ (digit_true b h)
    (chosen (nat_lt k 3 && nat_lt (digit_next a b) 256) _ _ _ (and_true (nat_lt k 3) _ (lt_true k 3 l) (lt_true (digit_next a b) 256 (omega arith))) refl)

least_reads : (r : Reader) (v : List ℕ) (k a : ℕ) → Each IsDigit v → k + length v ≤ 3 → decimal a v ≤ 255 →
    (j : ℕ) × (j ≡ k + length v) × (read (Some (in_braces r (Least k a))) v ≡ Some (in_braces r (Least j (decimal a v))))
least_reads r [] k a h l m = (k, omega arith, refl)
least_reads r (b ∷ v) k a h l m =
    let g = least_reads r v (k + 1) (digit_next a b) h.1 (omega arith) m in
    let e = least_digit r k a b h.0 (omega arith) (omega (arith, decimal_grows v (digit_next a b))) in
    (g.0, omega (arith, g.1), ap (λ x. read x v) e ∙ g.2)

most_digit : (r : Reader) (n k a b : ℕ) → IsDigit b → k < 3 → reaches n (k + 1) (digit_next a b) ≡ true →
    braces_of (Most n k a) (in_braces r (Most n k a)) b ≡ Some (in_braces r (Most n (k + 1) (digit_next a b)))
most_digit r n k a b h l m =
    chosen (is_digit b) _ _ _ (digit_true b h) (chosen (nat_lt k 3 && reaches n (k + 1) (digit_next a b)) _ _ _ (and_true (nat_lt k 3) _ (lt_true k 3 l) m) refl)

most_reads : (r : Reader) (n : ℕ) (v : List ℕ) (k a : ℕ) → Each IsDigit v → k + length v ≤ 3 → decimal a v ≤ 255 → n ≤ decimal a v →
    (j : ℕ) × (j ≡ k + length v) × (read (Some (in_braces r (Most n k a))) v ≡ Some (in_braces r (Most n j (decimal a v))))
most_reads r n [] k a h l m q = (k, omega arith, refl)
most_reads r n (b ∷ v) k a h l m q =
    let g = most_reads r n v (k + 1) (digit_next a b) h.1 (omega arith) m q in
    let i = reaches_from v n (k + 1) (digit_next a b) h.1 (omega arith) (omega arith) m q in
    let e = most_digit r n k a b h.0 (omega arith) i in
    (g.0, omega (arith, g.1), ap (λ x. read x v) e ∙ g.2)

-- the first number of the braces
first_number : (r : Reader) (v : List ℕ) (n : ℕ) → IsNumber v n → (j : ℕ) × (1 ≤ j) × (read (Some (at_place r Atomic)) (123 ∷ v) ≡ Some (in_braces r (Least j n)))
first_number r v n h =
    let g = least_reads r v 0 0 h.2 (omega arith) (omega (arith, h.3, h.4)) in
    (g.0, omega (arith, g.1, h.0), g.2 ∙ ap (λ x. Some (in_braces r (Least g.0 x))) (sym h.3))

-- ---- the ends of braces

exact_end : (r : Reader) (k n : ℕ) → 1 ≤ k → braces_of (Least k n) (in_braces r (Least k n)) 125 ≡ Some (quantified (Exactly n) r)
exact_end r k n h = chosen (nat_lt 0 k) _ _ _ (lt_true 0 k h) refl

comma : (r : Reader) (k n : ℕ) → 1 ≤ k → braces_of (Least k n) (in_braces r (Least k n)) 44 ≡ Some (in_braces r (Most n 0 0))
comma r k n h = chosen (nat_lt 0 k) _ _ _ (lt_true 0 k h) refl

between_end : (r : Reader) (n k m : ℕ) → k ≢ 0 → n ≤ m → braces_of (Most n k m) (in_braces r (Most n k m)) 125 ≡ Some (quantified (Between n m) r)
between_end r n k m p h = passed (k == 0) _ _ _ (eq_false k 0 p) (chosen (nat_lt n (m + 1)) _ _ _ (lt_true n (m + 1) (omega arith)) refl)

-- ---- quantifiers

pub times_reads : (r : Reader) (w : List ℕ) (q : Times) → IsTimes w q → read (Some (at_place r Atomic)) w ≡ Some (quantified q r)
times_reads r w q many = refl
times_reads r w q plenty = refl
times_reads r w q maybe = refl
times_reads r w q (exactly {n} v e h) =
    let g = first_number r v n h in
    ap (read (Some (at_place r Atomic))) e ∙ read_through (123 ∷ v) (125 ∷ []) (Some (at_place r Atomic)) _ _ g.2 (exact_end r g.0 n g.1)
times_reads r w q (at_least {n} v e h) =
    let g = first_number r v n h in
    ap (read (Some (at_place r Atomic))) e
    ∙ read_through (123 ∷ v) (44 ∷ 125 ∷ []) (Some (at_place r Atomic)) _ _ g.2 (ap (λ x. read x (125 ∷ [])) (comma r g.0 n g.1))
times_reads r w q (between {n} {m} v z e h k l) =
    let g = first_number r v n h in
    let s = most_reads r n z 0 0 k.2 (omega arith) (omega (arith, k.3, k.4)) (omega (arith, k.3, l)) in
    let y : read (Some (in_braces r (Most n 0 0))) z ≡ Some (in_braces r (Most n s.0 m)) = s.2 ∙ ap (λ x. Some (in_braces r (Most n s.0 x))) (sym k.3) in
    ap (read (Some (at_place r Atomic))) e
    ∙ read_through (123 ∷ v) (44 ∷ (z ++ 125 ∷ [])) (Some (at_place r Atomic)) _ _ g.2
    (ap (λ x. read x (z ++ 125 ∷ [])) (comma r g.0 n g.1)
    ∙ read_through z (125 ∷ []) (Some (in_braces r (Most n 0 0))) _ _ y (between_end r n s.0 m (omega (arith, s.1, k.0)) l))
