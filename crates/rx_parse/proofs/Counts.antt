-- Braces are read to their end.
use Rattle.std.proofs.Common.{◌≡◌, ℕ, ◌+◌, ◌-◌, ◌*◌, ◌<◌, ◌≤◌, Bool, true, false, ◌&&◌, ◌||◌, cond, nat_lt, ◌==◌, List, [], ◌∷◌, ◌++◌, length, Some, refl, sym, ◌∙◌, ap, arith}
use Rattle.std.proofs.lemmas.Bool.Decides.{nat_tests}
use Rattle.rx_term.specs.Language.{Each}
use Rattle.rx_term.specs.Pattern.{IsDigit, IsNumber, decimal, IsTimes, Times}
use Rattle.rx_term.specs.Pattern.IsTimes.{many, plenty, maybe, exactly, at_least, between}
use Rattle.rx_parse.specs.declared.place.Braces.TheVariants.{Least, Most}
use Rattle.rx_parse.specs.declared.place.Place.{Place}
use Rattle.rx_parse.specs.declared.place.Place.TheVariants.{Atomic, Counted, InBraces}
use Rattle.rx_parse.specs.Kinds.{is_digit, reaches, digit_next}
use Rattle.rx_parse.proofs.Machine.{only, Moved, next, run}
use Rattle.rx_parse.proofs.Runs.{run_through, within_true, lt_true, and_true, or_left, or_right}

pub decimal_grows : (v : List ℕ) (a : ℕ) → a ≤ decimal a v
decimal_grows [] a = omega arith
decimal_grows (d ∷ v) a = omega (arith, decimal_grows v (10 * a + (d - 48)))

pub digit_true : (b : ℕ) → IsDigit b → is_digit b ≡ true
digit_true b h = within_true 48 57 b h.0 h.1

chosen : (c : Bool) (x y r : Moved) → c ≡ true → x ≡ r → cond c x y ≡ r
chosen true x y r e h = h
chosen false x y r e h = cc

only_true : (c : Bool) (d : ℕ) (p : Place) → c ≡ true → only c d p ≡ Some (d, p)
only_true true d p e = refl
only_true false d p e = cc

-- a digit of the first number
pub least_digit : (d k a b : ℕ) → IsDigit b → k < 3 → digit_next a b ≤ 255 →
    next d (InBraces (Least k a)) b ≡ Some (d, InBraces (Least (k + 1) (digit_next a b)))
least_digit d k a b h l m =
    chosen (is_digit b) _ _ _ (digit_true b h)
    (only_true (nat_lt k 3 && nat_lt (digit_next a b) 256) d _ (and_true (nat_lt k 3) _ (lt_true k 3 l) (lt_true (digit_next a b) 256 (omega arith))))

pub least_run : (d : ℕ) (v : List ℕ) (k a : ℕ) → Each IsDigit v → k + length v ≤ 3 → decimal a v ≤ 255 →
    (j : ℕ) × (j ≡ k + length v) × (run (Some (d, InBraces (Least k a))) v ≡ Some (d, InBraces (Least j (decimal a v))))
least_run d [] k a h l m = (k, omega arith, refl)
least_run d (b ∷ v) k a h l m =
    let r = least_run d v (k + 1) (digit_next a b) h.1 (omega arith) m in
    let e = least_digit d k a b h.0 (omega arith) (omega (arith, decimal_grows v (digit_next a b))) in
    (r.0, omega (arith, r.1), ap (λ x. run x v) e ∙ r.2)

-- what begins a number that is great enough
pub reaches_from : (v : List ℕ) (n k a : ℕ) → Each IsDigit v → 1 ≤ k → k + length v ≤ 3 → decimal a v ≤ 255 → n ≤ decimal a v → reaches n k a ≡ true
reaches_from [] n k a h p l m q = grind (arith, nat_tests)
reaches_from (x ∷ []) n k a h p l m q =
    let u : 10 * a + (x - 48) ≤ 255 = m in
    let s : n ≤ 10 * a + (x - 48) = q in
    let t : (48 ≤ x) × (x ≤ 57) = h.0 in
    and_true (nat_lt a 256) _ (lt_true a 256 (omega arith))
    (or_right (nat_lt n (a + 1)) _
    (or_left _ _
    (and_true (nat_lt k 3) _ (lt_true k 3 (omega arith)) (and_true (nat_lt (10 * a) 256) _ (lt_true (10 * a) 256 (omega arith)) (lt_true n (10 * a + 10) (omega arith))))))
reaches_from (x ∷ y ∷ []) n k a h p l m q =
    let u : 10 * (10 * a + (x - 48)) + (y - 48) ≤ 255 = m in
    let s : n ≤ 10 * (10 * a + (x - 48)) + (y - 48) = q in
    let t : (48 ≤ x) × (x ≤ 57) = h.0 in
    let o : (48 ≤ y) × (y ≤ 57) = h.1.0 in
    and_true (nat_lt a 256) _ (lt_true a 256 (omega arith))
    (or_right (nat_lt n (a + 1)) _
    (or_right (nat_lt k 3 && (nat_lt (10 * a) 256 && nat_lt n (10 * a + 10))) _
    (and_true (nat_lt k 2) _ (lt_true k 2 (omega arith)) (and_true (nat_lt (100 * a) 256) _ (lt_true (100 * a) 256 (omega arith)) (lt_true n (100 * a + 100) (omega arith))))))
reaches_from (x ∷ y ∷ z ∷ v) n k a h p l m q = absurd (omega arith)

pub most_digit : (d n k a b : ℕ) → IsDigit b → k < 3 → reaches n (k + 1) (digit_next a b) ≡ true →
    next d (InBraces (Most n k a)) b ≡ Some (d, InBraces (Most n (k + 1) (digit_next a b)))
most_digit d n k a b h l m =
    chosen (is_digit b) _ _ _ (digit_true b h)
    (only_true (nat_lt k 3 && reaches n (k + 1) (digit_next a b)) d _ (and_true (nat_lt k 3) _ (lt_true k 3 l) m))

pub most_run : (d n : ℕ) (v : List ℕ) (k a : ℕ) → Each IsDigit v → k + length v ≤ 3 → decimal a v ≤ 255 → n ≤ decimal a v →
    (j : ℕ) × (j ≡ k + length v) × (run (Some (d, InBraces (Most n k a))) v ≡ Some (d, InBraces (Most n j (decimal a v))))
most_run d n [] k a h l m q = (k, omega arith, refl)
most_run d n (b ∷ v) k a h l m q =
    let r = most_run d n v (k + 1) (digit_next a b) h.1 (omega arith) m q in
    let g = reaches_from v n (k + 1) (digit_next a b) h.1 (omega arith) (omega arith) m q in
    let e = most_digit d n k a b h.0 (omega arith) g in
    (r.0, omega (arith, r.1), ap (λ x. run x v) e ∙ r.2)

-- the ends of braces
pub least_end : (d k v : ℕ) → 1 ≤ k → next d (InBraces (Least k v)) 125 ≡ Some (d, Counted)
least_end d k v h = only_true (nat_lt 0 k) d Counted (lt_true 0 k h)

pub least_comma : (d k v : ℕ) → 1 ≤ k → next d (InBraces (Least k v)) 44 ≡ Some (d, InBraces (Most v 0 0))
least_comma d k v h = chosen (nat_lt 0 k) _ _ _ (lt_true 0 k h) refl

pub most_end : (d n k v : ℕ) → n ≤ v → next d (InBraces (Most n k v)) 125 ≡ Some (d, Counted)
most_end d n k v h = only_true (k == 0 || nat_lt n (v + 1)) d Counted (or_right (k == 0) _ (lt_true n (v + 1) (omega arith)))

number_run : (d : ℕ) (v : List ℕ) (n : ℕ) → IsNumber v n →
    (j : ℕ) × (1 ≤ j) × (run (Some (d, InBraces (Least 0 0))) v ≡ Some (d, InBraces (Least j n)))
number_run d v n h =
    let r = least_run d v 0 0 h.2 (omega arith) (omega (arith, h.3, h.4)) in
    (r.0, omega (arith, r.1, h.0), r.2 ∙ ap (λ x. Some (d, InBraces (Least r.0 x))) (sym h.3))

-- a quantifier leads from behind an atom to behind a quantifier
pub times_run : (d : ℕ) (w : List ℕ) (q : Times) → IsTimes w q → run (Some (d, Atomic)) w ≡ Some (d, Counted)
times_run d w q many = refl
times_run d w q plenty = refl
times_run d w q maybe = refl
times_run d w q (exactly {n} v e h) =
    let r = number_run d v n h in
    ap (run (Some (d, Atomic))) e ∙ run_through v (125 ∷ []) (Some (d, InBraces (Least 0 0))) _ _ r.2 (least_end d r.0 n r.1)
times_run d w q (at_least {n} v e h) =
    let r = number_run d v n h in
    ap (run (Some (d, Atomic))) e ∙ run_through v (44 ∷ 125 ∷ []) (Some (d, InBraces (Least 0 0))) _ _ r.2 (ap (λ x. run x (125 ∷ [])) (least_comma d r.0 n r.1) ∙ refl)
times_run d w q (between {n} {m} v z e h k l) =
    let r = number_run d v n h in
    let s = most_run d n z 0 0 k.2 (omega arith) (omega (arith, k.3, k.4)) (omega (arith, k.3, l)) in
    ap (run (Some (d, Atomic))) e
    ∙ run_through v (44 ∷ (z ++ 125 ∷ [])) (Some (d, InBraces (Least 0 0))) _ _ r.2
    (ap (λ x. run x (z ++ 125 ∷ [])) (least_comma d r.0 n r.1)
    ∙ run_through z (125 ∷ []) (Some (d, InBraces (Most n 0 0))) _ _ s.2 (most_end d n s.0 (decimal 0 z) (omega (arith, k.3, l))))
