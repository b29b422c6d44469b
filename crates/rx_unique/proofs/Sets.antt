-- A set of bytes is one number: two sets of the same bytes are equal.
use Rattle.std.proofs.Common.{◌≡◌, ℕ, zero, suc, ◌*◌, ◌/◌, ◌%◌, ◌<◌, ◌^◌, Bool, true, false, ◌&&◌, ◌==◌, refl, sym, ◌∙◌, ap, arith}
use Rattle.std.proofs.Math.Nat.{div-div-eq-div-mul}
use Rattle.std.proofs.lemmas.Bool.Decides.{nat_tests}
use Rattle.rx_term.specs.declared.sets.ByteSet.{ByteSet}
use Rattle.rx_term.specs.Term.{has_byte}
use Rattle.rx_term.specs.Pattern.{IsSetOf}
use Rattle.rx_parse.proofs.Runs.{lt_true}

pow_suc : (n : ℕ) → 2 ^ suc n ≡ 2 * 2 ^ n
pow_suc n = grind arith

below : (n x : ℕ) → x < 2 ^ suc n → x / 2 < 2 ^ n
below n x h = omega (arith, pow_suc n)

-- the bits of a half are those of the number from the second on
half_bit : (x b : ℕ) → x / 2 / 2 ^ b ≡ x / 2 ^ suc b
half_bit x b = div-div-eq-div-mul x 2 (2 ^ b) ∙ ap (λ n. x / n) (sym (pow_suc b))

first_bit : (x : ℕ) → x / 2 ^ 0 ≡ x
first_bit x = omega arith

odd_same : (x y : ℕ) → ((x % 2 == 1) ≡ (y % 2 == 1)) → x % 2 ≡ y % 2
odd_same x y e = grind (arith, nat_tests)

-- numbers of so many bits are equal where their bits are
same_bits : (n x y : ℕ) → x < 2 ^ n → y < 2 ^ n → ((b : ℕ) → b < n → (x / 2 ^ b % 2 == 1) ≡ (y / 2 ^ b % 2 == 1)) → x ≡ y
same_bits zero x y h k e = omega arith
same_bits (suc n) x y h k e =
    let i = same_bits n (x / 2) (y / 2) (below n x h) (below n y k)
    (λ b l. ap (λ z. z % 2 == 1) (half_bit x b) ∙ (e (suc b) (omega arith) ∙ ap (λ z. z % 2 == 1) (sym (half_bit y b)))) in
    let o = odd_same x y (ap (λ z. z % 2 == 1) (sym (first_bit x)) ∙ (e 0 (omega arith) ∙ ap (λ z. z % 2 == 1) (first_bit y))) in
    omega arith

same_tests : (c d : Bool) → (c ≡ true → d ≡ true) → (d ≡ true → c ≡ true) → c ≡ d
same_tests true d f g = sym (f refl)
same_tests false true f g = g refl
same_tests false false f g = refl

set_bit : (s : ByteSet) (b : ℕ) → b < 128 → has_byte s b ≡ (s.0 / 2 ^ b % 2 == 1)
set_bit s b l = ap (λ c. c && (s.0 / 2 ^ b % 2 == 1)) (lt_true b 128 l)

-- one set has these bytes
pub one_set : (P Q : ℕ → Type 0) (s t : ByteSet) → IsSetOf P s → IsSetOf Q t → ((b : ℕ) → P b → Q b) → ((b : ℕ) → Q b → P b) → s ≡ t
one_set P Q s t h k f g =
    let e = same_bits 128 s.0 t.0 h.small k.small
    (λ b l. sym (set_bit s b l) ∙ (same_tests (has_byte s b) (has_byte t b) (λ x. k.back b l (f b (h.forth b x))) (λ x. h.back b l (g b (k.forth b x)))
    ∙ set_bit t b l)) in
    ap (λ n. make n) e
  where
    make : ℕ → ByteSet
    make n = record { 0 = n }
