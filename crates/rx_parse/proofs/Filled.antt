-- The number that is filled from tests has them as its bits.
use Rattle.std.proofs.Common.{◌≡◌, ℕ, zero, suc, ◌+◌, ◌-◌, ◌*◌, ◌/◌, ◌%◌, ◌<◌, ◌≤◌, ◌^◌, Bool, true, false, ◌&&◌, cond, ◌==◌, sym, ◌∙◌, ap, subst, arith}
use Rattle.std.proofs.Math.Nat.{div-div-eq-div-mul, pow-le-pow_right}
use Rattle.rx_term.specs.declared.sets.ByteSet.{ByteSet}
use Rattle.rx_parse.specs.Sets.{filled, IsSetBy}
use Rattle.rx_parse.proofs.Runs.{lt_true}

bit : Bool → ℕ
bit c = cond c 1 0

bit_small : (c : Bool) → cond c 1 0 < 2
bit_small true = omega arith
bit_small false = omega arith

pow_suc : (n : ℕ) → 2 ^ suc n ≡ 2 * 2 ^ n
pow_suc n = grind arith

pub filled_small : (p : ℕ → Bool) (n : ℕ) → filled p n < 2 ^ n
filled_small p zero = omega arith
filled_small p (suc n) = omega (arith, filled_small p n, pow_suc n, bit_small (p (127 - n)))

half : (x c : ℕ) → c < 2 → (2 * x + c) / 2 ≡ x
half x c h = omega arith

odd_bit : (x : ℕ) (c : Bool) → ((2 * x + cond c 1 0) % 2 == 1) ≡ c
odd_bit x true = ap (λ n. n == 1) (let e : (2 * x + 1) % 2 ≡ 1 = omega arith in e)
odd_bit x false = ap (λ n. n == 1) (let e : (2 * x + 0) % 2 ≡ 0 = omega arith in e)

higher : (x c b : ℕ) → c < 2 → (2 * x + c) / 2 ^ suc b ≡ x / 2 ^ b
higher x c b h = ap (λ n. (2 * x + c) / n) (pow_suc b) ∙ (sym (div-div-eq-div-mul (2 * x + c) 2 (2 ^ b)) ∙ ap (λ n. n / 2 ^ b) (half x c h))

div_one : (x : ℕ) → x / 2 ^ 0 ≡ x
div_one x = omega arith

pub filled_bit : (p : ℕ → Bool) (n b : ℕ) → b < n → n ≤ 128 → (filled p n / 2 ^ b % 2 == 1) ≡ p (128 - n + b)
filled_bit p zero b h k = absurd (omega arith)
filled_bit p (suc n) zero h k =
    ap (λ x. x % 2 == 1) (div_one (filled p (suc n)))
    ∙ (odd_bit (filled p n) (p (127 - n)) ∙ ap p (let e : 127 - n ≡ 128 - suc n + 0 = omega arith in e))
filled_bit p (suc n) (suc b) h k =
    ap (λ x. x % 2 == 1) (higher (filled p n) (cond (p (127 - n)) 1 0) b (bit_small (p (127 - n))))
    ∙ (filled_bit p n b (omega arith) (omega arith) ∙ ap p (let e : 128 - n + b ≡ 128 - suc n + suc b = omega arith in e))

pub filled_set : (p : ℕ → Bool) (set : ByteSet) → set.0 ≡ filled p 128 → IsSetBy p set
filled_set p set e = record {
  small = subst (λ n. n < 2 ^ 128) (sym e) (filled_small p 128);
  at = λ b h.
      ap (λ c. c && (set.0 / 2 ^ b % 2 == 1)) (lt_true b 128 h)
      ∙ (ap (λ n. n / 2 ^ b % 2 == 1) e ∙ (filled_bit p 128 b h (omega arith) ∙ ap p (let g : 128 - 128 + b ≡ b = omega arith in g)));
}

-- the next number fits as well
pub filled_room : (p : ℕ → Bool) (n : ℕ) → n < 128 → 2 * filled p n + 1 < 2 ^ 128
filled_room p n h =
    let k : 2 ^ suc n ≤ 2 ^ 128 = pow-le-pow_right {n = 2} (omega arith) {i = suc n} {j = 128} (omega arith) in
    let e : filled p n < 2 ^ n = filled_small p n in
    omega (arith, pow_suc n)
