-- Sets of bytes by tests of single bytes.
use Rattle.std.specs.Prelude.{◌≡◌, ℕ, zero, suc, ◌+◌, ◌-◌, ◌*◌, ◌<◌, ◌^◌, Bool, false, ◌&&◌, ◌||◌, not, cond, ◌==◌}
use Rattle.rx_term.specs.declared.sets.ByteSet.{ByteSet}
use Rattle.rx_term.specs.Term.{has_byte}
use Rattle.rx_parse.specs.declared.bytes.Bytes.{Bytes}
use Rattle.rx_parse.specs.declared.bytes.Bytes.TheVariants.{Any, Range, Escape, Both, Without}
use Rattle.rx_parse.specs.Kinds.{is_within, is_any, is_digit}

-- a letter, a digit or `_`
abbrev pub is_word : ℕ → Bool
is_word b = is_digit b || (is_within 65 90 b || (is_within 97 122 b || b == 95))

-- a byte of the range, or with the flag the other case of one
abbrev pub is_in_range : Bool → ℕ → ℕ → ℕ → Bool
is_in_range f low high b =
    is_within low high b || (f && ((is_within 97 122 b && is_within low high (b - 32)) || (is_within 65 90 b && is_within low high (b + 32))))

-- a byte of the set that the letter names
abbrev pub is_in_escape : ℕ → ℕ → Bool
is_in_escape c b =
    cond (c == 100) (is_digit b)
    (cond (c == 119) (is_word b)
    (cond (c == 115) (b == 32)
    (cond (c == 68) (is_any b && not (is_digit b))
    (cond (c == 87) (is_any b && not (is_word b)) (cond (c == 83) (is_any b && not (b == 32)) false)))))

-- the byte is among the bytes
abbrev pub holds : Bytes → ℕ → Bool
holds Any b = is_any b
holds (Range f low high) b = is_in_range f low high b
holds (Escape c) b = is_in_escape c b
holds (Both s u) b = has_byte s b || has_byte u b
holds (Without s) b = is_any b && not (has_byte s b)

-- the number whose bits are the tests at 127, 126 and so on, n of them
abbrev pub filled : (ℕ → Bool) → ℕ → ℕ
filled p zero = 0
filled p (suc n) = 2 * filled p n + cond (p (127 - n)) 1 0

-- the set of the bytes at which the test is true
pub record IsSetBy (p : ℕ → Bool) (set : ByteSet) : Type 0 where
  pub small : set.0 < 2 ^ 128
  pub at : (b : ℕ) → b < 128 → has_byte set b ≡ p b
