-- When a text has a form: equal but for letter case, in front, at the end, somewhere, a number in a range.
use Rattle.std.specs.Prelude.{ℕ, ◌+◌, ◌-◌, ◌*◌, Bool, false, ◌&&◌, ◌||◌, ◌==◌, if◌then◌else◌, [], ◌∷◌, Option, Some, None, option_map, nat_eq, ℤ, pos, int_le, int_lt, neg_ℤ}
use Rattle.std.specs.List.{starts_with, ends_with}
use Rattle.std.specs.Str.{str_to_ascii_lowercase}
use Rattle.text_base.specs.Asked.{Bytes}
use Rattle.text_base.specs.Alphabets.{is_digit}

-- the text in lower case, where the case of ASCII letters is ignored
abbrev pub folded : Bool → Bytes → Bytes
folded fold t = if fold then str_to_ascii_lowercase t else t

-- v stands in front of t
abbrev pub begins : Bytes → Bytes → Bool
begins t v = starts_with nat_eq t v

-- v stands at the end of t
abbrev pub ends : Bytes → Bytes → Bool
ends t v = ends_with nat_eq t v

-- v stands somewhere in t
abbrev pub occurs : Bytes → Bytes → Bool
occurs [] v = begins [] v
occurs (b ∷ t) v = begins (b ∷ t) v || occurs t v

-- the decimal number that the digits say behind those of n
abbrev pub digits_from : ℕ → Bytes → Option ℕ
digits_from n [] = Some n
digits_from n (d ∷ ds) = if is_digit d then digits_from (10 * n + (d - 48)) ds else None

-- the decimal number of one or more digits, leading zeros allowed
abbrev pub digits_value : Bytes → Option ℕ
digits_value [] = None
digits_value (d ∷ ds) = digits_from 0 (d ∷ ds)

-- the decimal number of an optional sign and one or more digits
abbrev pub signed_value : Bytes → Option ℤ
signed_value [] = None
signed_value (b ∷ ds) =
    if b == 45 then option_map (λ n. neg_ℤ (pos n)) (digits_value ds)
    else if b == 43 then option_map pos (digits_value ds)
    else option_map pos (digits_value (b ∷ ds))

-- there is a number, and it is from start on and below end
abbrev pub within : ℤ → ℤ → Option ℤ → Bool
within start end None = false
within start end (Some n) = int_le start n && int_lt n end
