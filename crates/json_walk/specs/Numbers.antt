-- Whole numbers, written as JSON numbers or as texts of digits.
use Rattle.std.specs.Prelude.{ℕ, List, [], ◌∷◌, length, Bool, false, ◌==◌, ◌&&◌, nat_le, if◌then◌else◌, Option, Some, None, Ok, ℤ, pos, negsuc, neg_ℤ, int_le}
use Rattle.std.specs.List.{list_all}
use Rattle.std.specs.Str.Parse.{digits_value}
use Rattle.text_base.specs.Alphabets.{is_digit}
use Rattle.serde_json.specs.Data.{Data, null, boolean, number, string, array, object}
use Rattle.serde_json.specs.Find.{as_integer}
use Rattle.json_walk.specs.declared.refusal.Kind.TheVariants.{WrongKind, OutOfRange}
use Rattle.json_walk.specs.Outcome.{offence, or_offence, ◌>>=◌}
use Rattle.json_walk.specs.Fields.{Reading}

-- 1 to 20 digits
abbrev pub are_digits : List ℕ → Bool
are_digits ds = nat_le 1 (length ds) && nat_le (length ds) 20 && list_all is_digit ds

-- an optional `-`, and 1 to 20 digits
abbrev pub is_number : List ℕ → Bool
is_number [] = false
is_number (b ∷ ds) = if b == 45 then are_digits ds else are_digits (b ∷ ds)

-- the number that an optional `-` and digits write
abbrev pub written : List ℕ → ℤ
written [] = pos 0
written (b ∷ ds) = if b == 45 then neg_ℤ (pos (digits_value 10 ds)) else pos (digits_value 10 (b ∷ ds))

abbrev pub text_number : List ℕ → Option ℤ
text_number s = if is_number s then Some (written s) else None

-- the whole number that a value says: a number with a fraction, an exponent or more than 64 bits says none
unfoldable pub number_said : Data → Option ℤ
number_said null = None
number_said (boolean b) = None
number_said (number n) = as_integer n
number_said (string s) = text_number s
number_said (array ds) = None
number_said (object ms) = None

-- a whole number from least to most
unfoldable pub whole : ℤ → ℤ → Reading ℤ
whole least most p d = do
  n ← or_offence p WrongKind (number_said d)
  if int_le least n && int_le n most then Ok n else offence p OutOfRange

abbrev natural : ℤ → ℕ
natural (pos n) = n
natural (negsuc n) = 0

-- a whole number from least to most, none of them below 0
unfoldable pub count : ℕ → ℕ → Reading ℕ
count least most p d = whole (pos least) (pos most) p d >>= λ n. Ok (natural n)
