-- What is read of a number without leading zeros.
use Rattle.std.proofs.Common.{◌≡◌, ℕ, ◌^◌, ◌<◌, inl, inr, [], ◌∷◌, length, Bool, true, false, ◌==◌, not, ◌&&◌, ◌||◌, nat_le, if◌then◌else◌, Option, Some, None, Err, refl, arith, rules}
use Rattle.std.specs.List.{list_all}
use Rattle.std.specs.Str.Parse.{digits_value, ParsesUnsigned}
use Rattle.std.proofs.lemmas.Bool.{and_parts, cases_lt}
use Rattle.std.proofs.lemmas.Bool.Decides.{nat_tests}
use Rattle.std.proofs.lemmas.Str.Parse.{IsNumeralModel, numerals_by_value, parse_digits}
use Rattle.text_base.specs.Asked.{Bytes}
use Rattle.text_base.specs.Alphabets.{is_digit}
use Rattle.check_core.specs.Words.{is_number, number_within}

own : IsNumeralModel (λ ds. list_all is_digit ds ≡ true) (digits_value 10)
own = numerals_by_value _ (search rules)

digits_in : (t : Bytes) → is_number t ≡ true → (list_all is_digit t ≡ true) × (0 < length t)
digits_in [] e = absurd (cc e)
digits_in (d ∷ ds) e = ((and_parts (list_all is_digit (d ∷ ds)) (not (d == 48) || length ds == 0) e).0, omega arith)

-- that a text isn't read as a number
abbrev IsUnread : Bytes → Type 0
IsUnread t = ParsesUnsigned {E = Unit {0}} 32 10 t (Err (tt {0}))

-- then the number has more than 32 bits
unread : (t : Bytes) → IsUnread t → is_number t ≡ true → digits_value 10 t < 2 ^ 32 → ⊥
unread t p e l = parse_digits own 32 t (Err (tt {0})) p (digits_in t e).0 ((digits_in t e).1, l)

too_great : (a b c : Bool) (n : Option ℕ) → c ≡ false → None ≡ (if a && b && c then n else None)
too_great true true c n e = rw e refl
too_great true false c n e = refl
too_great false b c n e = refl

-- such a number is past every bound
pub number_unread : (least most : ℕ) (t : Bytes) → IsUnread t → is_number t ≡ true → most < 2 ^ 32 → None ≡ number_within least most t
number_unread least most t p e m = elim (cases_lt (digits_value 10 t) (2 ^ 32)) [
  | inl l ↦ absurd (unread t p e l)
  | inr g ↦ let past : nat_le (digits_value 10 t) most ≡ false = grind (arith, nat_tests) in
      too_great (is_number t) (nat_le least (digits_value 10 t)) (nat_le (digits_value 10 t) most) (Some (digits_value 10 t)) past
]
