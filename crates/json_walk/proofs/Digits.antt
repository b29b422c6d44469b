-- What is read from a text of digits.
use Rattle.std.proofs.Common.{◌≡◌, ℕ, ◌^◌, ◌<◌, ◌≤◌, List, [], ◌∷◌, length, Bool, true, false, cond, ◌==◌, Result, Ok, Err, ℤ, pos, neg_ℤ, refl, ap, arith, rules}
use Rattle.std.specs.List.{list_all}
use Rattle.std.specs.Result.{OkIff}
use Rattle.std.specs.Str.Parse.{digits_value, ParsesSigned}
use Rattle.std.proofs.lemmas.Bool.Decides.{nat_tests}
use Rattle.std.proofs.lemmas.Str.Parse.{IsNumeralModel, numerals_by_value, parse_signed_digits, parse_signed_minus, digits_value_short}
use Rattle.text_base.specs.Alphabets.{is_digit}
use Rattle.json_walk.specs.Numbers.{are_digits, is_number, written}
use mir.Syntax.{w128}

own : IsNumeralModel (λ ds. list_all is_digit ds ≡ true) (digits_value 10)
own = numerals_by_value _ (search rules)

given : {E : Type 0} {Q : Type 0} {x : ℤ} (r : Result ℤ E) → OkIff r Q x → Q → r ≡ Ok x
given (Ok y) h q = ap Ok h.1
given (Err e) h q = absurd (h q)

pub record IsShort (ds : List ℕ) : Type 0 where
  some : 0 < length ds
  few : length ds ≤ 20
  digits : list_all is_digit ds ≡ true

short : (ds : List ℕ) → are_digits ds ≡ true → IsShort ds
short ds h = record { some = grind (arith, nat_tests); few = grind (arith, nat_tests); digits = grind (arith, nat_tests) }

of_digits : {E : Type 0} (ds : List ℕ) (r : Result ℤ E) → ParsesSigned w128 10 ds r → are_digits ds ≡ true → r ≡ Ok (pos (digits_value 10 ds))
of_digits ds r h e =
    let s = short ds e in
    let below : digits_value 10 ds < 10 ^ 20 = digits_value_short own ds 20 s.digits s.few in
    given r (parse_signed_digits own w128 ds r h s.digits) (s.some, omega (arith, below))

of_minus : {E : Type 0} (b : ℕ) (ds : List ℕ) (r : Result ℤ E) → b ≡ 45 → ParsesSigned w128 10 (b ∷ ds) r → are_digits ds ≡ true → r ≡ Ok (neg_ℤ (pos (digits_value 10 ds)))
of_minus b ds r m h e =
    let s = short ds e in
    let below : digits_value 10 ds < 10 ^ 20 = digits_value_short own ds 20 s.digits s.few in
    given r (parse_signed_minus own w128 (b ∷ ds) r h m) (s.digits, s.some, omega (arith, below))

by_sign : {E : Type 0} (b : ℕ) (ds : List ℕ) (t : Bool) (r : Result ℤ E) → (b == 45) ≡ t → ParsesSigned w128 10 (b ∷ ds) r → cond t (are_digits ds) (are_digits (b ∷ ds)) ≡ true
    → r ≡ Ok (cond t (neg_ℤ (pos (digits_value 10 ds))) (pos (digits_value 10 (b ∷ ds))))
by_sign b ds true r q h e = let m : b ≡ 45 = grind (arith, nat_tests) in of_minus b ds r m h e
by_sign b ds false r q h e = of_digits (b ∷ ds) r h e

-- what is read from a text that is a number is that number
pub parsed_is : {E : Type 0} (s : List ℕ) (r : Result ℤ E) → ParsesSigned w128 10 s r → is_number s ≡ true → r ≡ Ok (written s)
parsed_is [] r h e = absurd (cc e)
parsed_is (b ∷ ds) r h e = by_sign b ds (b == 45) r refl h e
