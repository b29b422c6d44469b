-- The texts of the sample: decimal numbers between fixed letters.
use Rattle.std.proofs.Common.{◌≡◌, ℕ, ◌≤◌, ◌<◌, ◌^◌, ◌+◌, ◌%◌, Bool, true, List, [], ◌∷◌, ◌++◌, length, ap, ◌∙◌, arith}
use Rattle.std.specs.Prelude.{decimal, codes, nat_le, not, ◌&&◌}
use Rattle.std.specs.List.{list_all}
use Rattle.std.proofs.lemmas.Bool.Decides.{nat_tests}
use Rattle.std.proofs.lemmas.Fmt.{decimal_by_steps, length-decimal-le}
use Rattle.std.proofs.lemmas.List.Folds.{list_all-append}
use Rattle.std.proofs.lemmas.List.{length-append}
use Rattle.cfg_types.specs.Kinds.{is_matcher_text, is_domain_text}
use Rattle.text_base.specs.Requests.{some_of}
use Rattle.text_base.specs.Alphabets.{is_printed, is_authority_byte, is_capital}

pub digit_is_printed : (b : ℕ) → 48 ≤ b → b ≤ 57 → is_printed b ≡ true
digit_is_printed b l h = grind (arith, nat_tests)

pub digit_is_low : (b : ℕ) → 48 ≤ b → b ≤ 57 → (is_authority_byte b && not (is_capital b)) ≡ true
digit_is_low b l h = grind (arith, nat_tests)

-- what every digit passes, every byte of a decimal number passes
pub decimal_all : (p : ℕ → Bool) → ((b : ℕ) → 48 ≤ b → b ≤ 57 → p b ≡ true) → (n : ℕ) → n < 2 ^ 64 → list_all p (decimal n) ≡ true
decimal_all p h = decimal_by_steps (λ n ds. list_all p ds ≡ true) one more
  where
    one : (n : ℕ) → n < 10 → list_all p ((48 + n) ∷ []) ≡ true
    one n l = ap (λ b. b && true) (h (48 + n) (omega arith) (omega (arith, l)))

    more : (n : ℕ) (ds : List ℕ) → 10 ≤ n → list_all p ds ≡ true → list_all p (ds ++ (48 + n % 10) ∷ []) ≡ true
    more n ds l e =
        list_all-append p ds ((48 + n % 10) ∷ []) ∙ ap (λ b. b && list_all p ((48 + n % 10) ∷ [])) e
        ∙ ap (λ b. b && true) (h (48 + n % 10) (omega arith) (omega arith))

-- a decimal number of four digits at most is short
pub decimal_short : (n : ℕ) → n ≤ 2000 → length (decimal n) ≤ 4
decimal_short n l = length-decimal-le 4 n (omega arith) (omega (arith, l)) (omega (arith, l))

pub number_text : (n : ℕ) → n ≤ 2000 → is_matcher_text (decimal n) ≡ true
number_text n l =
    let s : nat_le (length (decimal n)) 4096 ≡ true = let e = decimal_short n l in grind (arith, nat_tests) in
    ap (λ b. b && list_all is_printed (decimal n)) s ∙ decimal_all is_printed digit_is_printed n (omega (arith, l))

pub domain_text : (n : ℕ) → n ≤ 2000 → is_domain_text 1024 (codes "h" ++ decimal n ++ codes ".test") ≡ true
domain_text n l =
    let q : ℕ → Bool = λ b. is_authority_byte b && not (is_capital b) in
    let s : nat_le (length (codes "h" ++ decimal n ++ codes ".test")) 1024 ≡ true =
    let e = decimal_short n l in let k = length-append (decimal n) (codes ".test") in
    let m : length (codes "h" ++ decimal n ++ codes ".test") ≤ 1024 = omega (arith, e, k) in grind (arith, nat_tests) in
    ap (λ b. b && some_of q (codes "h" ++ decimal n ++ codes ".test")) s
    ∙ list_all-append q (decimal n) (codes ".test") ∙ ap (λ b. b && true) (decimal_all q digit_is_low n (omega (arith, l)))
