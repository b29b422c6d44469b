-- Names of headers and the parts of valid requests are text: their bytes are those of ASCII.
use Rattle.std.proofs.Common.{◌≡◌, ℕ, zero, suc, ◌<◌, Bool, true, ◌&&◌, List, [], ◌∷◌, length, get_or, ap, ◌∙◌, arith}
use Rattle.std.specs.Prelude.{not, ◌==◌, nat_eq}
use Rattle.std.specs.List.{list_all, starts_with, ends_with}
use Rattle.std.specs.Str.{IsAscii, IsUtf8}
use Rattle.std.proofs.lemmas.Bool.{and_parts}
use Rattle.std.proofs.lemmas.Bool.Decides.{nat_tests}
use Rattle.std.proofs.lemmas.Str.{IsUtf8-from_ascii}
use Rattle.std.proofs.lemmas.Str.Ascii.{IsAscii-cons, IsAscii-nil}
use Rattle.text_base.specs.Asked.{Bytes, Asked, Head}
use Rattle.text_base.specs.Alphabets.{is_authority_byte, is_token_byte, is_target_byte, is_printed, is_capital}
use Rattle.text_base.specs.Requests.{some_of, is_authority, is_target, is_method, is_runtime, is_header, is_header_name, is_header_value, is_valid}

authority_small : (b : ℕ) → is_authority_byte b ≡ true → b < 128
authority_small b e = grind (arith, nat_tests)

target_small : (b : ℕ) → is_target_byte b ≡ true → b < 128
target_small b e = grind (arith, nat_tests)

token_small : (b : ℕ) → is_token_byte b ≡ true → b < 128
token_small b e = grind (arith, nat_tests)

printed_small : (b : ℕ) → is_printed b ≡ true → b < 128
printed_small b e = grind (arith, nat_tests)

name_small : (b : ℕ) → (is_token_byte b && not (is_capital b)) ≡ true → b < 128
name_small b e = token_small b (and_parts (is_token_byte b) _ e).0

of_bytes : (p : ℕ → Bool) → ((b : ℕ) → p b ≡ true → b < 128) → (xs : Bytes) → list_all p xs ≡ true → IsAscii xs
of_bytes p small [] e = IsAscii-nil
of_bytes p small (x ∷ xs) e = let h = and_parts (p x) _ e in IsAscii-cons x xs (small x h.0) (of_bytes p small xs h.1)

of_some : (p : ℕ → Bool) → ((b : ℕ) → p b ≡ true → b < 128) → (xs : Bytes) → some_of p xs ≡ true → IsAscii xs
of_some p small [] e = IsAscii-nil
of_some p small (x ∷ xs) e = of_bytes p small (x ∷ xs) e

pub name_is_text : (n : Bytes) → is_header_name n ≡ true → IsUtf8 n
name_is_text n e = IsUtf8-from_ascii n (of_some (λ b. is_token_byte b && not (is_capital b)) name_small n (and_parts (some_of (λ b. is_token_byte b && not (is_capital b)) n) _ e).0)

pub value_is_text : (v : Bytes) → is_header_value v ≡ true → IsUtf8 v
value_is_text v e =
    let left = and_parts (list_all is_printed v && not (starts_with nat_eq v (32 ∷ []))) (not (ends_with nat_eq v (32 ∷ []))) e in
    IsUtf8-from_ascii v (of_bytes is_printed printed_small v (and_parts (list_all is_printed v) (not (starts_with nat_eq v (32 ∷ []))) left.0).0)

slash_small : (b : ℕ) (t : Bytes) → is_target (b ∷ t) ≡ true → b < 128
slash_small b t e = let h : (b == 47) ≡ true = (and_parts (b == 47) (list_all is_target_byte t) e).0 in grind (arith, nat_tests)

target_is_ascii : (t : Bytes) → is_target t ≡ true → IsAscii t
target_is_ascii [] e = IsAscii-nil
target_is_ascii (b ∷ t) e = IsAscii-cons b t (slash_small b t e) (of_bytes is_target_byte target_small t (and_parts (b == 47) (list_all is_target_byte t) e).1)

-- the parts of a valid request
pub record AreTexts (q : Asked) : Type 0 where
  pub authority : IsUtf8 q.authority
  pub target : IsUtf8 q.target
  pub method : IsUtf8 q.method
  pub runtime : IsUtf8 q.runtime
  pub headers : list_all is_header q.headers ≡ true

pub texts_of_valid : (q : Asked) → is_valid q ≡ true → AreTexts q
texts_of_valid q e =
    let h = and_parts (is_authority q.authority && is_target q.target && is_method q.method && is_runtime q.runtime) (list_all is_header q.headers) e in
    let r = and_parts (is_authority q.authority && is_target q.target && is_method q.method) (is_runtime q.runtime) h.0 in
    let m = and_parts (is_authority q.authority && is_target q.target) (is_method q.method) r.0 in
    let a = and_parts (is_authority q.authority) (is_target q.target) m.0 in
    record {
      authority = IsUtf8-from_ascii q.authority (of_some is_authority_byte authority_small q.authority a.0);
      target = IsUtf8-from_ascii q.target (target_is_ascii q.target a.1);
      method = IsUtf8-from_ascii q.method (of_some is_token_byte token_small q.method m.1);
      runtime = IsUtf8-from_ascii q.runtime (of_bytes is_printed printed_small q.runtime r.1);
      headers = h.1;
    }

-- the name and the value of a header
pub heads_are_text : (h : Head) → is_header h ≡ true → IsUtf8 h.0 × IsUtf8 h.1
heads_are_text h e = let both = and_parts (is_header_name h.0) (is_header_value h.1) e in (name_is_text h.0 both.0, value_is_text h.1 both.1)

header_from : (hs : List Head) (i : ℕ) (d : Head) → list_all is_header hs ≡ true → i < length hs → is_header (get_or hs i d) ≡ true
header_from [] i d e h = absurd (omega arith)
header_from (x ∷ hs) zero d e h = (and_parts (is_header x) (list_all is_header hs) e).0
header_from (x ∷ hs) (suc i) d e h = header_from hs i d (and_parts (is_header x) (list_all is_header hs) e).1 (omega arith)

pub header_at : (hs : List Head) (i : ℕ) (h : Head) → list_all is_header hs ≡ true → i < length hs → h ≡ get_or hs i h → is_header h ≡ true
header_at hs i h e below is = ap is_header is ∙ header_from hs i h e below
