-- Headers that are read keep the rules of requests, and are few and short.
use Rattle.std.proofs.Common.{◌≡◌, ◌≤◌, ℕ, Bool, true, false, not, ◌&&◌, List, [], ◌∷◌, length, refl, arith}
use Rattle.std.specs.Prelude.{All, IfOk, bytes_eq, map, unwrap_or, nat_le}
use Rattle.std.specs.List.{list_all, list_any}
use Rattle.std.specs.Char.{to_ascii_lowercase}
use Rattle.std.specs.Str.{str_to_ascii_lowercase}
use Rattle.std.proofs.lemmas.Bool.{and_parts}
use Rattle.std.proofs.lemmas.Bool.Decides.{nat_tests}
use Rattle.std.proofs.lemmas.List.{length-map}
use Rattle.std.proofs.lemmas.List.Elements.{All-nil}
use Rattle.std.proofs.lemmas.List.Sums.{list_all-from_AllPass}
use Rattle.text_base.specs.Asked.{Head}
use Rattle.text_base.specs.Alphabets.{is_token_byte, is_capital}
use Rattle.text_base.specs.Requests.{some_of, reserved_names, is_header, is_header_name, is_header_value}
use Rattle.json_tables.specs.declared.message.Message.TheVariants.{TestHeader}
use Rattle.json_tables.specs.Names as name
use Rattle.json_walk.specs.declared.refusal.Kind.TheVariants.{BadText, TooMany}
use Rattle.json_walk.specs.Members.{members_at}
use Rattle.json_walk.specs.Fields.{optional, required}
use Rattle.json_walk.specs.Leaves.{text}
use Rattle.read_match.specs.Kinds.{header_name, lowered}
use Rattle.test_read.specs.Headers.{header_key, header_value, header, headers}
use Rattle.cfg_types.specs.Conditions.{AreFewHeads}
use Rattle.json_walk.proofs.ReadFacts.{Reads, after, whatever, weaker, where_true, where_false, of_required, of_optional, of_short_list}

abbrev is_low : ℕ → Bool
is_low b = is_token_byte b && not (is_capital b)

low_byte : (b : ℕ) → is_token_byte b ≡ true → is_low (to_ascii_lowercase b) ≡ true
low_byte b e = grind (arith, nat_tests)

low_bytes : (t : List ℕ) → list_all is_token_byte t ≡ true → list_all is_low (map to_ascii_lowercase t) ≡ true
low_bytes [] e = refl
low_bytes (b ∷ t) e =
    let p : (is_token_byte b ≡ true) × (list_all is_token_byte t ≡ true) = and_parts (is_token_byte b) (list_all is_token_byte t) e in
    rw (low_byte b p.0, low_bytes t p.1) refl

low_name : (t : List ℕ) → some_of is_token_byte t ≡ true → some_of is_low (str_to_ascii_lowercase t) ≡ true
low_name [] e = absurd (cc)
low_name (b ∷ t) e = low_bytes (b ∷ t) e

-- a token in lower case of at most 1,024 bytes
abbrev IsShortName : List ℕ → Type 0
IsShortName n = (some_of is_low n ≡ true) × (length n ≤ 1024)

is_short : (t : List ℕ) → not (nat_le (length t) 1024) ≡ false → length (str_to_ascii_lowercase t) ≤ 1024
is_short t e = let l : length t ≤ 1024 = grind (arith, nat_tests) in simp length-map l

short_name : (p t : List ℕ) → IfOk (lowered p t) IsShortName
unfolding lowered
short_name p t =
    where_false (not (nat_le (length t) 1024)) _ p TooMany IsShortName (λ few.
    where_true (some_of is_token_byte t) (str_to_ascii_lowercase t) p BadText IsShortName (λ token. (low_name t token, is_short t few)))

of_header_name : Reads IsShortName header_name
unfolding header_name
of_header_name p d = whatever (text p d) (λ t. lowered p t) IsShortName (short_name p)

abbrev IsKey : List ℕ → Type 0
IsKey n = (is_header_name n ≡ true) × (length n ≤ 1024)

of_key : Reads IsKey header_key
unfolding header_key
of_key p d =
    after (header_name p d) _ IsShortName IsKey (of_header_name p d) (λ n short.
    where_false (list_any (bytes_eq n) reserved_names) _ p BadText IsKey (λ free. (rw (short.0, free) refl, short.1)))

of_value : Reads (λ v. is_header_value v ≡ true) header_value
unfolding header_value
of_value p d = whatever (text p d) _ (λ v. is_header_value v ≡ true) (λ t. where_true (is_header_value t) t p BadText (λ v. is_header_value v ≡ true) (λ e. e))

-- a header that keeps the rules, with a short name
abbrev pub IsHead : Head → Type 0
IsHead h = (is_header h ≡ true) × (length h.0 ≤ 1024)

of_header : Reads IsHead header
unfolding header
of_header p d =
    whatever (members_at TestHeader p d) _ IsHead (λ _.
    after (required p d name.key header_key) _ IsKey IsHead (of_required p d name.key header_key IsKey of_key) (λ key k.
    after (optional p d name.value header_value) _ (λ v. is_header_value (unwrap_or v []) ≡ true) IsHead (of_optional p d name.value header_value [] (λ v. is_header_value v ≡ true) refl of_value) (λ value v. (rw (k.0, v) refl, k.1))))

-- few headers that keep the rules
pub record AreHeads (heads : List Head) : Type 0 where
  pub few : AreFewHeads heads
  pub valid : list_all is_header heads ≡ true

pub are_heads : (hs : List Head) → All IsHead hs → length hs ≤ 1000 → AreHeads hs
are_heads hs all few = record {
  few = record { few = few; short = λ k h within. (all k h within).1 };
  valid = list_all-from_AllPass is_header hs (λ k h within. (all k h within).0);
}

pub no_heads : AreHeads []
no_heads = are_heads [] (All-nil IsHead) (omega arith)

pub of_headers : Reads AreHeads headers
unfolding headers
of_headers p d = weaker (headers p d) (λ hs. All IsHead hs × (length hs ≤ 1000)) AreHeads (of_short_list 1000 header IsHead of_header p d) (λ hs h. are_heads hs h.0 h.1)
