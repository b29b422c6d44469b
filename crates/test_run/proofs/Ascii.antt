-- What a reply tells of is text: the bytes of valid requests and of lawful configurations are those of ASCII.
use Rattle.std.proofs.Common.{◌≡◌, ◌⊎◌, inl, inr, ℕ, zero, suc, ◌<◌, ◌≤◌, ◌-◌, ◌/◌, ◌%◌, Bool, true, false, ◌&&◌, if◌then◌else◌, List, [], ◌∷◌, ◌++◌, length, take, drop, get_or, refl, arith}
use Rattle.std.specs.Prelude.{◌==◌, not, All, codes, bytes_eq, decimal}
use Rattle.std.specs.List.{list_all, position_or_len, suffix_len}
use Rattle.std.specs.Str.{IsUtf8}
use Rattle.std.proofs.lemmas.Bool.{and_parts, cases_lt}
use Rattle.std.proofs.lemmas.Bool.Decides.{nat_tests}
use Rattle.std.proofs.lemmas.List.{get_or_past}
use Rattle.std.proofs.lemmas.List.Elements.{All-nil, All-cons, All-head, All-tail, All-append, All-drop, All-take}
use Rattle.std.proofs.lemmas.Str.{IsUtf8-from_ascii}
use Rattle.std.specs.Fmt.{digits, digits_onto, digit_glyph}
use Rattle.text_base.specs.Asked.{Bytes, Head, Asked}
use Rattle.text_base.specs.Alphabets.{is_authority_byte, is_token_byte, is_target_byte, is_printed}
use Rattle.text_base.specs.Hosts.{host_text, has_port}
use Rattle.text_base.specs.Requests.{some_of, is_authority, is_target, is_method, is_runtime, is_header, is_header_name, is_header_value, is_valid}
use Rattle.text_base.specs.Heads.{proto_head, internal_heads, heads}
use Rattle.text_base.specs.Seen.{values, path_of, query_part}

-- ---- bytes

abbrev pub Ascii : Bytes → Type 0
Ascii v = All (λ b. b < 128) v

authority_small : (b : ℕ) → is_authority_byte b ≡ true → b < 128
authority_small b e = grind (arith, nat_tests)

target_small : (b : ℕ) → is_target_byte b ≡ true → b < 128
target_small b e = grind (arith, nat_tests)

token_small : (b : ℕ) → is_token_byte b ≡ true → b < 128
token_small b e = grind (arith, nat_tests)

printed_small : (b : ℕ) → is_printed b ≡ true → b < 128
printed_small b e = grind (arith, nat_tests)

slash_small : (b : ℕ) → (b == 47) ≡ true → b < 128
slash_small b e = grind (arith, nat_tests)

pub nothing : Ascii []
nothing = All-nil (λ b. b < 128)

pub in_front : (b : ℕ) (t : Bytes) → b < 128 → Ascii t → Ascii (b ∷ t)
in_front b t small a = All-cons (λ x. x < 128) b t small a

pub joined : (a b : Bytes) → Ascii a → Ascii b → Ascii (a ++ b)
joined a b x y = All-append (λ c. c < 128) a b x y

pub front : (n : ℕ) (t : Bytes) → Ascii t → Ascii (take n t)
front n t a = All-take (λ b. b < 128) n t a

pub rest : (n : ℕ) (t : Bytes) → Ascii t → Ascii (drop n t)
rest n t a = All-drop (λ b. b < 128) n t a

pub either : (b : Bool) (x y : Bytes) → Ascii x → Ascii y → Ascii (if b then x else y)
either true x y p q = p
either false x y p q = q

module _ (p : ℕ → Bool) (small : (b : ℕ) → p b ≡ true → b < 128) where
  of_all : (t : Bytes) → list_all p t ≡ true → Ascii t
  of_all [] e = nothing
  of_all (b ∷ t) e = let both = and_parts (p b) (list_all p t) e in in_front b t (small b both.0) (of_all t both.1)

  of_some : (t : Bytes) → some_of p t ≡ true → Ascii t
  of_some [] e = nothing
  of_some (b ∷ t) e = of_all (b ∷ t) e

pub of_printed : (t : Bytes) → list_all is_printed t ≡ true → Ascii t
of_printed t e = of_all is_printed printed_small t e

pub of_visible : (t : Bytes) → list_all is_target_byte t ≡ true → Ascii t
of_visible t e = of_all is_target_byte target_small t e

of_target : (t : Bytes) → is_target t ≡ true → Ascii t
of_target [] e = nothing
of_target (b ∷ t) e = let both = and_parts (b == 47) (list_all is_target_byte t) e in in_front b t (slash_small b both.0) (of_visible t both.1)

glyph_small : (n : ℕ) → digit_glyph false (n % 10) < 128
glyph_small n = grind (arith, nat_tests)

digits_ascii : (k n : ℕ) (after : Bytes) → Ascii after → Ascii (digits_onto k 10 false n after)
digits_ascii zero n after a = a
digits_ascii (suc k) n after a =
    let more : Ascii (digit_glyph false (n % 10) ∷ after) = in_front (digit_glyph false (n % 10)) after (glyph_small n) a in
    either (n / 10 == 0) (digit_glyph false (n % 10) ∷ after) (digits_onto k 10 false (n / 10) (digit_glyph false (n % 10) ∷ after)) more
    (digits_ascii k (n / 10) (digit_glyph false (n % 10) ∷ after) more)

pub of_decimal : (n : ℕ) → Ascii (decimal n)
unfolding digits
of_decimal n = digits_ascii 64 n [] nothing

pub is_text : (v : Bytes) → Ascii v → IsUtf8 v
is_text v a = IsUtf8-from_ascii v (λ i. by i (cases_lt i (length v)))
  where
    by : (i : ℕ) → (i < length v) ⊎ (length v ≤ i) → get_or v i 0 < 128
    by i (inl h) = a i 0 h
    by i (inr h) = let e : get_or v i 0 ≡ 0 = get_or_past v i 0 h in omega (arith, e)

-- ---- parts of requests

pub path_ascii : (t : Bytes) → Ascii t → Ascii (path_of t)
path_ascii t a = front (position_or_len (λ b. b == 63) t) t a

pub query_ascii : (t : Bytes) → Ascii t → Ascii (query_part t)
query_ascii t a = rest (length (path_of t)) t a

pub host_ascii : (ignore : Bool) (a : Bytes) → Ascii a → Ascii (host_text ignore a)
host_ascii ignore a x = either (ignore && has_port a) _ a (front (length a - suffix_len (λ b. not (b == 58)) a - 1) a x) x

-- a request that is valid has ASCII alone
pub record IsPlain (q : Asked) : Type 0 where
  pub authority : Ascii q.authority
  pub target : Ascii q.target
  pub method : Ascii q.method
  pub headers : list_all is_header q.headers ≡ true

pub plain : (q : Asked) → is_valid q ≡ true → IsPlain q
plain q e =
    let h = and_parts (is_authority q.authority && is_target q.target && is_method q.method && is_runtime q.runtime) (list_all is_header q.headers) e in
    let r = and_parts (is_authority q.authority && is_target q.target && is_method q.method) (is_runtime q.runtime) h.0 in
    let m = and_parts (is_authority q.authority && is_target q.target) (is_method q.method) r.0 in
    let t = and_parts (is_authority q.authority) (is_target q.target) m.0 in
    record {
      authority = of_some is_authority_byte authority_small q.authority t.0;
      target = of_target q.target t.1;
      method = of_some is_token_byte token_small q.method m.1;
      headers = h.1;
    }

-- ---- headers

abbrev pub HasAscii : Head → Type 0
HasAscii h = Ascii h.1

of_headers : (hs : List Head) → list_all is_header hs ≡ true → All HasAscii hs
of_headers [] e = All-nil HasAscii
of_headers (h ∷ hs) e =
    let whole = and_parts (is_header h) (list_all is_header hs) e in
    let value = (and_parts (is_header_name h.0) (is_header_value h.1) whole.0).1 in
    let printed = (and_parts (list_all is_printed h.1) _ (and_parts (list_all is_printed h.1 && _) _ value).0).0 in
    All-cons HasAscii h hs (of_printed h.1 printed) (of_headers hs whole.1)

of_internal : (internal : Bool) → All HasAscii (internal_heads internal)
of_internal false = All-nil HasAscii
of_internal true = All-cons HasAscii _ [] (of_printed (codes "true") refl) (All-nil HasAscii)

pub proto_ascii : (https : Bool) → Ascii (if https then codes "https" else codes "http")
proto_ascii true = of_printed (codes "https") refl
proto_ascii false = of_printed (codes "http") refl

pub heads_ascii : (q : Asked) → IsPlain q → All HasAscii (heads q)
heads_ascii q p =
    All-cons HasAscii (proto_head q.https) (internal_heads q.internal ++ q.headers) (proto_ascii q.https)
    (All-append HasAscii (internal_heads q.internal) q.headers (of_internal q.internal) (of_headers q.headers p.headers))

next : (b : Bool) (v : Bytes) (vs : List Bytes) → Ascii v → All Ascii vs → All Ascii (if b then v ∷ vs else vs)
next true v vs a all = All-cons Ascii v vs a all
next false v vs a all = all

pub values_ascii : (name : Bytes) (hs : List Head) → All HasAscii hs → All Ascii (values name hs)
values_ascii name [] a = All-nil Ascii
values_ascii name (h ∷ hs) a = next (bytes_eq h.0 name) h.1 (values name hs) (All-head HasAscii h hs a) (values_ascii name hs (All-tail HasAscii h hs a))
