-- The first values of headers are text, since the bytes of valid requests are those of ASCII.
use Rattle.std.proofs.Common.{◌≡◌, ℕ, zero, suc, ◌<◌, Bool, true, false, ◌&&◌, if◌then◌else◌, List, [], ◌∷◌, ◌++◌, Option, Some, get_or, refl, sym, subst, arith}
use Rattle.std.specs.Prelude.{◌==◌, codes, slice_get, bytes_eq}
use Rattle.std.specs.List.{list_all}
use Rattle.std.specs.Str.{IsUtf8}
use Rattle.std.proofs.lemmas.Bool.{and_parts}
use Rattle.std.proofs.lemmas.Bool.Decides.{nat_tests}
use Rattle.std.proofs.lemmas.Str.{IsUtf8-from_ascii}
use Rattle.text_base.specs.Asked.{Bytes, Head, Asked}
use Rattle.text_base.specs.Alphabets.{is_authority_byte, is_token_byte, is_target_byte, is_printed}
use Rattle.text_base.specs.Requests.{some_of, is_authority, is_target, is_method, is_runtime, is_header, is_header_name, is_header_value, is_valid}
use Rattle.text_base.specs.Heads.{proto_head, internal_heads, heads}
use Rattle.text_base.specs.Seen.{values}
use Rattle.cfg_types.specs.Answers.{first_value}

-- ---- bytes

authority-small : (b : ℕ) → is_authority_byte b ≡ true → b < 128
authority-small b e = grind (arith, nat_tests)

target-small : (b : ℕ) → is_target_byte b ≡ true → b < 128
target-small b e = grind (arith, nat_tests)

token-small : (b : ℕ) → is_token_byte b ≡ true → b < 128
token-small b e = grind (arith, nat_tests)

printed-small : (b : ℕ) → is_printed b ≡ true → b < 128
printed-small b e = grind (arith, nat_tests)

module _ (p : ℕ → Bool) (small : (b : ℕ) → p b ≡ true → b < 128) where
  all-small : (t : Bytes) → list_all p t ≡ true → (i : ℕ) → get_or t i 0 < 128
  all-small [] e i = omega arith
  all-small (b ∷ t) e zero = small b (and_parts (p b) (list_all p t) e).0
  all-small (b ∷ t) e (suc i) = all-small t (and_parts (p b) (list_all p t) e).1 i

  some-small : (t : Bytes) → some_of p t ≡ true → (i : ℕ) → get_or t i 0 < 128
  some-small [] e i = omega arith
  some-small (b ∷ t) e i = all-small (b ∷ t) e i

slash-small : (b : ℕ) → (b == 47) ≡ true → b < 128
slash-small b e = grind (arith, nat_tests)

target-text : (t : Bytes) → is_target t ≡ true → (i : ℕ) → get_or t i 0 < 128
target-text [] e i = omega arith
target-text (b ∷ t) e zero = slash-small b (and_parts (b == 47) (list_all is_target_byte t) e).0
target-text (b ∷ t) e (suc i) = all-small is_target_byte target-small t (and_parts (b == 47) (list_all is_target_byte t) e).1 i

-- ---- values

abbrev Small : Bytes → Type 0
Small v = (i : ℕ) → get_or v i 0 < 128

abbrev IsSmallFirst : List Bytes → Type 0
IsSmallFirst [] = Unit {0}
IsSmallFirst (v ∷ vs) = Small v

-- one more header in front
next-small : (name : Bytes) (h : Head) (hs : List Head) → Small h.1 → IsSmallFirst (values name hs) → IsSmallFirst (values name (h ∷ hs))
next-small name h hs s k = by_name (bytes_eq h.0 name)
  where
    by_name : (v : Bool) → IsSmallFirst (if v then h.1 ∷ values name hs else values name hs)
    by_name true = s
    by_name false = k

headers-small : (name : Bytes) (hs : List Head) → list_all is_header hs ≡ true → IsSmallFirst (values name hs)
headers-small name [] e = tt
headers-small name (h ∷ hs) e =
    let whole = and_parts (is_header h) (list_all is_header hs) e in
    let value = (and_parts (is_header_name h.0) (is_header_value h.1) whole.0).1 in
    let printed = (and_parts (list_all is_printed h.1) _ (and_parts (list_all is_printed h.1 && _) _ value).0).0 in
    next-small name h hs (all-small is_printed printed-small h.1 printed) (headers-small name hs whole.1)

internal-small : (name : Bytes) (internal : Bool) (hs : List Head) → list_all is_header hs ≡ true → IsSmallFirst (values name (internal_heads internal ++ hs))
internal-small name false hs e = headers-small name hs e
internal-small name true hs e =
    next-small name (codes "x-envoy-internal", codes "true") hs (all-small is_printed printed-small (codes "true") refl) (headers-small name hs e)

heads-small : (q : Asked) (name : Bytes) → list_all is_header q.headers ≡ true → IsSmallFirst (values name (heads q))
heads-small q name e = next-small name (proto_head q.https) (internal_heads q.internal ++ q.headers) (by_proto q.https) (internal-small name q.internal q.headers e)
  where
    by_proto : (https : Bool) → Small (if https then codes "https" else codes "http")
    by_proto true = all-small is_printed printed-small (codes "https") refl
    by_proto false = all-small is_printed printed-small (codes "http") refl

first-small : (vs : List Bytes) (v : Bytes) → IsSmallFirst vs → slice_get vs 0 ≡ Some v → Small v
first-small [] v s e = absurd (cc)
first-small (w ∷ ws) v s e = let same : w ≡ v = cc in subst Small same s

some-is : (w v : Bytes) → Small w → Some w ≡ Some v → Small v
some-is w v s e = let same : w ≡ v = cc in subst Small same s

by-parts : (a b c : Bool) (x y z v : Bytes) (rest : Option Bytes) → Small x → Small y → Small z → (rest ≡ Some v → Small v) →
    (if a then Some x else if b then Some y else if c then Some z else rest) ≡ Some v → Small v
by-parts true b c x y z v rest sx sy sz sr e = some-is x v sx e
by-parts false true c x y z v rest sx sy sz sr e = some-is y v sy e
by-parts false false true x y z v rest sx sy sz sr e = some-is z v sz e
by-parts false false false x y z v rest sx sy sz sr e = sr e

-- the first value of a name is text
pub value_is_text : (q : Asked) (name v : Bytes) → is_valid q ≡ true → Some v ≡ first_value q (heads q) name → IsUtf8 v
value_is_text q name v e f =
    let h = and_parts (is_authority q.authority && is_target q.target && is_method q.method && is_runtime q.runtime) (list_all is_header q.headers) e in
    let r = and_parts (is_authority q.authority && is_target q.target && is_method q.method) (is_runtime q.runtime) h.0 in
    let m = and_parts (is_authority q.authority && is_target q.target) (is_method q.method) r.0 in
    let t = and_parts (is_authority q.authority) (is_target q.target) m.0 in
    IsUtf8-from_ascii v
    (by-parts (bytes_eq name (codes ":authority")) (bytes_eq name (codes ":path")) (bytes_eq name (codes ":method")) q.authority q.target q.method v (slice_get (values name (heads q)) 0)
    (some-small is_authority_byte authority-small q.authority t.0) (target-text q.target t.1) (some-small is_token_byte token-small q.method m.1)
    (first-small (values name (heads q)) v (heads-small q name h.1)) (sym f))
