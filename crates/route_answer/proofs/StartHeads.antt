-- The headers that a request has from the start, as they are put into a map one after another.
use Rattle.std.proofs.Common.{◌≡◌, ◌≤◌, Bool, true, false, ◌&&◌, List, [], ◌∷◌, ◌++◌, length, append_assoc, refl, sym, ap, ◌∙◌}
use Rattle.std.specs.Prelude.{All, nat_le}
use Rattle.std.specs.List.{list_all}
use Rattle.std.proofs.lemmas.Bool.{and_parts, and_from, le-leb}
use Rattle.std.proofs.lemmas.List.Elements.{All-head, All-tail}
use Rattle.text_base.specs.Asked.{Bytes, Head, Asked}
use Rattle.text_base.specs.Requests.{is_authority, is_target, is_method, is_runtime, is_header, is_valid}
use Rattle.text_base.specs.Seen.{values}
use Rattle.text_base.specs.Heads.{proto_head, internal_heads, heads, SameHeads}
use Rattle.head_edit.specs.Maps.{is_map_head}
use Rattle.head_edit.proofs.MapKinds.{map_heads-from_headers}
use Rattle.head_edit.proofs.NameValues.{values-append}
use Rattle.cfg_types.specs.Conditions.{AreFewHeads}

pub proto_fits : (https : Bool) → is_map_head (proto_head https) ≡ true
proto_fits true = refl
proto_fits false = refl

abbrev IsShort : Head → Type 0
IsShort h = length h.0 ≤ 1024

are_short : (hs : List Head) → All IsShort hs → list_all (λ h. nat_le (length h.0) 1024) hs ≡ true
are_short [] a = refl
are_short (h ∷ hs) a =
    and_from (nat_le (length h.0) 1024) (list_all (λ x. nat_le (length x.0) 1024) hs) (le-leb (length h.0) 1024 (All-head IsShort h hs a)) (are_short hs (All-tail IsShort h hs a))

-- few headers by the rules of requests can be put into a map
pub heads_fit : (hs : List Head) → AreFewHeads hs → list_all is_header hs ≡ true → list_all is_map_head hs ≡ true
heads_fit hs few valid = map_heads-from_headers hs valid (are_short hs few.short)

pub valid_headers : (q : Asked) → is_valid q ≡ true → list_all is_header q.headers ≡ true
valid_headers q v =
    (and_parts (is_authority q.authority && is_target q.target && is_method q.method && is_runtime q.runtime) (list_all is_header q.headers) v).1

-- the proto, then the mark of an internal request, then the request's headers
pub same-start : (q : Asked) (one two three : List Head) → SameHeads one (proto_head q.https ∷ []) → SameHeads two (one ++ internal_heads q.internal) →
    SameHeads three (two ++ q.headers) → SameHeads three (heads q)
same-start q one two three s t u = λ n.
    let proto : List Bytes = values n (proto_head q.https ∷ []) in
    let mark : List Bytes = values n (internal_heads q.internal) in
    let own : List Bytes = values n q.headers in
    u n
    ∙ values-append n two q.headers
    ∙ ap (λ vs. vs ++ own) (t n ∙ values-append n one (internal_heads q.internal) ∙ ap (λ vs. vs ++ mark) (s n))
    ∙ append_assoc proto mark own
    ∙ sym (values-append n (proto_head q.https ∷ []) (internal_heads q.internal ++ q.headers) ∙ ap (λ vs. proto ++ vs) (values-append n (internal_heads q.internal) q.headers))
