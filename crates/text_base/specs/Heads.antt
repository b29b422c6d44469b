-- The headers that a request has from the start, and when two lists of headers count as equal.
use Rattle.std.specs.Prelude.{◌≡◌, Bool, true, false, if◌then◌else◌, List, [], ◌∷◌, ◌++◌, codes}
use Rattle.text_base.specs.Asked.{Bytes, Head, Asked}
use Rattle.text_base.specs.Seen.{values}

-- the header that tells the proto
abbrev pub proto_head : Bool → Head
proto_head https = (codes "x-forwarded-proto", (if https then codes "https" else codes "http"))

-- the header of an internal request
abbrev pub internal_heads : Bool → List Head
internal_heads false = []
internal_heads true = (codes "x-envoy-internal", codes "true") ∷ []

-- the proto, then the mark of an internal request, then the request's headers
abbrev pub heads : Asked → List Head
heads q = proto_head q.https ∷ (internal_heads q.internal ++ q.headers)

-- each name has the same values in the same order; the order between names isn't said
abbrev pub SameHeads : List Head → List Head → Type 0
SameHeads a b = (name : Bytes) → values name a ≡ values name b
