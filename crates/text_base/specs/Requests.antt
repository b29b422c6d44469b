-- Which parts make a valid request.
use Rattle.std.specs.Prelude.{ℕ, Bool, false, not, ◌&&◌, ◌==◌, if◌then◌else◌, List, [], ◌∷◌, Option, Some, option_map, position, codes, bytes_eq, nat_eq, ◌≡◌, ◌↔◌, true, None}
use Rattle.std.specs.List.{list_all, list_any, starts_with, ends_with}
use Rattle.text_base.specs.Asked.{Bytes, Head, Asked}
use Rattle.text_base.specs.declared.request.BadRequest.{BadRequest}
use Rattle.text_base.specs.declared.request.BadRequest.TheVariants as bad
use Rattle.text_base.specs.Alphabets.{is_authority_byte, is_token_byte, is_target_byte, is_printed, is_capital}

-- one or more bytes of an alphabet
abbrev pub some_of : (ℕ → Bool) → Bytes → Bool
some_of p [] = false
some_of p (b ∷ t) = list_all p (b ∷ t)

abbrev pub is_authority : Bytes → Bool
is_authority t = some_of is_authority_byte t

-- a slash, then visible bytes without #
abbrev pub is_target : Bytes → Bool
is_target [] = false
is_target (b ∷ t) = b == 47 && list_all is_target_byte t

abbrev pub is_method : Bytes → Bool
is_method t = some_of is_token_byte t

abbrev pub is_runtime : Bytes → Bool
is_runtime t = list_all is_printed t

-- names that stand for parts of a request and are no headers of it
abbrev pub reserved_names : List Bytes
reserved_names = codes "host" ∷ codes "x-forwarded-proto" ∷ codes "x-envoy-internal" ∷ []

-- a token in lower case, and none of the reserved names
abbrev pub is_header_name : Bytes → Bool
is_header_name n = some_of (λ b. is_token_byte b && not (is_capital b)) n && not (list_any (bytes_eq n) reserved_names)

-- printed bytes without a space at either end, or none
abbrev pub is_header_value : Bytes → Bool
is_header_value v = list_all is_printed v && not (starts_with nat_eq v (32 ∷ [])) && not (ends_with nat_eq v (32 ∷ []))

abbrev pub is_header : Head → Bool
is_header h = is_header_name h.0 && is_header_value h.1

abbrev pub is_valid : Asked → Bool
is_valid q = is_authority q.authority && is_target q.target && is_method q.method && is_runtime q.runtime && list_all is_header q.headers

-- the first part that breaks its rules, in the order authority, target, method, runtime, headers
abbrev pub first_bad_part : Asked → Option BadRequest
first_bad_part q =
    if not (is_authority q.authority) then Some bad.Authority
    else if not (is_target q.target) then Some bad.Target
    else if not (is_method q.method) then Some bad.Method
    else if not (is_runtime q.runtime) then Some bad.Runtime
    else option_map bad.Header (position (λ h. not (is_header h)) q.headers)

-- a request is valid exactly where it has no bad part
abbrev pub ValidLaw : Type 0
ValidLaw = (q : Asked) → (first_bad_part q ≡ None) ↔ (is_valid q ≡ true)
