-- A request is valid exactly where it has no bad part.
use Rattle.std.proofs.Common.{◌≡◌, ◌↔◌, ℕ, suc, ◌+◌, Bool, true, false, not, ◌&&◌, cond, if◌then◌else◌, List, [], ◌∷◌, length, Some, None, refl, ◌∙◌, arith}
use Rattle.std.specs.Prelude.{option_map, nat_lt}
use Rattle.std.specs.List.{list_all, position_or_len}
use Rattle.std.proofs.lemmas.Bool.Decides.{nat_tests}
use Rattle.text_base.specs.Asked.{Head}
use Rattle.text_base.specs.Requests.{is_authority, is_target, is_method, is_runtime, is_header, ValidLaw}
use Rattle.text_base.specs.declared.request.BadRequest.TheVariants as bad

abbrev is_bad : Head → Bool
is_bad h = not (is_header h)

one-further : (a b : ℕ) → nat_lt (1 + a) (suc b) ≡ nat_lt a b
one-further a b = grind (arith, nat_tests)

some_more : (n : ℕ) → nat_lt 0 (suc n) ≡ true
some_more n = grind (arith, nat_tests)

-- some header is bad exactly where not all are headers
some-step : (h : Head) (hs : List Head) (v : Bool) → is_header h ≡ v →
    nat_lt (position_or_len is_bad hs) (length hs) ≡ not (list_all is_header hs) →
    nat_lt (position_or_len is_bad (h ∷ hs)) (length (h ∷ hs)) ≡ not (list_all is_header (h ∷ hs))
some-step h hs true e w = rw e (one-further (position_or_len is_bad hs) (length hs) ∙ w)
some-step h hs false e w = rw e (some_more (length hs))

some_bad : (hs : List Head) → nat_lt (position_or_len is_bad hs) (length hs) ≡ not (list_all is_header hs)
some_bad [] = refl
some_bad (h ∷ hs) = some-step h hs (is_header h) refl (some_bad hs)

-- the first bad part by whether each part is good
by-parts : (a t m r h : Bool) (n : ℕ) →
    ((if not a then Some bad.Authority else if not t then Some bad.Target else if not m then Some bad.Method else if not r then Some bad.Runtime
    else option_map bad.Header (cond (not h) (Some n) None)) ≡ None) ↔ ((a && t && m && r && h) ≡ true)
by-parts false t m r h n = ((λ k. absurd (cc)), (λ k. absurd (cc)))
by-parts true false m r h n = ((λ k. absurd (cc)), (λ k. absurd (cc)))
by-parts true true false r h n = ((λ k. absurd (cc)), (λ k. absurd (cc)))
by-parts true true true false h n = ((λ k. absurd (cc)), (λ k. absurd (cc)))
by-parts true true true true false n = ((λ k. absurd (cc)), (λ k. absurd (cc)))
by-parts true true true true true n = ((λ k. refl), (λ k. refl))

pub valid_without_bad_part : ValidLaw
valid_without_bad_part q =
    rw (some_bad q.headers) (by-parts (is_authority q.authority) (is_target q.target) (is_method q.method) (is_runtime q.runtime) (list_all is_header q.headers) (position_or_len is_bad q.headers))
