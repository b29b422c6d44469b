-- The first value of a name among headers.
use Rattle.std.proofs.Common.{◌≡◌, Bool, true, false, List, [], ◌∷◌, ◌++◌, Option, ◌&&◌, refl, sym, ap, subst, ◌∙◌}
use Rattle.std.specs.Prelude.{codes, slice_get, bytes_eq, find, option_map}
use Rattle.text_base.specs.Asked.{Bytes, Head, Asked}
use Rattle.text_base.specs.Heads.{internal_heads, heads}
use Rattle.text_base.specs.Seen.{values}

-- it is the value of the first header of this name
pub first-find : (name : Bytes) (hs : List Head) → slice_get (values name hs) 0 ≡ option_map (λ h. h.1) (find (λ h. bytes_eq h.0 name) hs)
first-find name [] = refl
first-find name (h ∷ hs) = by_name (bytes_eq h.0 name) refl (first-find name hs)
  where
    by_name : (v : Bool) → bytes_eq h.0 name ≡ v → slice_get (values name hs) 0 ≡ option_map (λ x. x.1) (find (λ x. bytes_eq x.0 name) hs) →
        slice_get (values name (h ∷ hs)) 0 ≡ option_map (λ x. x.1) (find (λ x. bytes_eq x.0 name) (h ∷ hs))
    by_name true e k = rw e refl
    by_name false e k = rw e k

-- without the mark of an internal request
unmarked : (name : Bytes) (internal : Bool) (hs : List Head) → (internal && bytes_eq (codes "x-envoy-internal") name) ≡ false → values name (internal_heads internal ++ hs) ≡ values name hs
unmarked name false hs e = refl
unmarked name true hs e = rw e refl

-- neither the proto nor the mark of an internal request has the name: it is the first of the request's own headers
pub own-header : (q : Asked) (name p : Bytes) (found : Option Head) (mark : Bool) → p ≡ codes "x-forwarded-proto" → bytes_eq p name ≡ false →
    mark ≡ (q.internal && bytes_eq (codes "x-envoy-internal") name) → mark ≡ false → found ≡ find (λ h. bytes_eq h.0 name) q.headers →
    option_map (λ h. h.1) found ≡ slice_get (values name (heads q)) 0
own-header q name p found mark is other m unset f =
    let first : bytes_eq (codes "x-forwarded-proto") name ≡ false = subst (λ t. bytes_eq t name ≡ false) is other in
    let rest : values name (internal_heads q.internal ++ q.headers) ≡ values name q.headers = unmarked name q.internal q.headers (sym m ∙ unset) in
    let whole : values name (heads q) ≡ values name (internal_heads q.internal ++ q.headers) = rw first refl in
    ap (option_map (λ (h : Head). h.1)) f ∙ sym (first-find name q.headers) ∙ ap (λ vs. slice_get vs 0) (sym (whole ∙ rest))
