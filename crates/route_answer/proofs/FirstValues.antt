-- The first value of a name among headers.
use Rattle.std.proofs.Common.{◌≡◌, Bool, true, false, List, [], ◌∷◌, refl}
use Rattle.std.specs.Prelude.{slice_get, bytes_eq, find, option_map}
use Rattle.text_base.specs.Asked.{Bytes, Head}
use Rattle.text_base.specs.Seen.{values}

-- it is the value of the first header of this name
pub first-find : (name : Bytes) (hs : List Head) → option_map (λ h. h.1) (find (λ h. bytes_eq h.0 name) hs) ≡ slice_get (values name hs) 0
first-find name [] = refl
first-find name (h ∷ hs) = by_name (bytes_eq h.0 name) refl (first-find name hs)
  where
    by_name : (v : Bool) → bytes_eq h.0 name ≡ v → option_map (λ x. x.1) (find (λ x. bytes_eq x.0 name) hs) ≡ slice_get (values name hs) 0 →
        option_map (λ x. x.1) (find (λ x. bytes_eq x.0 name) (h ∷ hs)) ≡ slice_get (values name (h ∷ hs)) 0
    by_name true e k = rw e refl
    by_name false e k = rw e k
