-- Comparisons of texts in lower case, part by part.
use Rattle.std.proofs.Common.{◌≡◌, ℕ, ◌-◌, Bool, true, false, [], ◌∷◌, length, take, drop, refl, sym, ap, ◌∙◌}
use Rattle.std.specs.Prelude.{bytes_eq}
use Rattle.std.specs.Char.{to_ascii_lowercase}
use Rattle.std.proofs.lemmas.Bool.Decides.{same_from_decides}
use Rattle.std.proofs.lemmas.List.{take-map, length-map}
use Rattle.std.specs.List.{drop-map}
use Rattle.std.proofs.lemmas.Slice.Eq.{bytes_eq-Decides}
use Rattle.text_base.specs.Asked.{Bytes}
use Rattle.text_base.specs.Forms.{folded, begins, ends, occurs}

bytes_eq-comm : (a b : Bytes) → bytes_eq a b ≡ bytes_eq b a
bytes_eq-comm a b =
    same_from_decides {P = a ≡ b} (bytes_eq a b) (bytes_eq b a) (bytes_eq-Decides a b)
    (λ e. sym ((bytes_eq-Decides b a).0 e), λ e. (bytes_eq-Decides b a).1 (sym e))

length-folded : (f : Bool) (t : Bytes) → length (folded f t) ≡ length t
length-folded true t = length-map t to_ascii_lowercase
length-folded false t = refl

take-folded : (f : Bool) (n : ℕ) (t : Bytes) → take n (folded f t) ≡ folded f (take n t)
take-folded true n t = take-map to_ascii_lowercase n t
take-folded false n t = refl

drop-folded : (f : Bool) (n : ℕ) (t : Bytes) → drop n (folded f t) ≡ folded f (drop n t)
drop-folded true n t = drop-map to_ascii_lowercase n t
drop-folded false n t = refl

-- the front of a text that is long enough
pub begins-front : (f : Bool) (t v front : Bytes) → front ≡ take (length v) t → bytes_eq (folded f front) (folded f v) ≡ begins (folded f t) (folded f v)
begins-front f t v front e =
    bytes_eq-comm (folded f front) (folded f v)
    ∙ ap (λ x. bytes_eq (folded f v) x) (ap (folded f) e ∙ sym (take-folded f (length v) t) ∙ ap (λ n. take n (folded f t)) (sym (length-folded f v)))

pub ends-end : (f : Bool) (t v end : Bytes) → end ≡ drop (length t - length v) t → bytes_eq (folded f end) (folded f v) ≡ ends (folded f t) (folded f v)
ends-end f t v end e =
    bytes_eq-comm (folded f end) (folded f v)
    ∙ ap (λ x. bytes_eq (folded f v) x)
    (ap (folded f) e ∙ sym (drop-folded f (length t - length v) t)
    ∙ ap (λ n. drop (n - length v) (folded f t)) (sym (length-folded f t))
    ∙ ap (λ n. drop (length (folded f t) - n) (folded f t)) (sym (length-folded f v)))

-- what stands in front stands somewhere
pub occurs-here : (t v : Bytes) → begins t v ≡ true → occurs t v ≡ true
occurs-here [] v e = e
occurs-here (b ∷ t) v e = rw e refl
