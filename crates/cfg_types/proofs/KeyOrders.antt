-- Byte order is what the comparison of texts says.
use Rattle.std.proofs.Common.{◌≡◌, ◌∙◌, Bool, true, false, ◌&&◌, ◌||◌, ◌==◌, [], ◌∷◌, refl, ap, cond}
use Rattle.std.specs.Prelude.{nat_lt}
use Rattle.std.specs.Cmp.Lexicographic.{slice_cmp}
use Rattle.std.specs.Ordering.{is_lt, nat_cmp, ordering_then}
use Rattle.std.specs.declared.cmp.Ordering.{Ordering}
use Rattle.std.specs.declared.cmp.Ordering.TheVariants.{Less, Equal, Greater}
use Rattle.text_base.specs.Asked.{Bytes}
use Rattle.cfg_types.specs.Kinds.{byte_order}

first_decides : (l e : Bool) (o : Ordering) → is_lt (ordering_then (cond l Less (cond e Equal Greater)) o) ≡ (l || (e && is_lt o))
first_decides true e o = refl
first_decides false true o = refl
first_decides false false o = refl

pub byte_order-is : (a b : Bytes) → is_lt (slice_cmp nat_cmp a b) ≡ byte_order a b
byte_order-is [] [] = refl
byte_order-is [] (y ∷ b) = refl
byte_order-is (x ∷ a) [] = refl
byte_order-is (x ∷ a) (y ∷ b) = first_decides (nat_lt x y) (x == y) (slice_cmp nat_cmp a b) ∙ ap (λ r. nat_lt x y || (x == y && r)) (byte_order-is a b)
