-- The last of five tests decides where the others hold.
use Rattle.std.proofs.Common.{◌≡◌, Bool, true, ◌&&◌, refl}

pub all_hold : (p h x g f : Bool) → p ≡ true → h ≡ true → x ≡ true → g ≡ true → f ≡ (p && h && x && g && f)
all_hold p h x g f a b c d = rw (a, b, c, d) refl
