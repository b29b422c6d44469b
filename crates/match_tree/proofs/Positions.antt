-- The first place that passes a test, step by step.
use Rattle.std.proofs.Common.{◌≡◌, ◌+◌, ◌<◌, ℕ, Bool, true, false, List, length, drop, get_or, arith}
use Rattle.std.specs.List.{position_or_len}
use Rattle.text_base.proofs.Rest.{drop_at}

pub position_here : {A : Type 0} (p : A → Bool) (xs : List A) (i : ℕ) (x : A) → i < length xs → x ≡ get_or xs i x → p x ≡ true → i + position_or_len p (drop i xs) ≡ i
position_here p xs i x lt e h = rw (drop_at xs i x lt e, h) (omega arith)

pub position_later : {A : Type 0} (p : A → Bool) (xs : List A) (i : ℕ) (x : A) → i < length xs → x ≡ get_or xs i x → p x ≡ false →
    i + position_or_len p (drop i xs) ≡ i + 1 + position_or_len p (drop (i + 1) xs)
position_later p xs i x lt e h = rw (drop_at xs i x lt e, h) (omega arith)
