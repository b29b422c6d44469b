-- Sums of weights.
use Rattle.std.proofs.Common.{◌≡◌, ℕ, ◌+◌, ◌≤◌, Bool, true, if◌then◌else◌, nat_le, List, length, drop, Some, None, refl, ap, arith}
use Rattle.std.proofs.Math.ListN.{drop_of_length-le}
use Rattle.std.proofs.lemmas.Bool.{le-leb}
use Rattle.cfg_types.specs.Shares.{weight_of}
use Rattle.cfg_types.specs.declared.actions.Share.{Share}

some_if : (b : Bool) (n m : ℕ) → b ≡ true → n ≡ m → Some n ≡ (if b then Some m else None)
some_if b n m e f = rw (e, f) refl

-- past the last share the sum is that of all weights
pub summed : (shares : List Share) (i sum : ℕ) → length shares ≤ i → sum + weight_of (drop i shares) ≡ weight_of shares → sum ≤ 4294967295 → Some sum ≡ (if nat_le (weight_of shares) 4294967295 then Some (weight_of shares) else None)
summed shares i sum past rest fits =
    let none : weight_of (drop i shares) ≡ 0 = ap weight_of (drop_of_length-le shares past) in
    let all : sum ≡ weight_of shares = omega arith in
    let small : weight_of shares ≤ 4294967295 = omega arith in
    some_if (nat_le (weight_of shares) 4294967295) sum (weight_of shares) (le-leb _ _ small) all
