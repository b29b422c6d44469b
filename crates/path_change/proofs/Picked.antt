-- The share that a random value picks, by where a walk over the shares ends.
use Rattle.std.proofs.Common.{◌≡◌, ℕ, ◌+◌, ◌%◌, ◌<◌, ◌≤◌, Bool, true, false, ◌&&◌, List, length, Some, None, refl, ap, subst, sym, ◌∙◌, arith, get_or}
use Rattle.std.specs.Prelude.{nat_le, nat_lt}
use Rattle.std.proofs.lemmas.Bool.{and_from, le-leb, lt-ltb, le-ltb}
use Rattle.std.proofs.lemmas.List.Sums.{sum_by-take-le, sum_by_more}
use Rattle.cfg_types.specs.ChoiceLaws.{IsFirstAccepted}
use Rattle.cfg_types.specs.Shares.{weight_of, weight_before, falls_to, picked_share}
use Rattle.cfg_types.specs.declared.actions.Share.{Share}
use Rattle.cfg_types.proofs.Ranges.{found, nothing}
use Rattle.cfg_types.proofs.Picks.{one_is_picked}

abbrev weight : Share → ℕ
weight s = s.weight

and-false : (b : Bool) → (b && false) ≡ false
and-false true = refl
and-false false = refl

-- the weights through one more share
pub weight_more : (xs : List Share) (i : ℕ) (s : Share) → i < length xs → s ≡ get_or xs i s → weight_before xs (i + 1) ≡ weight_before xs i + s.weight
weight_more xs i s l e = sum_by_more weight xs i s l ∙ ap (λ y. weight_before xs i + weight y) (sym e)

-- a number that the weights through a share don't pass doesn't fall to it
pub falls_later : (xs : List Share) (v k : ℕ) → weight_before xs (k + 1) ≤ v → falls_to xs v k ≡ false
falls_later xs v k h =
    let e : nat_lt v (weight_before xs (k + 1)) ≡ false = le-ltb _ _ h in
    rw e (and-false (nat_le (weight_before xs k) v))

-- where there is no weight nothing is picked
pub no_weight : (xs : List Share) (random : ℕ) → weight_of xs ≤ 0 → picked_share xs random ≡ None
no_weight xs random z =
    nothing (falls_to xs (random % weight_of xs)) 0 (length xs)
    (λ k a b. falls_later xs (random % weight_of xs) k (omega (arith, sum_by-take-le weight xs (k + 1))))

-- a walk that ends at share i
pub ends_at : (xs : List Share) (random v i : ℕ) → v ≡ random % weight_of xs → i < length xs → ((k : ℕ) → k < i → falls_to xs v k ≡ false) →
    weight_before xs i ≤ v → v < weight_before xs (i + 1) → picked_share xs random ≡ Some i
ends_at xs random v i e l earlier b t =
    subst (λ w. IsFirstAccepted (falls_to xs w) 0 (length xs) i → picked_share xs random ≡ Some i) (sym e)
    (found (falls_to xs (random % weight_of xs)) 0 (length xs) i)
    record {
      from = omega arith;
      below = omega arith;
      holds = and_from (nat_le (weight_before xs i) v) (nat_lt v (weight_before xs (i + 1))) (le-leb _ _ b) (lt-ltb _ _ t);
      earlier = λ k a m. earlier k m;
    }

-- where there is some weight a share is picked
pub some_picked : (xs : List Share) (random : ℕ) → 0 < weight_of xs → picked_share xs random ≡ None → ⊥
some_picked xs random some e = let p = one_is_picked xs random some in let q = p.3 in absurd (cc)
