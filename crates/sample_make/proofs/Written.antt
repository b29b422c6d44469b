-- The places of routes as they are written.
use Rattle.std.proofs.Common.{◌≡◌, ℕ, ◌∷◌, ◌++◌, sym, ap, append_assoc}
use Rattle.std.specs.Prelude.{codes, decimal}
use Rattle.sample_make.specs.Samples.{sample_place}

pub written : (i k : ℕ) → codes "/virtual_hosts/" ++ (decimal i ++ (codes "/routes/" ++ decimal k)) ≡ sample_place i k
written i k = ap (λ r. codes "/virtual_hosts/" ++ r) (sym (append_assoc (decimal i) (codes "/routes") (47 ∷ decimal k)))
