-- How many hosts and routes the sample has, and how many routes come before a host.
use Rattle.std.proofs.Common.{◌≡◌, ℕ, zero, suc, ◌≤◌, ◌+◌, ◌*◌, length, map, take, refl, arith}
use Rattle.std.specs.Prelude.{flat_map}
use Rattle.std.specs.List.{range_with_len}
use Rattle.cfg_types.specs.Order.{host_routes}
use Rattle.sample_make.specs.Samples.{sample_host}

-- hosts a to a + n - 1 have five routes each
pub count_from : (a n : ℕ) → length (flat_map host_routes (map sample_host (range_with_len a n))) ≡ 5 * n
count_from a zero = refl
count_from a (suc n) = let e = count_from (a + 1) n in omega (arith, e)

-- the first h of them have five times h
pub before_from : (a n h : ℕ) → h ≤ n → length (flat_map host_routes (take h (map sample_host (range_with_len a n)))) ≡ 5 * h
before_from a n zero l = refl
before_from a zero (suc h) l = absurd (omega (arith, l))
before_from a (suc n) (suc h) l = let e = before_from (a + 1) n h (omega (arith, l)) in omega (arith, e)
