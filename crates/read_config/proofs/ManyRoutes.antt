-- The routes of one host are among those of all hosts, so that they alone may be too many.
use Rattle.std.proofs.Common.{◌≡◌, ◌≤◌, ◌<◌, ◌+◌, ◌^◌, ℕ, zero, suc, false, List, [], ◌∷◌, length, get_or, drop, ap, arith, length-append, nat_le}
use Rattle.std.proofs.lemmas.Bool.Decides.{nat_tests}
use Rattle.cfg_types.specs.Order.{host_routes, routes_of_hosts}
use Rattle.cfg_types.specs.declared.configs.Host.{Host}

pub host_within : (hs : List Host) (i : ℕ) (h : Host) → i < length hs → h ≡ get_or hs i h → length (host_routes h) ≤ length (routes_of_hosts (drop i hs))
host_within [] i h l e = absurd (omega arith)
host_within (x ∷ hs) zero h l e =
    let s = length-append (host_routes x) (routes_of_hosts hs) in
    let m = ap (λ y. length (host_routes y)) e in
    omega (arith, s, m)
host_within (x ∷ hs) (suc i) h l e = host_within hs i h (omega arith) e

pub too_many : (all left rest many : ℕ) → all + left ≡ 10000 + rest → many ≤ rest → 4294967295 < many → left < 2 ^ 32 → false ≡ nat_le all 10000
too_many all left rest many e within past fits =
    let l : 10000 < all = omega arith in
    grind (arith, nat_tests, l)
