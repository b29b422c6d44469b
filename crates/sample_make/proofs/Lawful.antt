-- The sample is lawful.
use Rattle.std.proofs.Common.{◌≡◌, ◌≢◌, ℕ, zero, suc, ◌≤◌, ◌+◌, ◌++◌, List, [], ◌∷◌, length, map, refl, sym, ap, subst, ◌∙◌, arith}
use Rattle.std.specs.Prelude.{All, AllPairs, Contains, decimal, flat_map, codes}
use Rattle.std.specs.List.{AllZip, range_with_len, enumerate_from}
use Rattle.std.proofs.lemmas.List.Elements.{All-nil, All-cons}
use Rattle.std.proofs.lemmas.List.{append_cancel_left, append_cancel_right}
use Rattle.std.proofs.lemmas.List.FromFn.{length-map-range_with_len, get_or-map-range_with_len}
use Rattle.std.proofs.lemmas.Fmt.{decimal_injective}
use Rattle.sample_make.proofs.Counts.{count_from}
use Rattle.sample_make.proofs.Texts.{number_text, domain_text}
use Rattle.cfg_types.specs.Order.{host_routes}
use Rattle.cfg_types.specs.Places.{element, body_places}
use Rattle.cfg_types.specs.Lawful.{IsLawful, IsLawfulHost, IsLawfulRoute, IsLawfulPath, IsLawfulHeader, IsLawfulPair, IsLawfulDomain}
use Rattle.cfg_types.specs.declared.rules.PathRule.{PathRule}
use Rattle.cfg_types.specs.declared.rules.HeaderRule.{HeaderRule}
use Rattle.cfg_types.specs.declared.rules.PathRule.TheVariants as path
use Rattle.cfg_types.specs.declared.configs.Domain.{Domain}
use Rattle.cfg_types.specs.declared.configs.Domain.TheVariants as domain
use Rattle.text_base.specs.Asked.{Bytes}
use Rattle.sample_make.specs.Samples.{without_edits, sample_place, sample_route, sample_rule, sample_domain, sample_host, made}

one : {A : Type 0} (P : A → Type 0) (x : A) → P x → All P (x ∷ [])
one P x h = All-cons P x [] h (All-nil P)

five : {A : Type 0} (P : A → Type 0) (a b c d e : A) → P a → P b → P c → P d → P e → All P (a ∷ b ∷ c ∷ d ∷ e ∷ [])
five P a b c d e p q r s t =
    All-cons P a (b ∷ c ∷ d ∷ e ∷ []) p (All-cons P b (c ∷ d ∷ e ∷ []) q (All-cons P c (d ∷ e ∷ []) r (All-cons P d (e ∷ []) s (one P e t))))

edits : IsLawfulPair without_edits
edits = record {
  request = record { few_removed = omega arith; few_added = omega arith; removed = All-nil _; added = All-nil _ };
  response = record { few_removed = omega arith; few_added = omega arith; removed = All-nil _; added = All-nil _ };
}

route : (i k : ℕ) (path : PathRule) (headers : List HeaderRule) → IsLawfulPath path → All IsLawfulHeader headers → IsLawfulRoute (sample_route i k path headers)
route i k path headers p h = record {
  rule = record { path = p; headers = h; queries = All-nil _; fraction = tt };
  act = record { to = λ e. cc; prefix_rewrite = refl; host = tt };
  edits = edits;
}

itself : (p : Bytes) → Contains (p ∷ []) p
itself p = (0, omega arith, refl)

pub places_from : (a n : ℕ) →
    AllZip (λ r ps. Contains ps r.place) (flat_map host_routes (map sample_host (range_with_len a n)))
    (flat_map (λ h. body_places h.1.body (element (codes "/virtual_hosts") h.0)) (enumerate_from a (map sample_host (range_with_len a n))))
places_from a zero = tt
places_from a (suc n) = (itself (sample_place a 0), (itself (sample_place a 1), (itself (sample_place a 2), (itself (sample_place a 3), (itself (sample_place a 4), places_from (a + 1) n)))))

header : (i : ℕ) → i ≤ 2000 → IsLawfulHeader (sample_rule i)
header i l = record { name = refl; form = number_text i l }

host : (i : ℕ) → i ≤ 2000 → IsLawfulHost (sample_host i)
host i l = record {
  name = λ e. cc;
  some_domain = λ e. cc;
  domains = one IsLawfulDomain (sample_domain i) (domain_text i l);
  body = record {
    routes = five IsLawfulRoute (sample_route i 0 (path.Prefix (codes "/a")) []) (sample_route i 1 (path.Exact (codes "/a/x")) [])
        (sample_route i 2 (path.Prefix (codes "/")) (sample_rule i ∷ [])) (sample_route i 3 (path.Separated (codes "/s")) []) (sample_route i 4 (path.Prefix (codes "/")) [])
        (route i 0 (path.Prefix (codes "/a")) [] refl (All-nil _)) (route i 1 (path.Exact (codes "/a/x")) [] refl (All-nil _))
        (route i 2 (path.Prefix (codes "/")) (sample_rule i ∷ []) refl (one IsLawfulHeader (sample_rule i) (header i l)))
        (route i 3 (path.Separated (codes "/s")) [] refl (All-nil _)) (route i 4 (path.Prefix (codes "/")) [] refl (All-nil _));
    few_routes = omega arith;
  };
  clusters = All-nil _;
  edits = edits;
}

hosts_from : (a n : ℕ) → a + n ≤ 2000 → All IsLawfulHost (map sample_host (range_with_len a n))
hosts_from a zero l = All-nil _
hosts_from a (suc n) l = All-cons IsLawfulHost (sample_host a) (map sample_host (range_with_len (a + 1) n)) (host a (omega (arith, l))) (hosts_from (a + 1) n (omega (arith, l)))

domains_from : (a n : ℕ) → flat_map (λ h. h.domains) (map sample_host (range_with_len a n)) ≡ map sample_domain (range_with_len a n)
domains_from a zero = refl
domains_from a (suc n) = ap (λ ds. sample_domain a ∷ ds) (domains_from (a + 1) n)

abbrev text_of : Domain → Bytes
text_of (domain.Exact w) = w
text_of (domain.Suffix w) = w
text_of (domain.Prefix w) = w
text_of domain.Any = []

domain_injective : (i j : ℕ) → i ≤ 2000 → j ≤ 2000 → sample_domain i ≡ sample_domain j → i ≡ j
domain_injective i j l m e =
    decimal_injective i j (omega (arith, l)) (omega (arith, m))
    (append_cancel_right (decimal i) (decimal j) (codes ".test") (append_cancel_left (codes "h") (decimal i ++ codes ".test") (decimal j ++ codes ".test") (ap text_of e)))

apart_from : (n : ℕ) → n ≤ 2000 → AllPairs (λ d e. d ≢ e) (map sample_domain (range_with_len 0 n))
apart_from n l i j d b h =
    let k = length-map-range_with_len sample_domain 0 n in
    λ e. let same = domain_injective i j (omega (arith, l, b, h, k)) (omega (arith, l, b, h, k))
    (sym (get_or-map-range_with_len sample_domain 0 n i i d (omega (arith, b, h, k)) (omega arith)) ∙ e
    ∙ get_or-map-range_with_len sample_domain 0 n j j d (omega (arith, h, k)) (omega arith)) in absurd (omega (arith, b, same))

pub lawful : (n : ℕ) → n ≤ 2000 → IsLawful (made n)
lawful n l = record {
  hosts = hosts_from 0 n (omega (arith, l));
  edits = edits;
  few_routes = let e = count_from 0 n in omega (arith, e, l);
  few_domains = let e = ap length (domains_from 0 n) in let k = length-map-range_with_len sample_domain 0 n in omega (arith, e, k, l);
  apart = subst (AllPairs (λ d e. d ≢ e)) (sym (domains_from 0 n)) (apart_from n l);
  places = places_from 0 n;
  parameters = refl;
}
