-- A route has one guard, on one host.
use Rattle.std.proofs.Common.{◌≡◌, ℕ, zero, suc, ◌+◌, ◌<◌, ◌≤◌, inl, inr, List, [], ◌∷◌, ◌++◌, length, length-append, Option, None, Some, slice_get, take, refl, sym, ap, ap₂, subst, ◌∙◌, arith}
use Rattle.std.proofs.lemmas.Bool.{cases_lt}
use Rattle.rx_term.specs.Language.{Has}
use Rattle.goal_form.specs.declared.sight.Condition.{Condition}
use Rattle.cfg_types.specs.Choices.{routes_before}
use Rattle.cfg_types.specs.Order.{host_routes, body_routes, routes_of_hosts}
use Rattle.cfg_types.specs.declared.configs.Config.{Config}
use Rattle.cfg_types.specs.declared.configs.Host.{Host}
use Rattle.match_tree.specs.Guards.{Guard}
use Rattle.match_tree.specs.GuardLaws.{guarded_routes}
use Rattle.goal_build.specs.Guards.{rule_at, guards}
use Rattle.goal_build.specs.Goals.{IsGuarded}
use Rattle.goal_build.proofs.Choosing.{in_row, cut_row, guarded_in}
use Rattle.goal_build.proofs.SentLaws.{body_numbers}

-- ---- one host

before_grows : (hs : List Host) (g h : ℕ) (x : Host) → slice_get hs g ≡ Some x → g < h → routes_before hs g + length (host_routes x) ≤ routes_before hs h
before_grows [] g h x e l = absurd (cc)
before_grows (y ∷ hs) g zero x e l = absurd (omega arith)
before_grows (y ∷ hs) zero (suc h) x e l =
    let s : y ≡ x = cc in
    let n = length-append (host_routes y) (routes_of_hosts (take h hs)) in
    let m : length (host_routes y) ≡ length (host_routes x) = ap (λ z. length (host_routes z)) s in
    omega (arith, n, m)
before_grows (y ∷ hs) (suc g) (suc h) x e l =
    let n = length-append (host_routes y) (routes_of_hosts (take h hs)) in
    let m = length-append (host_routes y) (routes_of_hosts (take g hs)) in
    let k = before_grows hs g h x e (omega arith) in
    omega (arith, n, m, k)

-- the route is one of host h
abbrev IsOf : Config → ℕ → ℕ → Host → Type 0
IsOf c r h host = (routes_before c.hosts h ≤ r) × (r < routes_before c.hosts h + length (host_routes host))

of_host : (c : Config) (r h : ℕ) (host : Host) (own : Condition) (before : List Guard) → IsGuarded c r h host own before → IsOf c r h host
of_host c r h host own before k =
    in_row (routes_before c.hosts h) (length (host_routes host)) r
    (subst (λ l. Has l r) (body_numbers (rule_at c) (routes_before c.hosts h) host.body) (guarded_in r own before k.after (guards c h host) k.is))

one_host : (c : Config) (r g h : ℕ) (x y : Host) → slice_get c.hosts g ≡ Some x → slice_get c.hosts h ≡ Some y → IsOf c r g x → IsOf c r h y → g ≡ h
one_host c r g h x y e f a b =
    let a0 = a.0 in let a1 = a.1 in let b0 = b.0 in let b1 = b.1 in
    elim (cases_lt g h) [
      | inl l ↦ let n = before_grows c.hosts g h x e l in absurd (omega (arith, n, a0, a1, b0, b1))
      | inr l ↦ elim (cases_lt h g) [
        | inl m ↦ let n = before_grows c.hosts h g y f m in absurd (omega (arith, n, a0, a1, b0, b1))
        | inr m ↦ omega (arith, l, m)
      ]
    ]

-- ---- one guard

routed_there : (r : ℕ) (own : Condition) (before after : List Guard) → guarded_routes (before ++ ((own, Some r) ∷ after)) ≡ guarded_routes before ++ (r ∷ guarded_routes after)
routed_there r own [] after = refl
routed_there r own (g ∷ before) after = by (routed_there r own before after) g.1 refl
  where
    by : guarded_routes (before ++ ((own, Some r) ∷ after)) ≡ guarded_routes before ++ (r ∷ guarded_routes after) → (o : Option ℕ) → g.1 ≡ o →
        guarded_routes ((g ∷ before) ++ ((own, Some r) ∷ after)) ≡ guarded_routes (g ∷ before) ++ (r ∷ guarded_routes after)
    by h None e = rw e h
    by h (Some k) e = rw e (ap (λ l. k ∷ l) h)

-- the route has no guard among these
abbrev Misses : ℕ → List Guard → Type 0
Misses r gs = Has (guarded_routes gs) r → ⊥

misses_before : (c : Config) (r h : ℕ) (host : Host) (own : Condition) (before : List Guard) → IsGuarded c r h host own before → Misses r before
misses_before c r h host own before k =
    (cut_row (routes_before c.hosts h) (length (body_routes host.body)) r (guarded_routes before) (guarded_routes k.after)
    (sym (body_numbers (rule_at c) (routes_before c.hosts h) host.body) ∙ ap guarded_routes k.is ∙ routed_there r own before k.after)).0

misses_more : (r : ℕ) (g : Guard) (gs : List Guard) → Misses r (g ∷ gs) → (o : Option ℕ) → g.1 ≡ o → (g.1 ≡ Some r → ⊥) × Misses r gs
misses_more r g gs n None e = let m = rw e at n in ((λ s. absurd (let z : None ≡ Some r = sym e ∙ s in cc)), m)
misses_more r g gs n (Some k) e =
    let m = rw e at n in
    ((λ s. let z : Some k ≡ Some r = sym e ∙ s in let w : k ≡ r = (cc) in m (inl w)), (λ i. m (inr i)))

one_cut : (r : ℕ) (a b xs ys : List Guard) (own other : Condition) → a ++ ((own, Some r) ∷ xs) ≡ b ++ ((other, Some r) ∷ ys) → Misses r a → Misses r b → (a ≡ b) × (own ≡ other)
one_cut r [] [] xs ys own other e n m =
    let head : ◌≡◌ {A = Guard} (own, Some r) (other, Some r) = (cc) in
    (refl, ap (λ (z : Guard). z.0) head)
one_cut r [] (g ∷ b) xs ys own other e n m =
    let head : (own, Some r) ≡ g = (cc) in
    absurd ((misses_more r g b m g.1 refl).0 (ap (λ z. z.1) (sym head)))
one_cut r (g ∷ a) [] xs ys own other e n m =
    let head : g ≡ (other, Some r) = (cc) in
    absurd ((misses_more r g a n g.1 refl).0 (ap (λ z. z.1) head))
one_cut r (g ∷ a) (f ∷ b) xs ys own other e n m =
    let head : g ≡ f = (cc) in
    let rest : a ++ ((own, Some r) ∷ xs) ≡ b ++ ((other, Some r) ∷ ys) = (cc) in
    let k = one_cut r a b xs ys own other rest (misses_more r g a n g.1 refl).1 (misses_more r f b m f.1 refl).1 in
    (ap₂ (λ u v. u ∷ v) head k.0, k.1)

-- a route has one host, one guard and one list of guards before it
pub one_spot : (c : Config) (r g h : ℕ) (x y : Host) (own other : Condition) (a b : List Guard) → IsGuarded c r g x own a → IsGuarded c r h y other b →
    (g ≡ h) × (x ≡ y) × (own ≡ other) × (a ≡ b)
one_spot c r g h x y own other a b k l =
    let i : g ≡ h = one_host c r g h x y k.is_host l.is_host (of_host c r g x own a k) (of_host c r h y other b l) in
    let both : Some x ≡ Some y = sym k.is_host ∙ ap (slice_get c.hosts) i ∙ l.is_host in
    let same : x ≡ y = (cc) in
    let all : a ++ ((own, Some r) ∷ k.after) ≡ b ++ ((other, Some r) ∷ l.after) = sym k.is ∙ ap₂ (guards c) i same ∙ l.is in
    let cut = one_cut r a b k.after l.after own other all (misses_before c r g x own a k) (misses_before c r h y other b l) in
    (i, same, cut.1, cut.0)
