-- Where the routes of hosts stand.
use Rattle.std.proofs.Common.{◌≡◌, inl, inr, ℕ, zero, suc, ◌+◌, ◌-◌, ◌<◌, ◌≤◌, List, [], ◌∷◌, map, length, length-append, get_or, take, Option, Some, None, slice_get, refl, sym, ap, subst, ◌∙◌, arith, Bor}
use Rattle.std.specs.Prelude.{Contains}
use Rattle.std.specs.List.{range_with_len}
use Rattle.std.proofs.lemmas.List.{take_all}
use Rattle.std.proofs.lemmas.Option.{slice_get_read, slice_get_within}
use Rattle.text_base.proofs.Lists.{flat_map_through}
use Rattle.rx_term.specs.Language.{Has}
use Rattle.goal_form.specs.declared.atom.Atom.{Atom}
use Rattle.goal_form.specs.declared.formula.Formula.{Formula}
use Rattle.goal_form.specs.declared.sight.Condition.{Condition}
use Rattle.goal_form.specs.Formulas.{leaves_below}
use Rattle.goal_form.specs.Conditions.{condition_of, AreMeant}
use Rattle.cfg_types.specs.Choices.{routes_before}
use Rattle.cfg_types.specs.Lawful.{IsLawful, IsLawfulHost, IsLawfulBody}
use Rattle.cfg_types.specs.Order.{lent, body_routes, host_routes, routes_of_hosts}
use Rattle.cfg_types.specs.declared.configs.Body.{Body}
use Rattle.cfg_types.specs.declared.configs.Body.TheVariants as body
use Rattle.cfg_types.specs.declared.configs.Config.{Config}
use Rattle.cfg_types.specs.declared.configs.Host.{Host}
use Rattle.cfg_types.specs.declared.routes.Route.{Route}
use Rattle.cfg_types.specs.declared.trees.Tree.{Tree}
use Rattle.cfg_types.proofs.Members.{All-at, Has-get, contains-from_Has}
use Rattle.match_tree.specs.Guards.{Guard, route_guards, tree_guards}
use Rattle.match_tree.specs.GuardLaws.{guarded_routes}
use Rattle.match_tree.specs.Told.{AreRules}
use Rattle.rule_form.specs.Conditions.{rule_condition}
use Rattle.goal_build.specs.Guards.{rule_at, body_guards, guards}
use Rattle.goal_build.specs.HostGoals.{AreRulesOf, AreGoalsOf, IsPlace}
use Rattle.goal_build.specs.Parts.{taken}
use Rattle.goal_build.specs.declared.host_goals.HostGoals.{HostGoals}
use Rattle.goal_build.proofs.Guarding.{taken_are}
use Rattle.goal_build.proofs.SentLaws.{all_passes, route_there, body_numbers}
use Rattle.goal_build.proofs.WellFormed.{range_has}

pub before_through : (hs : List Host) (at : ℕ) (h : Host) → at < length hs → h ≡ get_or hs at h → routes_before hs (at + 1) ≡ routes_before hs at + length (host_routes h)
before_through hs at h l e = ap length (flat_map_through host_routes hs at h l e) ∙ length-append (routes_of_hosts (take at hs)) (host_routes h)

pub before_all : (hs : List Host) (at : ℕ) → length hs ≤ at → routes_before hs at ≡ length (routes_of_hosts hs)
before_all hs at l = ap (λ x. length (routes_of_hosts x)) (take_all at hs l)

-- a host has few routes
pub few_routes : (b : Body) → IsLawfulBody b → length (body_routes b) ≤ 1000
few_routes (body.List rs) l = l.few_routes
few_routes (body.Tree t) l = l.few_routes

pub body_lawful_at : (c : Config) (at : ℕ) (h : Host) → IsLawful c → at < length c.hosts → h ≡ get_or c.hosts at h → IsLawfulBody h.body
body_lawful_at c at h l k e = (All-at IsLawfulHost c.hosts h l.hosts (Has-get c.hosts at h (slice_get_read c.hosts (length c.hosts) at h refl k e))).body

-- ---- the rules of a host's routes

-- the rules of a host's routes are those of the configuration's
pub rules_there : (c : Config) (h : ℕ) (host : Host) → slice_get c.hosts h ≡ Some host → AreRulesOf c.ignore_params (routes_before c.hosts h) (host_routes host) (rule_at c)
rules_there c h host is k r e = rw (route_there c h host is k (slice_get_within (host_routes host) k r e), e) refl

get_mapped : {A B : Type 0} (g : A → B) (xs : List A) (k : ℕ) (y : B) → slice_get (map g xs) k ≡ Some y → (x : A) × (slice_get xs k ≡ Some x) × (g x ≡ y)
get_mapped g [] k y e = absurd (cc)
get_mapped g (x ∷ xs) zero y e = (x, refl, cc)
get_mapped g (x ∷ xs) (suc k) y e = get_mapped g xs k y e

get_map : {A B : Type 0} (g : A → B) (xs : List A) (k : ℕ) (x : A) → slice_get xs k ≡ Some x → slice_get (map g xs) k ≡ Some (g x)
get_map g [] k x e = absurd (cc)
get_map g (y ∷ xs) zero x e = let s : y ≡ x = cc in ap (λ z. Some (g z)) s
get_map g (y ∷ xs) (suc k) x e = get_map g xs k x e

-- formulas that are the rules of routes, by the routes' numbers
pub rules_meant : (atoms : List Atom) (fs : List Formula) (rs : List Route) (ignore_params : _) (first : ℕ) (rule : ℕ → Condition) →
    AreMeant atoms fs (map (λ r. rule_condition ignore_params r.rule) rs) → AreRulesOf ignore_params first rs rule → AreRules atoms first fs rule
rules_meant atoms fs rs ignore_params first rule m are k f e =
    let there : slice_get (map (λ r. rule_condition ignore_params r.rule) rs) k ≡ Some (condition_of atoms f) =
    ap (λ l. slice_get l k) (sym m.are) ∙ get_map (condition_of atoms) fs k f e in
    let (r, i, s) = get_mapped (λ (r : Route). rule_condition ignore_params r.rule) rs k (condition_of atoms f) there in
    record { leaves = all_passes (leaves_below (length atoms)) fs k f m.leaves e; is = sym s ∙ sym (are k r i) }

pub meant_long : (atoms : List Atom) (fs : List Formula) (rs : List Route) (g : Route → Condition) → AreMeant atoms fs (map g rs) → length fs ≡ length rs
meant_long atoms fs rs g m = sym (long (condition_of atoms) fs) ∙ ap length m.are ∙ long g rs
  where
    long : {A B : Type 0} (f : A → B) (xs : List A) → length (map f xs) ≡ length xs
    long f [] = refl
    long f (x ∷ xs) = ap suc (long f xs)

-- what the guards of a list of routes are made of, and that they are its guards
pub list_told : (atoms : List Atom) (fs slice : List Formula) (b : Body) (rs : List Route) (ignore_params : _) (first : ℕ) (rule : ℕ → Condition) → b ≡ body.List rs → slice ≡ fs →
    AreMeant atoms fs (map (λ r. rule_condition ignore_params r.rule) (body_routes b)) → AreRulesOf ignore_params first (body_routes b) rule →
    AreRules atoms first slice rule × (route_guards rule first (length slice) ≡ body_guards rule first b)
list_told atoms fs slice b rs ignore_params first rule e s m are =
    let long = meant_long atoms fs (body_routes b) (λ r. rule_condition ignore_params r.rule) m in
    let many : length slice ≡ length rs = ap length s ∙ long ∙ ap (λ x. length (body_routes x)) e in
    (subst (λ l. AreRules atoms first l rule) (sym s) (rules_meant atoms fs (body_routes b) ignore_params first rule m are), ap (route_guards rule first) many ∙ sym (ap (body_guards rule first) e))

-- the same of a tree
pub tree_told : (atoms : List Atom) (fs slice : List Formula) (b : Body) (t : Tree) (ignore_params : _) (first : ℕ) (rule : ℕ → Condition) → b ≡ body.Tree t → slice ≡ fs →
    AreMeant atoms fs (map (λ r. rule_condition ignore_params r.rule) (body_routes b)) → AreRulesOf ignore_params first (body_routes b) rule →
    AreRules atoms first slice rule × (tree_guards rule t first ≡ body_guards rule first b)
tree_told atoms fs slice b t ignore_params first rule e s m are =
    (subst (λ l. AreRules atoms first l rule) (sym s) (rules_meant atoms fs (body_routes b) ignore_params first rule m are), sym (ap (body_guards rule first) e))

-- ---- routes that are lent

pub lent_at : (rs : List (Bor Route)) (i : ℕ) (r : Bor Route) → i < length rs → r ≡ get_or rs i r → slice_get (lent rs) i ≡ Some r.now
lent_at [] i r l e = absurd (omega (arith, l))
lent_at (x ∷ rs) zero r l e = ap (λ z. Some z.now) (sym e)
lent_at (x ∷ rs) (suc i) r l e = lent_at rs i r (omega (arith, l)) e

pub lent_map : {B : Type 0} (g : Route → B) (rs : List (Bor Route)) → map (λ r. g r.now) rs ≡ map g (lent rs)
lent_map g [] = refl
lent_map g (r ∷ rs) = ap (λ l. g r.now ∷ l) (lent_map g rs)

-- ---- the guard of a route

routed : (cs : List Guard) (r : ℕ) → Has (guarded_routes cs) r → Has (map (λ (c : Guard). c.1) cs) (Some r)
routed [] r h = elim h [ ]
routed (c ∷ cs) r h = by (routed cs r) c.1 refl
  where
    by : (Has (guarded_routes cs) r → Has (map (λ (x : Guard). x.1) cs) (Some r)) → (o : Option ℕ) → c.1 ≡ o → Has (map (λ (x : Guard). x.1) (c ∷ cs)) (Some r)
    by k None e = inr (k (rw e at h))
    by k (Some j) e = elim (rw e at h) [ inl s ↦ inl (e ∙ ap Some s) | inr i ↦ inr (k i) ]

pub route_has_guard : (c : Config) (route h first : ℕ) (g : HostGoals) → AreGoalsOf c h g → IsPlace c route h first → Contains (taken g.guards) (Some route)
route_has_guard c route h first g are p =
    let same : are.host ≡ p.host = (let k : Some are.host ≡ Some p.host = sym are.is_host ∙ p.is_host in cc) in
    let from = p.from in let below = p.below in let number = p.number in
    let long : length (host_routes are.host) ≡ length (host_routes p.host) = ap (λ x. length (host_routes x)) same in
    let row : Has (range_with_len (routes_before c.hosts h) (length (body_routes are.host.body))) route =
    subst (Has (range_with_len (routes_before c.hosts h) (length (body_routes are.host.body)))) (omega (arith, from, number))
    (range_has (length (body_routes are.host.body)) (routes_before c.hosts h) (route - routes_before c.hosts h) (omega (arith, from, below, number, long))) in
    let there : Has (guarded_routes (guards c h are.host)) route = subst (λ l. Has l route) (sym (body_numbers (rule_at c) (routes_before c.hosts h) are.host.body)) row in
    subst (λ l. Contains l (Some route)) (sym (taken_are g.atoms g.guards (guards c h are.host) are.guarded))
    (contains-from_Has (map (λ (x : Guard). x.1) (guards c h are.host)) (Some route) (routed (guards c h are.host) route there))
