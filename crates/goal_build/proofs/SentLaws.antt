-- The goal of a route is true at a valid request exactly where the request is sent to the route.
use Rattle.std.proofs.Common.{◌≡◌, ℕ, zero, suc, ◌+◌, ◌-◌, ◌<◌, ◌≤◌, Bool, true, false, not, ◌&&◌, ◌||◌, ◌⊎◌, inl, inr, List, [], ◌∷◌, ◌++◌, map, length, length-append, Option, None, Some, slice_get, take, refl, sym, ap, subst, ◌∙◌, IsTrue, arith, if◌then◌else◌}
use Rattle.std.specs.Prelude.{codes, is_some}
use Rattle.std.specs.List.{list_all, range_with_len}
use Rattle.std.proofs.Math.Path.{fun_ext}
use Rattle.std.proofs.lemmas.Bool.{and_parts, and_from, not-true, not_from_false, cases_lt}
use Rattle.std.proofs.lemmas.Option.{slice_get_within, get_or_from_slice_get}
use Rattle.text_base.specs.Asked.{Asked}
use Rattle.text_base.specs.Requests.{is_valid}
use Rattle.text_base.specs.Seen.{seen}
use Rattle.text_base.specs.declared.request.Field.TheVariants as field
use Rattle.text_base.proofs.Lists.{flat_map_get}
use Rattle.rx_term.specs.Language.{Has}
use Rattle.rx_build.specs.Texts.{exact_term}
use Rattle.rx_build.proofs.TextRules.{exact_law}
use Rattle.goal_form.specs.declared.goal.Goal.{Goal}
use Rattle.goal_form.specs.Goals.{text_in, is_true_at}
use Rattle.goal_form.specs.Conditions.{condition_of, condition_at}
use Rattle.goal_form.specs.declared.sight.Condition.{Condition}
use Rattle.goal_form.specs.declared.sight.Condition as of
use Rattle.goal_form.proofs.Meanings.{at_no, at_all, at_any, condition_true}
use Rattle.cfg_types.specs.Choices.{needs_tls, tried_routes, routes_before, first_accepted, chosen_or, among, at_host, at_number, choice_of, holds_at, route_holds, IsSent}
use Rattle.cfg_types.specs.Hosts.{host_for}
use Rattle.cfg_types.specs.Order.{routes, routes_of_hosts, host_routes, body_routes}
use Rattle.cfg_types.specs.Trees.{Span, behind}
use Rattle.cfg_types.specs.Lawful.{IsLawful, IsLawfulHost, IsLawfulBody}
use Rattle.cfg_types.specs.declared.configs.Config.{Config}
use Rattle.cfg_types.specs.declared.configs.Host.{Host}
use Rattle.cfg_types.specs.declared.configs.Body.{Body}
use Rattle.cfg_types.specs.declared.configs.Body.TheVariants as body
use Rattle.cfg_types.specs.declared.configs.Tls.{Tls}
use Rattle.cfg_types.specs.declared.configs.Tls.TheVariants as tls
use Rattle.cfg_types.specs.declared.routes.Route.{Route}
use Rattle.cfg_types.specs.declared.answers.Choice.TheVariants as choice
use Rattle.cfg_types.proofs.Members.{All-at, Has-get}
use Rattle.cfg_types.proofs.LawfulLevels.{route_lawful}
use Rattle.goal_form.specs.Leaves.{present}
use Rattle.rx_build.proofs.RuleTerms.{in_is}
use Rattle.goal_form.proofs.ConditionTruths.{at_within, at_present, all_at, all_at-append}
use Rattle.rule_form.proofs.OtherLaws.{rule_law}
use Rattle.goal_build.specs.Hosts.{host_condition, https_condition, tls_conditions}
use Rattle.match_tree.specs.Guards.{Guard}
use Rattle.match_tree.specs.GuardLaws.{guarded_route, guarded_routes, accepted_in}
use Rattle.match_tree.proofs.GuardTrees.{guard_law}
use Rattle.match_tree.proofs.GuardNumbers.{guard_numbers_law}
use Rattle.goal_build.specs.Guards.{route_condition, rule_at, body_guards, guards}
use Rattle.goal_build.proofs.Choosing.{guarded_list, list_numbers, in_row, guarded_first, first_guarded, guarded_in, led_in}
use Rattle.goal_build.specs.Goals.{goal_condition, IsGuarded}
use Rattle.goal_build.specs.Laws.{SentLaw}
use Rattle.goal_build.proofs.HostLaws.{host_condition_law}

and-true : (b : Bool) → (b && true) ≡ b
and-true true = refl
and-true false = refl

or-false : (b : Bool) → (b || false) ≡ b
or-false true = refl
or-false false = refl

-- ---- TLS

proto_is : (q : Asked) (v : Bool) → q.https ≡ v → text_in (exact_term false (codes "https")) (seen q field.Proto) ≡ v
unfolding seen
proto_is q true e = rw e (in_is (exact_term false (codes "https")) (codes "https") true (exact_law false (codes "https") (codes "https") refl))
proto_is q false e = rw e (in_is (exact_term false (codes "https")) (codes "http") false (exact_law false (codes "https") (codes "http") refl))

internal_is : (q : Asked) (v : Bool) → q.internal ≡ v → is_some (seen q field.Internal) ≡ v
unfolding seen
internal_is q true e = rw e refl
internal_is q false e = rw e refl

https_at : (q : Asked) → condition_at (seen q) https_condition ≡ q.https
https_at q = at_within (seen q) field.Proto (exact_term false (codes "https")) false ∙ proto_is q q.https refl

tls_at : (q : Asked) (t : Tls) → all_at (seen q) (tls_conditions t) ≡ not (needs_tls t q)
tls_at q tls.No = refl
tls_at q tls.External =
    and-true (condition_at (seen q) (of.Any (https_condition ∷ present field.Internal ∷ []))) ∙ at_any (seen q) _
    ∙ rw (https_at q, at_present q field.Internal ∙ internal_is q q.internal refl) (either_way q.https q.internal)
  where
    either_way : (s i : Bool) → (s || (i || false)) ≡ not (not s && not i)
    either_way true i = refl
    either_way false true = refl
    either_way false false = refl
tls_at q tls.All = and-true (condition_at (seen q) https_condition) ∙ https_at q ∙ twice q.https
  where
    twice : (b : Bool) → b ≡ not (not b)
    twice true = refl
    twice false = refl

-- ---- numbers of routes

pub all_passes : {A : Type 0} (p : A → Bool) (xs : List A) (j : ℕ) (x : A) → list_all p xs ≡ true → slice_get xs j ≡ Some x → p x ≡ true
all_passes p [] j x h e = absurd (cc)
all_passes p (y ∷ xs) zero x h e = let s : y ≡ x = cc in subst (λ z. p z ≡ true) s (and_parts (p y) (list_all p xs) h).0
all_passes p (y ∷ xs) (suc j) x h e = all_passes p xs j x (and_parts (p y) (list_all p xs) h).1 e

pub passes_all : {A : Type 0} (p : A → Bool) (xs : List A) → ((j : ℕ) (x : A) → slice_get xs j ≡ Some x → p x ≡ true) → list_all p xs ≡ true
passes_all p [] h = refl
passes_all p (x ∷ xs) h = and_from (p x) (list_all p xs) (h 0 x refl) (passes_all p xs (λ j y e. h (suc j) y e))

-- the routes of a host stand after those of the hosts before it
before_grows : (hs : List Host) (g h : ℕ) (x : Host) → slice_get hs g ≡ Some x → g < h → routes_before hs g + length (host_routes x) ≤ routes_before hs h
before_grows [] g h x e l = absurd (cc)
before_grows (y ∷ hs) g zero x e l = absurd (omega arith)
before_grows (y ∷ hs) zero (suc h) x e l =
    let s : y ≡ x = cc in
    let n = length-append (host_routes y) (routes_of_hosts (take h hs)) in
    let m : length (host_routes y) ≡ length (host_routes x) = ap (λ z. length (host_routes z)) s in
    omega (arith, n, m)
before_grows (y ∷ hs) (suc g) (suc h) x e l =
    let n = length-append (host_routes y) (routes_of_hosts (take h hs)) in
    let m = length-append (host_routes y) (routes_of_hosts (take g hs)) in
    let k = before_grows hs g h x e (omega arith) in
    omega (arith, n, m, k)

nat_cases : (a b : ℕ) → (a ≡ b) ⊎ ((a < b) ⊎ (b < a))
nat_cases a b = elim (cases_lt a b) [ inl l ↦ inr (inl l) | inr l ↦ elim (cases_lt b a) [ inl m ↦ inr (inr m) | inr m ↦ inl (omega arith) ] ]

-- a number is that of a route of one host alone
one_owner : (hs : List Host) (g h : ℕ) (x y : Host) (i j : ℕ) → slice_get hs g ≡ Some x → slice_get hs h ≡ Some y → i < length (host_routes x) → j < length (host_routes y) →
    routes_before hs g + i ≡ routes_before hs h + j → g ≡ h
one_owner hs g h x y i j e f l m s = by_order (nat_cases g h)
  where
    by_order : (g ≡ h) ⊎ ((g < h) ⊎ (h < g)) → g ≡ h
    by_order (inl k) = k
    by_order (inr (inl k)) = let n = before_grows hs g h x e k in absurd (omega (arith, n))
    by_order (inr (inr k)) = let n = before_grows hs h g y f k in absurd (omega (arith, n))

none_there : {A : Type 0} (xs : List A) (j : ℕ) → j < length xs → slice_get xs j ≡ None → ⊥
none_there [] j l e = absurd (omega (arith, l))
none_there (x ∷ xs) zero l e = cc
none_there (x ∷ xs) (suc j) l e = none_there xs j (omega (arith, l)) e

module _ (c : Config) (h : ℕ) (host : Host) (is : slice_get c.hosts h ≡ Some host) where
  abbrev start : ℕ
  start = routes_before c.hosts h

  -- the route of number start + j
  pub route_there : (j : ℕ) → j < length (host_routes host) → slice_get (routes c) (start + j) ≡ slice_get (host_routes host) j
  route_there j l =
      flat_map_get host_routes c.hosts h host (start + j) j (slice_get_within c.hosts h host is) (sym (get_or_from_slice_get c.hosts h host host is)) (omega arith) l

-- ---- the rules of routes

-- the condition of a route's rule is true exactly where the rule holds
rule_true : (c : Config) (q : Asked) (r : ℕ) → IsLawful c → IsTrue (is_valid q) → condition_at (seen q) (rule_at c r) ≡ holds_at c q r
rule_true c q r l v = by_route (slice_get (routes c) r) refl
  where
    by_route : (o : Option Route) → slice_get (routes c) r ≡ o → condition_at (seen q) (route_condition c.ignore_params o) ≡ route_holds c.ignore_params o q
    by_route None e = at_no (seen q)
    by_route (Some x) e = rule_law c.ignore_params x.rule q (route_lawful c r x l e).rule v

rules_true : (c : Config) (q : Asked) → IsLawful c → IsTrue (is_valid q) → (λ r. condition_at (seen q) (rule_at c r)) ≡ holds_at c q
rules_true c q l v = fun_ext (λ r. rule_true c q r l v)

-- ---- guards and the choice

-- a host's guards lead to the first of the tried routes whose rule is true
body_led : (rule : ℕ → Condition) (first : ℕ) (b : Body) (q : Asked) → IsLawfulBody b → IsTrue (is_valid q) →
    guarded_route (seen q) (body_guards rule first b) ≡ accepted_in (λ r. condition_at (seen q) (rule r)) (behind first (tried_routes b q))
body_led rule first (body.List rs) q l v =
    guarded_list (seen q) rule first (length rs) ∙ ap (λ n. first_accepted (λ r. condition_at (seen q) (rule r)) n (length rs)) (omega arith)
body_led rule first (body.Tree t) q l v = guard_law rule t first q l v

pub body_numbers : (rule : ℕ → Condition) (first : ℕ) (b : Body) → guarded_routes (body_guards rule first b) ≡ range_with_len first (length (body_routes b))
body_numbers rule first (body.List rs) = list_numbers rule first (length rs)
body_numbers rule first (body.Tree t) = guard_numbers_law rule t first

module _ (c : Config) (q : Asked) (lawful : IsLawful c) (valid : IsTrue (is_valid q)) (h : ℕ) (host : Host) (is : slice_get c.hosts h ≡ Some host) where
  host_led : guarded_route (seen q) (guards c h host) ≡ accepted_in (holds_at c q) (behind (routes_before c.hosts h) (tried_routes host.body q))
  host_led =
      body_led (rule_at c) (routes_before c.hosts h) host.body q (All-at IsLawfulHost c.hosts host lawful.hosts (Has-get c.hosts h host is)).body valid
      ∙ ap (λ p. accepted_in p (behind (routes_before c.hosts h) (tried_routes host.body q))) (rules_true c q lawful valid)

  -- the choice among the tried routes is what the guards lead to
  among_led : (o : Option Span) (r : ℕ) → among (holds_at c q) h (routes_before c.hosts h) o ≡ choice.Chosen r → accepted_in (holds_at c q) (behind (routes_before c.hosts h) o) ≡ Some r
  among_led None r e = absurd (cc)
  among_led (Some s) r e = chosen (first_accepted (holds_at c q) (routes_before c.hosts h + s.0) s.1) e
    where
      chosen : (f : Option ℕ) → chosen_or h f ≡ choice.Chosen r → f ≡ Some r
      chosen None i = absurd (cc)
      chosen (Some k) i = (cc)

  led_among : (o : Option Span) (r : ℕ) → accepted_in (holds_at c q) (behind (routes_before c.hosts h) o) ≡ Some r → among (holds_at c q) h (routes_before c.hosts h) o ≡ choice.Chosen r
  led_among None r e = absurd (cc)
  led_among (Some s) r e = ap (chosen_or h) e

goal_at : (c : Config) (q : Asked) (h : ℕ) (host : Host) (own : Condition) (before : List Guard) →
    condition_at (seen q) (goal_condition c h host own before)
    ≡ (condition_at (seen q) (host_condition c h host) && (not (needs_tls host.tls q) && (condition_at (seen q) own && all_at (seen q) (map (λ g. of.Not g.0) before))))
goal_at c q h host own before =
    at_all (seen q) (host_condition c h host ∷ (tls_conditions host.tls ++ (own ∷ map (λ g. of.Not g.0) before)))
    ∙ ap (λ b. condition_at (seen q) (host_condition c h host) && b)
    (all_at-append (seen q) (tls_conditions host.tls) (own ∷ map (λ g. of.Not g.0) before)
    ∙ ap (λ b. b && (condition_at (seen q) own && all_at (seen q) (map (λ g. of.Not g.0) before))) (tls_at q host.tls))

goal_is : (q : Asked) (goal : Goal) (k : Condition) → condition_of goal.atoms goal.formula ≡ k → is_true_at q goal ≡ condition_at (seen q) k
goal_is q goal k e = sym (condition_true (seen q) goal.atoms goal.formula) ∙ ap (condition_at (seen q)) e

-- the host that a request is sent to, and that its guards lead to the route
record IsLed (c : Config) (q : Asked) (r g : ℕ) : Type 0 where
  host : Host
  is_host : slice_get c.hosts g ≡ Some host
  picked : host_for c q.authority ≡ Some g
  needs : needs_tls host.tls q ≡ false
  led : guarded_route (seen q) (guards c g host) ≡ Some r

sent_led : (c : Config) (q : Asked) (r : ℕ) → IsLawful c → IsTrue (is_valid q) → IsSent c q r → (g : ℕ) × IsLed c q r g
unfolding choice_of
sent_led c q r l v sent = by_host (host_for c q.authority) refl sent
  where
    by_tls : (g : ℕ) (host : Host) → host_for c q.authority ≡ Some g → slice_get c.hosts g ≡ Some host → (b : Bool) → needs_tls host.tls q ≡ b →
        (if b then choice.Tls g else among (holds_at c q) g (routes_before c.hosts g) (tried_routes host.body q)) ≡ choice.Chosen r → (g : ℕ) × IsLed c q r g
    by_tls g host p is true n e = absurd (cc)
    by_tls g host p is false n e =
        (g, record { host = host; is_host = is; picked = p; needs = n; led = host_led c q l v g host is ∙ among_led c q l v g host is (tried_routes host.body q) r e })

    by_number : (g : ℕ) (o : Option Host) → host_for c q.authority ≡ Some g → slice_get c.hosts g ≡ o → at_host (holds_at c q) c.hosts q g o ≡ choice.Chosen r → (g : ℕ) × IsLed c q r g
    by_number g None p is e = absurd (cc)
    by_number g (Some host) p is e = by_tls g host p is (needs_tls host.tls q) refl e

    by_host : (o : Option ℕ) → host_for c q.authority ≡ o → at_number (holds_at c q) c.hosts q o ≡ choice.Chosen r → (g : ℕ) × IsLed c q r g
    by_host None p e = absurd (cc)
    by_host (Some g) p e = by_number g (slice_get c.hosts g) p refl e

led_sent : (c : Config) (q : Asked) (r g : ℕ) → IsLawful c → IsTrue (is_valid q) → IsLed c q r g → IsSent c q r
unfolding choice_of
led_sent c q r g l v k =
    rw (k.picked, k.is_host, k.needs)
    (led_among c q l v g k.host k.is_host (tried_routes k.host.body q) r (sym (host_led c q l v g k.host k.is_host) ∙ k.led))

-- a route that guards lead to is one of their host
led_owner : (c : Config) (q : Asked) (r g h : ℕ) (x host : Host) → slice_get c.hosts g ≡ Some x → slice_get c.hosts h ≡ Some host →
    Has (guarded_routes (guards c g x)) r → Has (guarded_routes (guards c h host)) r → g ≡ h
led_owner c q r g h x host e f a b =
    let i = in_row (routes_before c.hosts g) (length (host_routes x)) r (subst (λ l. Has l r) (body_numbers (rule_at c) (routes_before c.hosts g) x.body) a) in
    let j = in_row (routes_before c.hosts h) (length (host_routes host)) r (subst (λ l. Has l r) (body_numbers (rule_at c) (routes_before c.hosts h) host.body) b) in
    let i0 = i.0 in let i1 = i.1 in let j0 = j.0 in let j1 = j.1 in
    one_owner c.hosts g h x host (r - routes_before c.hosts g) (r - routes_before c.hosts h) e f (omega (arith, i0, i1)) (omega (arith, j0, j1)) (omega (arith, i0, j0))

module _ (c : Config) (r : ℕ) (q : Asked) (lawful : IsLawful c) (valid : IsTrue (is_valid q))
    (h : ℕ) (host : Host) (own : Condition) (before : List Guard) (guarded : IsGuarded c r h host own before) where
  abbrev whole : Condition
  whole = goal_condition c h host own before

  row : guarded_routes (guards c h host) ≡ range_with_len (routes_before c.hosts h) (length (body_routes host.body))
  row = body_numbers (rule_at c) (routes_before c.hosts h) host.body

  to_sent : condition_at (seen q) whole ≡ true → IsSent c q r
  to_sent t =
      let a = and_parts _ _ (sym (goal_at c q h host own before) ∙ t) in
      let b = and_parts (not (needs_tls host.tls q)) _ a.1 in
      let d = and_parts (condition_at (seen q) own) _ b.1 in
      led_sent c q r h lawful valid (record {
        host = host;
        is_host = guarded.is_host;
        picked = (host_condition_law c h host q lawful guarded.is_host valid).0 a.0;
        needs = not-true (needs_tls host.tls q) b.0;
        led = first_guarded (seen q) r own before guarded.after (guards c h host) guarded.is d;
      })

  from_sent : IsSent c q r → condition_at (seen q) whole ≡ true
  from_sent sent =
      let (g, k) = sent_led c q r lawful valid sent in
      let i : g ≡ h = led_owner c q r g h k.host host k.is_host guarded.is_host (led_in (seen q) r (guards c g k.host) k.led) (guarded_in r own before guarded.after (guards c h host) guarded.is) in
      let there : slice_get c.hosts h ≡ Some k.host = subst (λ n. slice_get c.hosts n ≡ Some k.host) i k.is_host in
      let both : Some k.host ≡ Some host = sym there ∙ guarded.is_host in
      let same : k.host ≡ host = (cc) in
      let needs : needs_tls host.tls q ≡ false = subst (λ z. needs_tls z.tls q ≡ false) same k.needs in
      let led : guarded_route (seen q) (guards c h host) ≡ Some r = subst (λ z. guarded_route (seen q) (guards c h z) ≡ Some r) same (subst (λ n. guarded_route (seen q) (guards c n k.host) ≡ Some r) i k.led) in
      let first = guarded_first (seen q) (routes_before c.hosts h) (length (body_routes host.body)) r own before guarded.after (guards c h host) guarded.is row led in
      goal_at c q h host own before
      ∙ and_from (condition_at (seen q) (host_condition c h host)) _ ((host_condition_law c h host q lawful guarded.is_host valid).1 (k.picked ∙ ap Some i))
      (and_from (not (needs_tls host.tls q)) _ (not_from_false _ needs) (and_from (condition_at (seen q) own) _ first.0 first.1))

pub sent_law : SentLaw
sent_law c r goal q l g v =
    let same : is_true_at q goal ≡ condition_at (seen q) (goal_condition c g.h g.host g.own g.before) = goal_is q goal (goal_condition c g.h g.host g.own g.before) g.numbered.meant.is in (
      (λ t. to_sent c r q l v g.h g.host g.own g.before g.guarded (sym same ∙ t)),
      (λ s. same ∙ from_sent c r q l v g.h g.host g.own g.before g.guarded s),
    )
