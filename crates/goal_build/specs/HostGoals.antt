-- What the goals of a host are made of.
use Rattle.std.specs.Prelude.{◌≡◌, ◌<◌, ◌≤◌, ◌+◌, ℕ, Bool, List, ◌∷◌, Some, length, slice_get}
use Rattle.goal_form.specs.Conditions.{AreMeant}
use Rattle.goal_form.specs.declared.sight.Condition.{Condition}
use Rattle.cfg_types.specs.Choices.{routes_before}
use Rattle.cfg_types.specs.Order.{host_routes}
use Rattle.cfg_types.specs.declared.configs.Config.{Config}
use Rattle.cfg_types.specs.declared.configs.Host.{Host}
use Rattle.cfg_types.specs.declared.routes.Route.{Route}
use Rattle.match_tree.specs.Told.{AreGuards}
use Rattle.rule_form.specs.Conditions.{rule_condition}
use Rattle.goal_build.specs.Hosts.{host_condition, tls_conditions}
use Rattle.goal_build.specs.Guards.{guards}
use Rattle.goal_build.specs.declared.host_goals.HostGoals.{HostGoals}

-- the conditions of the rules of these routes, of which the first has the number `first`
abbrev pub AreRulesOf : Bool → ℕ → List Route → (ℕ → Condition) → Type 0
AreRulesOf ignore_params first rs rule = (k : ℕ) (r : Route) → slice_get rs k ≡ Some r → rule (first + k) ≡ rule_condition ignore_params r.rule

-- the formulas are the conditions of host h and of its guards
pub record AreGoalsOf (c : Config) (h : ℕ) (g : HostGoals) : Type 0 where
  pub host : Host
  pub is_host : slice_get c.hosts h ≡ Some host
  pub shared : AreMeant g.atoms g.shared (host_condition c h host ∷ tls_conditions host.tls)
  pub guarded : AreGuards g.atoms g.guards (guards c h host)

-- the route is one of host h, whose first route has the number `first`
pub record IsPlace (c : Config) (route h first : ℕ) : Type 0 where
  pub host : Host
  pub is_host : slice_get c.hosts h ≡ Some host
  pub number : first ≡ routes_before c.hosts h
  pub from : first ≤ route
  pub below : route < first + length (host_routes host)
