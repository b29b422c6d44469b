-- The goal of a route: its host is the request's, which needn't go to https first, its guard is true and no earlier one is.
use Rattle.std.specs.Prelude.{◌≡◌, ℕ, List, ◌∷◌, ◌++◌, map, Some, slice_get}
use Rattle.goal_form.specs.declared.goal.Goal.{Goal}
use Rattle.goal_form.specs.declared.sight.Condition.{Condition}
use Rattle.goal_form.specs.declared.sight.Condition as of
use Rattle.cfg_types.specs.declared.configs.Config.{Config}
use Rattle.cfg_types.specs.declared.configs.Host.{Host}
use Rattle.goal_build.specs.Hosts.{host_condition, tls_conditions}
use Rattle.match_tree.specs.Guards.{Guard}
use Rattle.goal_build.specs.Guards.{guards}
use Rattle.goal_build.specs.Numbering.{IsNumbered}

abbrev pub goal_condition : Config → ℕ → Host → Condition → List Guard → Condition
goal_condition c h host own before =
    of.All (host_condition c h host ∷ (tls_conditions host.tls ++ (own ∷ map (λ g. of.Not g.0) before)))

-- the guard of route r on host h, and the guards before it
pub record IsGuarded (c : Config) (r h : ℕ) (host : Host) (own : Condition) (before : List Guard) : Type 0 where
  pub after : List Guard
  pub is_host : slice_get c.hosts h ≡ Some host
  pub is : guards c h host ≡ before ++ ((own, Some r) ∷ after)

-- the goal of route r
pub record IsGoal (c : Config) (r : ℕ) (goal : Goal) : Type 0 where
  pub h : ℕ
  pub host : Host
  pub own : Condition
  pub before : List Guard
  pub guarded : IsGuarded c r h host own before
  pub numbered : IsNumbered (goal_condition c h host own before) goal
