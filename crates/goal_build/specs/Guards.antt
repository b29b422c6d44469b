-- The guards of a host: what is asked in order, and the route that is taken where a guard is the first that is true. A guard
-- of a matcher tree may have no route.
use Rattle.std.specs.Prelude.{ℕ, Bool, List, Option, Some, None, length, slice_get}
use Rattle.goal_form.specs.declared.sight.Condition.{Condition}
use Rattle.goal_form.specs.declared.sight.Condition as of
use Rattle.cfg_types.specs.Choices.{routes_before}
use Rattle.cfg_types.specs.Order.{routes}
use Rattle.cfg_types.specs.declared.configs.Config.{Config}
use Rattle.cfg_types.specs.declared.configs.Host.{Host}
use Rattle.cfg_types.specs.declared.configs.Body.{Body}
use Rattle.cfg_types.specs.declared.configs.Body.TheVariants as body
use Rattle.cfg_types.specs.declared.routes.Route.{Route}
use Rattle.match_tree.specs.Guards.{Guard, route_guards, tree_guards}
use Rattle.rule_form.specs.Conditions.{rule_condition}

abbrev pub route_condition : Bool → Option Route → Condition
route_condition ignore_params None = of.No
route_condition ignore_params (Some r) = rule_condition ignore_params r.rule

-- the condition of the rule of the route of this number
abbrev pub rule_at : Config → ℕ → Condition
rule_at c r = route_condition c.ignore_params (slice_get (routes c) r)

-- the guards of what a host chooses its routes by, of which the first has the number `first`
abbrev pub body_guards : (ℕ → Condition) → ℕ → Body → List Guard
body_guards rule first (body.List rs) = route_guards rule first (length rs)
body_guards rule first (body.Tree t) = tree_guards rule t first

-- the guards of host h
abbrev pub guards : Config → ℕ → Host → List Guard
guards c h host = body_guards (rule_at c) (routes_before c.hosts h) host.body
