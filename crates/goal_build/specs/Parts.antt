-- Guards by their parts.
use Rattle.std.specs.Prelude.{ℕ, List, Option, map}
use Rattle.goal_form.specs.declared.formula.Formula.{Formula}
use Rattle.match_tree.specs.declared.guard.Guard.{Guard}

-- the formulas of guards
abbrev pub asked : List Guard → List Formula
asked gs = map (λ g. g.formula) gs

-- the routes of guards
abbrev pub taken : List Guard → List (Option ℕ)
taken gs = map (λ g. g.route) gs
