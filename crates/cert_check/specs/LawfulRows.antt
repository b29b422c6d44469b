-- Lawful rows of a report: what one shows of its route.
use Rattle.std.specs.Prelude.{◌≡◌, ℕ, ◌≤◌, true, Some, slice_get}
use Rattle.text_base.specs.Requests.{is_valid}
use Rattle.goal_form.specs.declared.goal.Goal.{Goal}
use Rattle.goal_form.specs.declared.goal.Row.{Row}
use Rattle.goal_form.specs.declared.goal.RowBody.{RowBody}
use Rattle.goal_form.specs.declared.goal.RowBody.TheVariants.{Reached, Refuted, Undecided}
use Rattle.goal_form.specs.Refutations.{Refutes}
use Rattle.goal_form.specs.Unfinished.{Unfinished}
use Rattle.cfg_types.specs.Choices.{IsSent}
use Rattle.cfg_types.specs.Order.{routes}
use Rattle.cfg_types.specs.declared.configs.Config.{Config}
use Rattle.cfg_types.specs.declared.routes.Route.{Route}
use Rattle.goal_build.specs.Goals.{IsGoal}

-- the budgets of a search are such as the options may give
pub record AreBudgets (splits states : ℕ) : Type 0 where
  pub some_splits : 1 ≤ splits
  pub few_splits : splits ≤ 65536
  pub some_states : 16 ≤ states
  pub few_states : states ≤ 4096

-- a valid request that is sent to the route, or a tree that refutes the route's goal, or one that was left unfinished
abbrev pub IsLawfulBody : Config → ℕ → RowBody → Type 0
IsLawfulBody c r (Reached q) = (is_valid q ≡ true) × IsSent c q r
IsLawfulBody c r (Refuted nodes) = (goal : Goal) × IsGoal c r goal × Refutes goal nodes
IsLawfulBody c r (Undecided nodes splits states) = AreBudgets splits states × (goal : Goal) × IsGoal c r goal × Unfinished goal nodes splits states

-- the row names the route by its place, and shows what becomes of it
pub record IsLawfulRow (c : Config) (r : ℕ) (row : Row) : Type 0 where
  pub route : Route
  pub is_route : slice_get (routes c) r ≡ Some route
  pub place : row.route ≡ route.place
  pub body : IsLawfulBody c r row.body
