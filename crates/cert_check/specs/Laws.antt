-- What the definition of a route's goal says.
use Rattle.std.specs.Prelude.{◌≡◌, ℕ}
use Rattle.goal_form.specs.declared.goal.Goal.{Goal}
use Rattle.cfg_types.specs.declared.configs.Config.{Config}
use Rattle.goal_build.specs.Goals.{IsGoal}

-- a route has at most one goal
abbrev pub OneGoalLaw : Type 0
OneGoalLaw = (c : Config) (r : ℕ) (g h : Goal) → IsGoal c r g → IsGoal c r h → g ≡ h
