-- Splits against their budget.
use Rattle.std.specs.Prelude.{◌≡◌, ℕ, ◌≤◌, true, List}
use Rattle.std.specs.List.{list_any}
use Rattle.goal_form.specs.declared.goal.Node.{Node}
use Rattle.goal_form.specs.Unfinished.{is_rest, split_count}

-- at most so many splits, and exactly so many where a part wasn't looked at
pub record Fits (nodes : List Node) (splits : ℕ) : Type 0 where
  pub within : split_count nodes ≤ splits
  pub spent : list_any is_rest nodes ≡ true → split_count nodes ≡ splits
