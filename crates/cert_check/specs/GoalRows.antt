-- What the body of a row shows of a goal.
use Rattle.std.specs.Prelude.{◌≡◌, true}
use Rattle.text_base.specs.Requests.{is_valid}
use Rattle.goal_form.specs.declared.goal.Goal.{Goal}
use Rattle.goal_form.specs.declared.goal.RowBody.{RowBody}
use Rattle.goal_form.specs.declared.goal.RowBody.TheVariants.{Reached, Refuted, Undecided}
use Rattle.goal_form.specs.Goals.{is_true_at}
use Rattle.goal_form.specs.Refutations.{Refutes}
use Rattle.goal_form.specs.Unfinished.{Unfinished}
use Rattle.cert_check.specs.LawfulRows.{AreBudgets}

-- a valid request at which the goal is true, or a tree that refutes the goal, or one that was left unfinished
abbrev pub IsBodyOf : Goal → RowBody → Type 0
IsBodyOf goal (Reached q) = (is_valid q ≡ true) × (is_true_at q goal ≡ true)
IsBodyOf goal (Refuted nodes) = Refutes goal nodes
IsBodyOf goal (Undecided nodes splits states) = AreBudgets splits states × Unfinished goal nodes splits states
