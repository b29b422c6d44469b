-- What a row tells of what a search found.
use Rattle.goal_form.specs.declared.goal.RowBody.{RowBody}
use Rattle.goal_form.specs.declared.goal.RowBody.TheVariants as row
use Rattle.split_seek.specs.declared.finding.Finding.{Finding}
use Rattle.split_seek.specs.declared.finding.Finding.TheVariants.{Reached, Refuted, Undecided}
use Rattle.check_core.specs.declared.calls.Budgets.{Budgets}

abbrev pub found_body : Budgets → Finding → RowBody
found_body b (Reached q) = row.Reached q
found_body b (Refuted nodes) = row.Refuted nodes
found_body b (Undecided nodes) = row.Undecided nodes b.splits b.states
