use Rattle.check_core.proofs.Judged.{row_line_told}
use Rattle.check_core.proofs.verify.is_lawful_line.Goals as goal

pub returns-in-Ok-clause-exact : goal.returns-in-Ok-clause-exact
returns-in-Ok-clause-exact c = row_line_told _ _ _ _ _ c.in-Ok.ensures c.check_goal_row.ensures.exact
