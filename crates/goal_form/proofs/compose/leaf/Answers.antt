use Rattle.goal_form.proofs.Meanings.{meant_leaf}
use Rattle.goal_form.proofs.compose.leaf.Goals as goal

pub returns-clause-meant : goal.returns-clause-meant
returns-clause-meant c = meant_leaf _ _ c.args.atom _ c.in_ok-number.ensures.ok
