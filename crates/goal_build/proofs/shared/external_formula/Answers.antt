use Rattle.goal_form.proofs.Meant.{meant_either}
use Rattle.goal_build.proofs.shared.external_formula.Goals as goal

pub returns-clause-meant : goal.returns-clause-meant
returns-clause-meant c = meant_either _ _ _ _ _ _ _ c.in_ok-any_of.ensures c.present.ensures.kept c.in_ok-https.ensures.meant c.in_ok-internal.ensures.meant
