use Rattle.goal_build.proofs.Formulas.{first_meant}
use Rattle.goal_build.proofs.shared.domain_formula.Goals as goal

pub returns-clause-meant : goal.returns-clause-meant
returns-clause-meant c =
    first_meant _ _ _ _ _ _ _ _ c.new-members.ensures c.in_ok-own_formula.ensures.meant c.in_ok-push.ensures.ok c.add_unmatched.ensures.kept c.in_ok-add_unmatched.ensures.added
