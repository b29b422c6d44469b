use Rattle.std.proofs.Common.{refl}
use Rattle.goal_build.proofs.Formulas.{are_meant_of, adds_first}
use Rattle.goal_build.proofs.shared.shared_formulas.Goals as goal

pub returns-clause-meant : goal.returns-clause-meant
returns-clause-meant c =
    are_meant_of _ _ _ _ refl
    (adds_first _ _ _ _ _ _ _ _ c.new-list.ensures c.in_ok-host_formula.ensures.meant c.in_ok-push.ensures.ok c.add_tls.ensures.kept c.in_ok-add_tls.ensures.added)
