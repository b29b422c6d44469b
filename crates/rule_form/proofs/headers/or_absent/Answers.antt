use Rattle.goal_form.proofs.Meant.{meant_either}
use Rattle.rule_form.proofs.headers.or_absent.Goals as goal

pub returns-clause-meant : goal.returns-clause-meant
returns-clause-meant c =
    let none = rw c.has_empty-empty.ensures at c.in_ok-none.ensures.meant in
    meant_either _ _ _ _ _ _ _ c.in_ok-any_of.ensures c.absent.ensures.kept c.in_ok-found.ensures.meant none
