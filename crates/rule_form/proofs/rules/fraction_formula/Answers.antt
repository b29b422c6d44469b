use Rattle.goal_form.proofs.Meant.{adds_push, all_from}
use Rattle.rule_form.proofs.rules.fraction_formula.Goals as goal

pub returns-clause-meant : goal.returns-clause-meant
returns-clause-meant c =
    let random = rw c.in_ok-term.ensures at c.in_ok-within.ensures.meant in
    all_from _ _ _ _ c.new-members.ensures
    (adds_push _ _ _ _ _ _ _ _ c.within.ensures.kept c.in_ok-add_key.ensures.added random c.in_ok-push.ensures.ok)
