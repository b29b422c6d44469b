use Rattle.goal_form.proofs.Meant.{meant_both, meant_negated}
use Rattle.rule_form.proofs.headers.there_without.Goals as goal

pub returns-clause-meant : goal.returns-clause-meant
returns-clause-meant c =
    meant_both _ _ _ _ _ _ _ c.in_ok-all_of.ensures c.within.ensures.kept c.in_ok-there.ensures.meant
    (meant_negated _ _ _ _ c.in_ok-other.ensures c.in_ok-found.ensures.meant)
