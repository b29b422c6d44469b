use Rattle.std.proofs.Common.{subst, sym}
use Rattle.rule_form.specs.Conditions.{query_condition}
use Rattle.goal_form.specs.Meant.{AddsMeant}
use Rattle.goal_form.proofs.Meanings.{grows_on}
use Rattle.goal_form.proofs.Meant.{adds_push, map_through}
use Rattle.rule_form.proofs.rules.add_queries.Goals as goal

pub loop-rule-preserved : goal.loop-rule-preserved
loop-rule-preserved c =
    let i = c.loop-rule.invariant in
    let more = adds_push _ _ _ _ _ _ _ _ c.query_formula.ensures.kept i.1 c.in_ok-query_formula.ensures.meant c.in_ok-push.ensures.ok in
    let rest = map_through query_condition c.args.rules.now c.loop-rule.rule-index c.rule-item.result c.loop-rule-test.true c.rule-item.is in
    (grows_on _ _ _ i.0 c.query_formula.ensures.kept, subst (AddsMeant c.query_formula.new.atoms c.args.list.now c.push.new.self) (sym rest) more)
