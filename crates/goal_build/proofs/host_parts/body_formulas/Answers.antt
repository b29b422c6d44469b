use Rattle.std.proofs.Common.{IfOk, subst, sym, ap, ◌∙◌, map}
use Rattle.std.specs.Prelude.{All}
use Rattle.cfg_types.specs.Lawful.{IsLawfulRoute}
use Rattle.cfg_types.specs.Order.{lent}
use Rattle.cfg_types.proofs.LawfulLevels.{body-lawful}
use Rattle.goal_form.specs.Conditions.{AreMeant}
use Rattle.match_tree.specs.Told.{AreGuards}
use Rattle.rule_form.specs.Conditions.{rule_condition}
use Rattle.goal_build.proofs.Spots.{list_told, tree_told}
use Rattle.goal_build.proofs.host_parts.body_formulas.Goals as goal

pub rule_formulas-requires : goal.rule_formulas-requires
rule_formulas-requires c = subst (All IsLawfulRoute) (sym (ap lent c.as_slice.ensures.value ∙ c.in_ok-routes.ensures)) (body-lawful c.args.body.now c.requires)

pub returns-in-List-clause-meant : goal.returns-in-List-clause-meant
returns-in-List-clause-meant c rule are =
    let rules = subst (λ l. AreMeant c.rule_formulas.new.atoms c.in_ok-rules.rules (map (λ r. rule_condition c.args.ignore_params r.rule) l)) (ap lent c.as_slice.ensures.value ∙ c.in_ok-routes.ensures) c.in_ok-rules.ensures.meant in
    let told = list_told c.rule_formulas.new.atoms c.in_ok-rules.rules c.as_slice-in-List.result.now c.args.body.now _ c.args.ignore_params c.args.first rule c.in-List.is c.as_slice-in-List.ensures rules are in
    subst (λ l. IfOk c.route_guards.result (λ gs. AreGuards c.rule_formulas.new.atoms gs l)) told.1 (c.route_guards.ensures c.rule_formulas.new.atoms rule told.0)

pub returns-clause-meant : goal.returns-clause-meant
returns-clause-meant c rule are =
    let rules = subst (λ l. AreMeant c.rule_formulas.new.atoms c.in_ok-rules.rules (map (λ r. rule_condition c.args.ignore_params r.rule) l)) (ap lent c.as_slice.ensures.value ∙ c.in_ok-routes.ensures) c.in_ok-rules.ensures.meant in
    let told = tree_told c.rule_formulas.new.atoms c.in_ok-rules.rules c.as_slice-in-Tree.result.now c.args.body.now c.in-Tree.tree c.args.ignore_params c.args.first rule c.in-Tree.is c.as_slice-in-Tree.ensures rules are in
    subst (λ l. IfOk c.guards.result (λ gs. AreGuards c.guards.new.atoms gs l)) told.1 (c.guards.ensures.meant rule told.0)
