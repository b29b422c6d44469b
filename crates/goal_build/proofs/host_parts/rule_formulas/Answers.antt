use Rattle.std.proofs.Common.{[], subst, sym, ap, ◌∙◌, map, refl, arith}
use Rattle.std.proofs.lemmas.List.{take_all}
use Rattle.cfg_types.specs.Lawful.{IsLawfulRoute}
use Rattle.cfg_types.specs.Order.{lent}
use Rattle.cfg_types.proofs.Members.{All-at, Has-get}
use Rattle.goal_form.specs.Meant.{AddsMeant}
use Rattle.goal_form.proofs.Meanings.{grows_on}
use Rattle.goal_form.proofs.Meant.{adds_push, map_through}
use Rattle.rule_form.specs.Conditions.{rule_condition}
use Rattle.goal_build.proofs.Formulas.{are_meant_of}
use Rattle.goal_build.proofs.Spots.{lent_at, lent_map}
use Rattle.goal_build.proofs.host_parts.rule_formulas.Goals as goal

pub rule_formula-requires : goal.rule_formula-requires
rule_formula-requires c =
    (All-at IsLawfulRoute (lent c.args.routes.now) c.route-item.result.now c.requires
    (Has-get (lent c.args.routes.now) c.loop-route.route-index c.route-item.result.now (lent_at c.args.routes.now c.loop-route.route-index c.route-item.result c.loop-route-test.true c.route-item.is))).rule

pub loop-route-preserved : goal.loop-route-preserved
loop-route-preserved c =
    let i = c.loop-route.invariant in
    let more = adds_push _ _ _ _ _ _ _ _ c.rule_formula.ensures.kept i.1 c.in_ok-rule_formula.ensures.meant c.in_ok-push.ensures.ok in
    let rest = map_through (λ r. rule_condition c.args.ignore_params r.now.rule) c.args.routes.now c.loop-route.route-index c.route-item.result c.loop-route-test.true c.route-item.is in
    (grows_on _ _ _ i.0 c.rule_formula.ensures.kept, subst (AddsMeant c.rule_formula.new.atoms [] c.push.new.self) (sym rest) more)

pub returns-clause-meant : goal.returns-clause-meant
returns-clause-meant c =
    let past = c.loop-route-test.false in
    let whole = ap (map (λ r. rule_condition c.args.ignore_params r.now.rule)) (take_all c.loop-route.route-index c.args.routes.now (omega (arith, past))) in
    let lent_ = lent_map (λ r. rule_condition c.args.ignore_params r.rule) c.args.routes.now in
    are_meant_of c.loop-route.atoms [] c.loop-route.list _ refl (subst (AddsMeant c.loop-route.atoms [] c.loop-route.list) (whole ∙ lent_) c.loop-route.invariant.1)
