use Rattle.std.proofs.Common.{[], map, take}
use Rattle.goal_form.specs.Meant.{AddsMeant}
use Rattle.goal_form.specs.Numbers.{Grows}
use Rattle.rule_form.specs.Conditions.{rule_condition}
use Rattle.goal_build.proofs.host_parts.rule_formulas.Given as goal

abbrev pub invariant-loop-route : goal.invariant-loop-route
invariant-loop-route l = Grows l.fn.atoms l.atoms × AddsMeant l.atoms [] l.list (map (λ r. rule_condition l.ignore_params r.now.rule) (take l.route-index l.routes))
