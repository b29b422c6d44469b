use Rattle.std.proofs.Common.{map, take}
use Rattle.goal_form.specs.Numbers.{Grows}
use Rattle.rule_form.specs.Conditions.{query_condition}
use Rattle.goal_form.specs.Meant.{AddsMeant}
use Rattle.rule_form.proofs.rules.add_queries.Given as goal

abbrev pub invariant-loop-rule : goal.invariant-loop-rule
invariant-loop-rule l = Grows l.fn.atoms l.atoms × AddsMeant l.atoms l.fn.list l.list (map query_condition (take l.rule-index l.rules))
