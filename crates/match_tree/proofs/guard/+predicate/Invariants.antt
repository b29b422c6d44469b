use Rattle.std.proofs.Common.{map, take}
use Rattle.goal_form.specs.Numbers.{Grows}
use Rattle.goal_form.specs.Meant.{AreMeant}
use Rattle.match_tree.specs.Guards.{predicate_condition}
use Rattle.match_tree.proofs.guard.+predicate.Given as goal

abbrev pub invariant-member_formulas-loop-test : goal.invariant-member_formulas-loop-test
invariant-member_formulas-loop-test l = record {
  kept : Grows l.fn.atoms l.atoms;
  meant : AreMeant l.atoms l.list (map predicate_condition (take l.test-index l.tests));
}
