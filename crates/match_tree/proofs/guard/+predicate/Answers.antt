use Rattle.std.proofs.Common.{map, sym, ap, subst, arith, ◌∙◌}
use denote.Param.Weighed.{at_most}
use Rattle.cfg_types.proofs.trees.Predicate.TheLaws.{the_size}
use Rattle.goal_form.specs.declared.sight.Condition as of
use Rattle.goal_form.proofs.Meanings.{grows_on}
use Rattle.goal_form.proofs.Meant.{meant_every, meant_some, meant_to}
use Rattle.match_tree.specs.Guards.{predicate_condition}
use Rattle.match_tree.specs.LawfulParts.{IsFilledPredicate, AreFilledPredicates}
use Rattle.match_tree.proofs.GuardPredicates.{condition-Any, condition-All, filled-input, filled_members-Any, filled_members-All, filled_member-Not}
use Rattle.match_tree.proofs.FilledParts.{filled_member}
use Rattle.match_tree.proofs.Depths.{depth-Any, depth-All, depth-Not}
use Rattle.match_tree.proofs.GuardLists.{meant_more}
use Rattle.match_tree.proofs.guard.+predicate.Goals as goal

pub predicate_formula-text_term-requires : goal.predicate_formula-text_term-requires
predicate_formula-text_term-requires t c = (filled-input c.in-Single.input c.in-Single.rule (subst IsFilledPredicate c.in-Single.is c.requires)).1

pub predicate_formula-input_formula-requires : goal.predicate_formula-input_formula-requires
predicate_formula-input_formula-requires t c = (filled-input c.in-Single.input c.in-Single.rule (subst IsFilledPredicate c.in-Single.is c.requires)).0

pub predicate_formula-member_formulas-requires : goal.predicate_formula-member_formulas-requires
predicate_formula-member_formulas-requires t c =
    let s = depth-Any c.args.test.now c.in-Any.tests c.as_slice.result.now c.in-Any.is c.as_slice.ensures in
    (omega (arith, s, c.decreases), subst AreFilledPredicates (sym c.as_slice.ensures) (filled_members-Any c.in-Any.tests (subst IsFilledPredicate c.in-Any.is c.requires)))

pub predicate_formula-member_formulas-requires-in-All : goal.predicate_formula-member_formulas-requires-in-All
predicate_formula-member_formulas-requires-in-All t c =
    let s = depth-All c.args.test.now c.in-All.tests c.as_slice-in-All.result.now c.in-All.is c.as_slice-in-All.ensures in
    (omega (arith, s, c.decreases), subst AreFilledPredicates (sym c.as_slice-in-All.ensures) (filled_members-All c.in-All.tests (subst IsFilledPredicate c.in-All.is c.requires)))

pub predicate_formula-predicate_formula-requires : goal.predicate_formula-predicate_formula-requires
predicate_formula-predicate_formula-requires t c =
    let s = depth-Not c.args.test.now c.in-Not.test c.get.result.now c.in-Not.is c.get.ensures in
    (omega (arith, s, c.decreases), subst IsFilledPredicate (sym c.get.ensures) (filled_member-Not c.in-Not.test (subst IsFilledPredicate c.in-Not.is c.requires)))

pub predicate_formula-returns-in_ok-member_formulas-in-Any-clause-meant : goal.predicate_formula-returns-in_ok-member_formulas-in-Any-clause-meant
predicate_formula-returns-in_ok-member_formulas-in-Any-clause-meant t c =
    meant_to _ _ _ _ (ap (λ l. of.Any (map predicate_condition l)) c.as_slice.ensures ∙ sym (ap predicate_condition c.in-Any.is ∙ condition-Any c.in-Any.tests))
    (meant_some _ _ _ c.in_ok-member_formulas-in-Any.ensures.meant)

pub predicate_formula-returns-in_ok-member_formulas-in-All-clause-meant : goal.predicate_formula-returns-in_ok-member_formulas-in-All-clause-meant
predicate_formula-returns-in_ok-member_formulas-in-All-clause-meant t c =
    meant_to _ _ _ _ (ap (λ l. of.All (map predicate_condition l)) c.as_slice-in-All.ensures ∙ sym (ap predicate_condition c.in-All.is ∙ condition-All c.in-All.tests))
    (meant_every _ _ _ c.in_ok-member_formulas-in-All.ensures.meant)

pub member_formulas-predicate_formula-requires : goal.member_formulas-predicate_formula-requires
member_formulas-predicate_formula-requires t c =
    let filled = filled_member c.args.tests.now c.loop-test.test-index c.test-item.result c.loop-test-test.true c.test-item.is c.requires in
    let m = at_most the_size c.args.tests.now c.loop-test.test-index c.test-item.result c.loop-test-test.true in
    let e = ap the_size c.test-item.is in
    (omega (arith, m, e, c.decreases), filled)

pub member_formulas-loop-test-preserved : goal.member_formulas-loop-test-preserved
member_formulas-loop-test-preserved t c =
    let i = c.loop-test.invariant in
    record {
      kept = grows_on _ _ _ i.kept c.predicate_formula.ensures.kept;
      meant = meant_more predicate_condition _ _ _ _ _ c.args.tests.now c.loop-test.test-index c.test-item.result c.loop-test-test.true c.test-item.is c.predicate_formula.ensures.kept i.meant
          c.in_ok-predicate_formula.ensures.meant c.in_ok-push.ensures.ok;
    }
