use Rattle.std.proofs.Common.{ap, ◌∙◌, map, take_all, arith}
use Rattle.cfg_types.specs.Trees.{predicate_holds}
use Rattle.match_tree.specs.Checks.{check_holds}
use Rattle.match_tree.proofs.Checked.{same-Single, same-Any, same-All, same-Not, one_more}
use Rattle.match_tree.proofs.build.+check.Goals as goal

pub check_of-returns-in_ok-test-in-Single : goal.check_of-returns-in_ok-test-in-Single
check_of-returns-in_ok-test-in-Single g t c = λ q.
    rw c.in-Single.is (same-Single g.I.Input.sees q c.in_ok-made-in-Single.made c.in_ok-test-in-Single.test c.in-Single.rule c.in-Single.text
    c.in_ok-test-in-Single.ensures
    (c.in_ok-made-in-Single.ensures q))

pub check_of-returns-in_ok-members_of-in-Any : goal.check_of-returns-in_ok-members_of-in-Any
check_of-returns-in_ok-members_of-in-Any g t c = λ q.
    rw c.in-Any.is (same-Any g.I.Input.sees q c.in_ok-members_of-in-Any.field-0 c.in-Any.tests (c.in_ok-members_of-in-Any.ensures q ∙ ap (map (predicate_holds q)) c.as_slice.ensures))

pub check_of-returns-in_ok-members_of-in-All : goal.check_of-returns-in_ok-members_of-in-All
check_of-returns-in_ok-members_of-in-All g t c = λ q.
    rw c.in-All.is (same-All g.I.Input.sees q c.in_ok-members_of-in-All.field-0 c.in-All.tests (c.in_ok-members_of-in-All.ensures q ∙ ap (map (predicate_holds q)) c.as_slice-in-All.ensures))

pub check_of-returns-in_ok-new-in-Not : goal.check_of-returns-in_ok-new-in-Not
check_of-returns-in_ok-new-in-Not g t c = λ q.
    rw (c.in-Not.is, c.in_ok-new-in-Not.ensures) (same-Not g.I.Input.sees q c.in_ok-inner-in-Not.inner c.in-Not.test (c.in_ok-inner-in-Not.ensures q ∙ ap (predicate_holds q) c.get.ensures))

pub members_of-loop-test-preserved : goal.members_of-loop-test-preserved
members_of-loop-test-preserved g t c = λ q.
    one_more (check_holds g.I.Input.sees q) (predicate_holds q) c.loop-test.checks c.push.new.self c.in_ok-check_of.field-0 c.args.tests.now c.loop-test.test-index c.test-item.result
    (c.loop-test.invariant q) c.in_ok-push.ensures.ok (c.in_ok-check_of.ensures q) c.loop-test-test.true c.test-item.is

pub members_of-returns : goal.members_of-returns
members_of-returns g t c = λ q. c.loop-test.invariant q ∙ ap (map (predicate_holds q)) (take_all c.loop-test.test-index c.args.tests.now (omega (arith, c.loop-test-test.false)))
