use Rattle.goal_form.proofs.WaitingLemmas.{met, fails}
use Rattle.cert_check.proofs.RowLaws.{budgets_refused, budgets_met}
use Rattle.cert_check.proofs.rows.check_body.Goals as goal

pub returns-in-Reached : goal.returns-in-Reached
returns-in-Reached c = rw c.in-Reached.is c.check_request.ensures

pub returns-in-Refuted : goal.returns-in-Refuted
returns-in-Refuted c = let told = rw c.as_slice.ensures at c.nodes_refute.ensures.exact in rw c.in-Refuted.is told

pub returns-then-not-are_budgets : goal.returns-then-not-are_budgets
returns-then-not-are_budgets c =
    rw c.in-Undecided.is (budgets_refused _ c.in-Undecided.splits c.in-Undecided.states (fails c.are_budgets.result c.if-not-are_budgets.true c.are_budgets.ensures))

pub returns-else-not-are_budgets : goal.returns-else-not-are_budgets
returns-else-not-are_budgets c =
    let told = rw c.as_slice-in-Undecided.ensures at c.are_unfinished.ensures in
    rw c.in-Undecided.is (budgets_met _ c.in-Undecided.splits c.in-Undecided.states c.are_unfinished.result (met c.are_budgets.result c.if-not-are_budgets.false c.are_budgets.ensures) told)
