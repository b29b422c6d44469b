use Rattle.std.proofs.Common.{refl}
use Rattle.check_core.proofs.Ends.{either_handed, nothing_ended}
use Rattle.check_core.proofs.CommandEnds.{sample_failed, summary_failed, summary_done}
use Rattle.check_core.proofs.sample.sample.Goals as goal

pub returns-in_err-config-clause-ended : goal.returns-in_err-config-clause-ended
returns-in_err-config-clause-ended g c files = either_handed _ _ _ _ c.from_residual.ensures (nothing_ended _ _ _ files files _)

pub returns-in_err-counts-clause-ended : goal.returns-in_err-counts-clause-ended
returns-in_err-counts-clause-ended g c files =
    either_handed _ _ _ _ c.from_residual-in_err-counts.ensures
    (sample_failed c.args.hosts files _ _ _ _ refl (rw (c.in_ok-config.ensures, c.usual_budgets.ensures) at c.in_err-counts.ensures))

pub returns-in_err-write_summary-clause-ended : goal.returns-in_err-write_summary-clause-ended
returns-in_err-write_summary-clause-ended g c files =
    either_handed _ _ _ _ c.from_residual-in_err-write_summary.ensures
    (summary_failed c.args.hosts _ _ files _ _ _ (rw (c.in_ok-config.ensures, c.usual_budgets.ensures) at c.in_ok-counts.ensures) (rw c.in_ok-config.ensures at c.route_count.ensures) _ _ refl c.in_err-write_summary.ensures)

pub returns-clause-ended : goal.returns-clause-ended
returns-clause-ended g c files =
    summary_done c.args.hosts _ _ files _ _ _ (rw (c.in_ok-config.ensures, c.usual_budgets.ensures) at c.in_ok-counts.ensures) (rw c.in_ok-config.ensures at c.route_count.ensures) _ c.in_ok-write_summary.ensures
