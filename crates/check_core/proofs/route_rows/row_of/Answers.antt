use Rattle.check_core.proofs.RowsFound.{searched_row}
use Rattle.check_core.proofs.route_rows.row_of.Goals as goal

pub returns-clause-row : goal.returns-clause-row
returns-clause-row c =
    searched_row c.args.config.now c.args.budgets c.args.route _ c.requires.bounds c.in_ok-goal.ensures.goal c.in_ok-goal.ensures.sent
    _ _ _ c.in_ok-finding.ensures.answer c.in_ok-finding.ensures.decides c.route_at.ensures c.in_ok-copy.ensures c.body_of.ensures
