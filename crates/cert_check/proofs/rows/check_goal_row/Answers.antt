use Rattle.goal_form.proofs.WaitingLemmas.{met, fails}
use Rattle.cert_check.proofs.RowLaws.{row_told, row_sound, row_elsewhere}
use Rattle.cert_check.proofs.rows.check_goal_row.Goals as goal

pub returns-then-not-same-clause-exact : goal.returns-then-not-same-clause-exact
returns-then-not-same-clause-exact c =
    row_elsewhere c.args.config.now c.args.route c.args.row.now c.route_at.result.now c.route_at.ensures (fails c.same.result c.if-not-same.true c.same.ensures)

pub returns-clause-exact : goal.returns-clause-exact
returns-clause-exact c =
    row_told c.args.config.now c.args.route c.args.goal.now c.requires.lawful c.requires.goal c.args.row.now c.route_at.result.now c.check_body.result c.route_at.ensures
    (met c.same.result c.if-not-same.false c.same.ensures) c.check_body.ensures

pub returns-clause-sound : goal.returns-clause-sound
returns-clause-sound c =
    λ nodes s. row_sound c.args.config.now c.args.route c.args.goal.now c.requires.lawful c.requires.goal c.args.row.now nodes c.check_body.result s c.check_body.ensures
