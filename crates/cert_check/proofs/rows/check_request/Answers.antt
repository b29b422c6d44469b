use Rattle.text_base.specs.Requests.{is_valid}
use Rattle.goal_form.specs.Goals.{is_true_at}
use Rattle.cert_check.proofs.RowLaws.{request_told}
use Rattle.cert_check.proofs.rows.check_request.Goals as goal

pub returns : goal.returns
returns c = request_told (is_valid c.args.request.now) (is_true_at c.args.request.now c.args.goal.now) c.is_true.result c.parts.ensures.valid c.is_true.ensures
