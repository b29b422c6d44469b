use Rattle.std.proofs.Common.{Ok, sym, ap, ◌∙◌}
use Rattle.cert_rows.specs.Requests.{where_valid}
use Rattle.text_base.proofs.Valid.{valid_without_bad_part}
use Rattle.cert_rows.proofs.request.valid_request.Goals as goal

pub returns-in-Ok : goal.returns-in-Ok
returns-in-Ok c = ap (where_valid c.args.place.now c.args.parts) ((valid_without_bad_part c.args.parts).1 c.in-Ok.ensures.valid) ∙ ap Ok (sym c.in-Ok.ensures.same)
