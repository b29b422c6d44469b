use Rattle.std.proofs.Common.{List, ap, ◌∙◌}
use Rattle.text_base.specs.Asked.{Head}
use Rattle.text_base.specs.Seen.{values, joined_values}
use Rattle.req_model.proofs.Valid.{valid-from_no_bad}
use Rattle.req_model.proofs.request.checked.Goals as goal

pub returns-in-Ok-clause-valid : goal.returns-in-Ok-clause-valid
returns-in-Ok-clause-valid c = valid-from_no_bad c.args.parts.now c.in_ok-check.ensures.ok

pub returns-in-Ok-clause-joined : goal.returns-in-Ok-clause-joined
returns-in-Ok-clause-joined c = λ name u. c.in-Ok.ensures name u ∙ ap (λ (hs : List Head). joined_values (values name hs)) c.as_slice.ensures
