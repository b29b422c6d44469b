use Rattle.std.proofs.Common.{Some, ap, ◌∙◌}
use Rattle.std.specs.Prelude.{option_map}
use Rattle.std.specs.Option.{option_copied}
use Rattle.text_base.specs.Asked.{Head}
use Rattle.route_answer.proofs.FirstValues.{first-find}
use Rattle.route_answer.proofs.hosts.first_header.Goals as goal

pub returns-in_err-head : goal.returns-in_err-head
returns-in_err-head c =
    ap option_copied c.from_residual.ensures
    ∙ ap (option_map (λ (h : Head). h.1)) c.in_err-head.ensures
    ∙ first-find c.args.name.now c.args.heads.now

pub returns : goal.returns
returns c =
    ap Some c.as_slice.ensures
    ∙ ap (option_map (λ (h : Head). h.1)) c.in_ok-head.ensures
    ∙ first-find c.args.name.now c.args.heads.now
