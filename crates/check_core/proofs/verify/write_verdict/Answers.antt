use Rattle.std.proofs.Common.{◌∙◌, ap}
use Rattle.serde_json.specs.Written.{has_float}
use Rattle.test_run.specs.Lines.{line_of}
use Rattle.check_core.specs.Verdicts.{verdict_line}
use Rattle.check_core.proofs.Judged.{no_float}
use Rattle.check_core.proofs.verify.write_verdict.Goals as goal

pub returns : goal.returns
unfolding verdict_line
returns g c =
    let plain = ap has_float c.in_ok-value.ensures ∙ no_float c.args.verdict in
    let text = c.deref.ensures.value ∙ (c.in_ok-line.ensures plain ∙ ap line_of c.in_ok-value.ensures) in
    rw text at c.write_whole.ensures
