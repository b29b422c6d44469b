use Rattle.std.proofs.Common.{◌≡◌, ◌∙◌, ap, List}
use Rattle.serde_json.specs.View.{view}
use Rattle.text_base.specs.Asked.{Bytes}
use Rattle.test_run.specs.Lines.{verdict_value}
use Rattle.test_run.specs.declared.verdicts.Failure.{Failure}
use Rattle.test_run.proofs.Floats.{verdict_lined}
use Rattle.test_run.proofs.lines.test_line.Goals as goal

pub returns : goal.returns
returns c =
    let name = c.args.test.now.name in
    let fs : List Failure = c.args.judged.now.failures in
    let e : view c.in_ok-value.value ≡ verdict_value name fs =
    c.in_ok-value.ensures ∙ ap (λ (t : Bytes). verdict_value t c.as_slice.result.now) c.as_str.ensures ∙ ap (verdict_value name) c.as_slice.ensures in
    verdict_lined (λ line. line.items) c.line_of.result (view c.in_ok-value.value) name fs e c.line_of.ensures
