use Rattle.std.proofs.Common.{◌∙◌, refl}
use Rattle.test_run.specs.Lines.{check_text}
use Rattle.outside.proofs.Parts.{wrote_handed}
use Rattle.check_core.proofs.LineEnds.{front_first, no_room, wrote_ok, wrote_err}
use Rattle.check_core.proofs.SumLines.{sums_line}
use Rattle.check_core.proofs.verdicts.write_verdicts.Goals as goal

pub returns-in_err-verdicts-clause-lines : goal.returns-in_err-verdicts-clause-lines
unfolding check_text
returns-in_err-verdicts-clause-lines g c =
    let w = c.in_err-verdicts.ensures.lines in
    wrote_handed _ _ _ _ _ _ c.from_residual.ensures (front_first _ _ _ _ w.err) refl w.cause

pub returns-in_err-sums-clause-lines : goal.returns-in_err-sums-clause-lines
unfolding check_text
returns-in_err-sums-clause-lines g c =
    let w = c.in_ok-verdicts.ensures.lines in
    no_room _ _ _ _ c.from_residual-in_err-sums.ensures w.cause.kept (_, (_, refl), w.ok)

pub returns-in_err-line-clause-lines : goal.returns-in_err-line-clause-lines
unfolding check_text
returns-in_err-line-clause-lines g c =
    let w = c.in_ok-verdicts.ensures.lines in
    no_room _ _ _ _ c.from_residual-in_err-line.ensures w.cause.kept (_, (_, refl), w.ok)

pub returns-in_err-write_whole-clause-lines : goal.returns-in_err-write_whole-clause-lines
unfolding check_text
returns-in_err-write_whole-clause-lines g c =
    let text = c.deref.ensures.value ∙ (c.in_ok-line.ensures ∙ sums_line c.args.config.now c.args.tests.now c.in_ok-sums.sums c.in_ok-sums.ensures) in
    wrote_err _ _ _ _ _ _ _ _ _ c.from_residual-in_err-write_whole.ensures text c.in_ok-verdicts.ensures.lines c.in_err-write_whole.ensures

pub returns-clause-lines : goal.returns-clause-lines
unfolding check_text
returns-clause-lines g c =
    let text = c.deref.ensures.value ∙ (c.in_ok-line.ensures ∙ sums_line c.args.config.now c.args.tests.now c.in_ok-sums.sums c.in_ok-sums.ensures) in
    wrote_ok _ _ _ _ _ _ _ _ _ text c.in_ok-verdicts.ensures.lines c.in_ok-write_whole.ensures
