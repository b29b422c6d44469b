use Rattle.std.proofs.Common.{◌≡◌, ◌<◌, ◌+◌, length, true, false, sym, ap, ◌∙◌, rules, arith}
use Rattle.std.proofs.lemmas.Grind.{common_steps}
use Rattle.test_run.specs.Lines.{shown_line}
use Rattle.text_base.proofs.Lists.{flat_map_at, flat_map_through}
use Rattle.outside.proofs.Parts.{wrote_handed}
use Rattle.check_core.proofs.LineEnds.{appends_on, front_on, front_of_lines, no_room}
use Rattle.check_core.proofs.Passed.{count_failed, count_passed}
use Rattle.check_core.proofs.verdicts.write_tests.Goals.{then-not-passed, else-not-passed}
use Rattle.check_core.proofs.verdicts.write_tests.Goals as goal

pub returns-in_err-passed-clause-lines : goal.returns-in_err-passed-clause-lines
returns-in_err-passed-clause-lines g c =
    let lt : c.loop-test.test-index < length c.args.tests.now = search rules in
    let inv = c.loop-test.invariant in
    let wrote = c.in_err-passed.ensures.line in
    wrote_handed _ _ _ _ _ _ c.from_residual-in_err-passed.ensures
    (front_on _ _ _ _ _ _ _ inv.lines wrote.err (flat_map_at (shown_line c.args.only_failures c.args.config.now) c.args.tests.now c.loop-test.test-index c.test-item.result lt c.test-item.is))
    inv.count wrote.cause

pub returns-in_err-push-clause-lines : goal.returns-in_err-push-clause-lines
returns-in_err-push-clause-lines g c =
    no_room _ _ _ _ c.from_residual.ensures c.loop-test.invariant.count
    (front_of_lines (shown_line c.args.only_failures c.args.config.now) c.args.tests.now c.loop-test.test-index _ _ c.loop-test.invariant.lines)

pub loop-test-preserved : goal.loop-test-preserved
loop-test-preserved g c =
    let lt : c.loop-test.test-index < length c.args.tests.now = search rules in
    let inv = c.loop-test.invariant in
    let line = shown_line c.args.only_failures c.args.config.now in
    record {
      lines = rw (flat_map_through line c.args.tests.now c.loop-test.test-index c.test-item.result lt c.test-item.is) (appends_on _ _ _ _ _ inv.lines c.in_ok-passed.ensures.line.ok);
      failed = elim c.if-not-passed.branch [
        | then-not-passed w ↦
            let fails : c.in_ok-passed.passed ≡ false = search rules in
            w.failed-is ∙ (ap (λ n. n + 1) inv.failed ∙ sym (count_failed c.args.config.now c.args.tests.now c.loop-test.test-index c.test-item.result lt c.test-item.is (sym c.in_ok-passed.ensures.passes ∙ fails)))
        | else-not-passed w ↦
            let holds : c.in_ok-passed.passed ≡ true = search rules in
            w.failed-is ∙ (inv.failed ∙ sym (count_passed c.args.config.now c.args.tests.now c.loop-test.test-index c.test-item.result lt c.test-item.is (sym c.in_ok-passed.ensures.passes ∙ holds)))
      ];
      few = grind (arith, common_steps);
      chosen = grind (arith, common_steps);
      room = search rules;
      walks = search rules;
      count = search rules;
    }
