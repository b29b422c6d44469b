use Rattle.std.proofs.Common.{◌≡◌, ◌&&◌, false, refl, rules}
use Rattle.test_run.specs.Verdicts.{passes}
use Rattle.check_core.proofs.Passed.{passed, shown}
use Rattle.check_core.proofs.verdicts.judged_line.Goals.{else-only_failures-via-then-only_failures+else-passed, else-only_failures-via-else-only_failures}
use Rattle.check_core.proofs.verdicts.judged_line.Goals as goal

pub returns-clause-line : goal.returns-clause-line
returns-clause-line c =
    let same : c.is_empty-passed.result ≡ passes c.args.config.now c.args.test.now = passed _ _ _ c.is_empty-passed.ensures c.in_ok-judged.ensures.failures in
    let both : (c.args.only_failures && c.is_empty-passed.result) ≡ false = elim c.else-only_failures.branch [
      | else-only_failures-via-then-only_failures+else-passed w ↦ rw (w.if-only_failures.true, w.if-passed.false) refl
      | else-only_failures-via-else-only_failures w ↦ rw w.if-only_failures.false refl
    ] in
    shown c.args.only_failures c.is_empty-passed.result (passes c.args.config.now c.args.test.now) _ _ both same (search rules)

pub returns-clause-passes : goal.returns-clause-passes
returns-clause-passes c = passed _ _ _ c.is_empty-passed.ensures c.in_ok-judged.ensures.failures
