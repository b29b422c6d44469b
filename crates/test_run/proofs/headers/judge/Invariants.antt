use Rattle.std.proofs.Common.{◌≡◌, ◌++◌, take}
use Rattle.std.specs.Prelude.{All}
use Rattle.test_run.specs.HeaderTexts.{text_seen}
use Rattle.test_run.specs.Lines.{IsNamed}
use Rattle.test_run.specs.Verdicts.{header_failures}
use Rattle.test_run.proofs.headers.judge.Given as goal

abbrev pub invariant-loop-index : goal.invariant-loop-index
invariant-loop-index l = record {
  more : l.failures ≡ l.fn.failures ++ header_failures l.field (text_seen l.looked) (take l.index l.rules);
  named : All IsNamed l.failures;
}
