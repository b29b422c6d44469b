use Rattle.std.proofs.Common.{◌≡◌, take, map}
use Rattle.serde_json.specs.View.{view}
use Rattle.test_run.specs.Lines.{failure_value}
use Rattle.test_run.proofs.lines.failure_values.Given as goal

abbrev pub invariant-loop-failure : goal.invariant-loop-failure
invariant-loop-failure l = map view l.values.items ≡ map failure_value (take l.failure-index l.failures)
