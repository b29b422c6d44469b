use Rattle.std.proofs.Common.{◌≡◌, ◌≤◌, take, flat_map, count_by, not}
use Rattle.outside.specs.Written.{Appends}
use Rattle.route_scan.specs.Tests.{most_room}
use Rattle.test_run.specs.Lines.{shown_line}
use Rattle.test_run.specs.Verdicts.{passes, choices}
use Rattle.check_core.proofs.verdicts.write_tests.Given as goal

abbrev pub invariant-loop-test : goal.invariant-loop-test
invariant-loop-test g l = record {
  lines : Appends (g.K.Sink.state l.initial.out).written (g.K.Sink.state l.out).written (flat_map (shown_line l.only_failures l.config) (take l.test-index l.tests));
  failed : l.failed ≡ count_by (λ t. not (passes l.config t)) (take l.test-index l.tests);
  few : l.failed ≤ l.test-index;
  chosen : l.choices.items ≡ choices l.config (take l.test-index l.tests);
  room : most_room l.rules ≤ l.scratch;
  walks : l.scan.room ≤ l.scratch;
  count : (g.K.Sink.state l.out).faults ≡ (g.K.Sink.state l.initial.out).faults;
}
