use Rattle.std.proofs.Common.{◌≡◌}
use Rattle.goal_build.specs.Kept.{AreKept}
use Rattle.check_core.proofs.RowsWritten.{Written}
use Rattle.check_core.proofs.route_rows.write_rows.Given as goal

abbrev pub invariant-loop-route : goal.invariant-loop-route
invariant-loop-route g l = record {
  written : Written l.config l.budgets (g.K.Sink.state l.initial.out).written (g.K.Sink.state l.out).written l.route l.counts;
  kept : AreKept l.config l.goals;
  count : (g.K.Sink.state l.out).faults ≡ (g.K.Sink.state l.initial.out).faults;
}
