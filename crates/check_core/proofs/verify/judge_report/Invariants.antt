use Rattle.std.proofs.Common.{◌≡◌, List, ℕ}
use Rattle.outside.specs.Lines.{AreAhead}
use Rattle.goal_build.specs.Kept.{AreKept}
use Rattle.check_core.proofs.Judged.{Judging}
use Rattle.check_core.proofs.verify.judge_report.Given as goal

abbrev pub invariant-loop-route : goal.invariant-loop-route
invariant-loop-route g l = record {
  judged : Judging l.config (g.F.Files.state l.initial.files).told l.name l.route l.lines.taken;
  ahead : AreAhead (g.F.Files.state l.initial.files).told l.name l.lines;
  kept : AreKept l.config l.goals;
  contents : (g.F.Files.state l.files).told ≡ (g.F.Files.state l.initial.files).told;
  names : (other : List ℕ) → (g.F.Files.state l.files).admits other ≡ (g.F.Files.state l.initial.files).admits other;
  count : (g.F.Files.state l.files).faults ≡ (g.F.Files.state l.initial.files).faults;
}
