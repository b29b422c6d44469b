use Rattle.std.proofs.Common.{◌≡◌, ◌≤◌, ◌+◌, ◌-◌, List, ℕ, length}
use Rattle.outside.specs.Lines.{AreAhead, line_length}
use Rattle.outside.proofs.lines.Lines.next.Given as goal

abbrev pub invariant-loop-alloc : goal.invariant-loop-alloc
invariant-loop-alloc g l = record {
  taken : l.self.taken ≡ l.initial.self.taken;
  ahead : AreAhead (g.F.Files.state l.initial.files).told l.name l.self;
  seen : l.seen ≤ line_length l.self.ahead;
  within : l.seen ≤ length l.self.ahead;
  contents : (g.F.Files.state l.files).told ≡ (g.F.Files.state l.initial.files).told;
  names : (other : List ℕ) → (g.F.Files.state l.files).admits other ≡ (g.F.Files.state l.initial.files).admits other;
  count : (g.F.Files.state l.files).faults ≡ (g.F.Files.state l.initial.files).faults;
}

abbrev pub decreases-loop-alloc : goal.decreases-loop-alloc
decreases-loop-alloc g l = l.limit + 1 - length l.self.ahead
