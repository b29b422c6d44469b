use Rattle.std.proofs.Common.{◌≡◌, ◌≤◌, ◌+◌, ◌-◌, List, ℕ}
use Rattle.std.specs.Prelude.{vec_len}
use Rattle.outside.specs.Contents.{BeginsWith}
use Rattle.outside.proofs.whole.read_pieces.Given as goal

abbrev pub invariant-loop-bytes : goal.invariant-loop-bytes
invariant-loop-bytes g l = record {
  front : BeginsWith (g.F.Files.state l.initial.files).told l.name l.bytes.items;
  within : vec_len l.bytes ≤ l.limit + 1;
  contents : (g.F.Files.state l.files).told ≡ (g.F.Files.state l.initial.files).told;
  names : (other : List ℕ) → (g.F.Files.state l.files).admits other ≡ (g.F.Files.state l.initial.files).admits other;
  count : (g.F.Files.state l.files).faults ≡ (g.F.Files.state l.initial.files).faults;
}

abbrev pub decreases-loop-bytes : goal.decreases-loop-bytes
decreases-loop-bytes g l = l.limit + 1 - vec_len l.bytes
