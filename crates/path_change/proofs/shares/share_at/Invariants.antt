use Rattle.std.proofs.Common.{◌≡◌, ℕ, ◌<◌, ◌≤◌, false}
use Rattle.cfg_types.specs.Shares.{weight_before, falls_to}
use Rattle.path_change.proofs.shares.share_at.Given as goal

abbrev pub invariant-loop-at : goal.invariant-loop-at
invariant-loop-at l = record {
  through : l.through ≡ weight_before l.shares l.at;
  behind : l.through ≤ l.value;
  passed : (k : ℕ) → k < l.at → falls_to l.shares l.value k ≡ false;
}
