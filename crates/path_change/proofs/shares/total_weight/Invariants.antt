use Rattle.std.proofs.Common.{◌≡◌, ◌*◌, ◌≤◌}
use Rattle.cfg_types.specs.Shares.{weight_before}
use Rattle.path_change.proofs.shares.total_weight.Given as goal

abbrev pub invariant-loop-share : goal.invariant-loop-share
invariant-loop-share l = (l.total ≡ weight_before l.shares l.share-index) × (l.total ≤ l.share-index * 4294967295)
