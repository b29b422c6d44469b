use Rattle.std.proofs.Common.{◌≡◌, ◌+◌, ◌≤◌, drop}
use Rattle.cfg_types.specs.Shares.{weight_of}
use Rattle.read_action.proofs.clusters.sum_of.Given as goal

abbrev pub invariant-loop-share : goal.invariant-loop-share
invariant-loop-share l = record {
  rest : l.sum + weight_of (drop l.share-index l.shares) ≡ weight_of l.shares;
  fits : l.sum ≤ 4294967295;
}
