use Rattle.std.proofs.Common.{sym}
use Rattle.path_change.proofs.Picked.{some_picked}
use Rattle.path_change.proofs.shares.pick_share.Goals as goal

pub unreachable-requires : goal.unreachable-requires
unreachable-requires c = some_picked c.args.shares.now c.args.random c.requires.some (sym c.in-None.ensures.picked)
