use Rattle.std.proofs.Common.{arith}
use Rattle.head_edit.proofs.MapHeads.{count-heads_of}
use Rattle.head_edit.proofs.maps.add_head.Goals as goal

pub prove-unreachable-requires : goal.prove-unreachable-requires
prove-unreachable-requires c = omega (arith, count-heads_of c.args.map.now, c.len-count.ensures.value)
