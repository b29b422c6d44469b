use Rattle.std.proofs.Common.{add-one}
use Rattle.match_tree.proofs.Least.{within_more}
use Rattle.match_tree.proofs.keys.longest_of.Goals as goal

pub loop-key-preserved : goal.loop-key-preserved
loop-key-preserved c =
    rw (add-one, c.max-most.ensures, c.as_bytes.ensures)
    (within_more c.loop-key.most c.args.keys.now c.loop-key.key-index c.key-item.result c.loop-key-test.true c.key-item.is c.loop-key.invariant)
