use Rattle.rx_parse.proofs.Exact.{row_goes, row_ends}
use Rattle.rx_parse.proofs.made.row.Goals as goal

pub loop-piece-preserved : goal.loop-piece-preserved
loop-piece-preserved c =
    row_goes c.args.pieces c.loop-piece.pieces _ c.in-Some-pop.piece c.loop-piece.made c.in_ok-made.made c.loop-piece.invariant c.in-Some-pop.ensures c.in_ok-made.ensures

pub returns : goal.returns
returns c = row_ends c.args.pieces c.loop-piece.pieces c.loop-piece.made c.loop-piece.invariant c.in_default-pop.ensures.0
