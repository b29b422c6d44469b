use Rattle.std.proofs.Common.{◌≡◌, [], ◌∷◌, ◌++◌, length}
use Rattle.rx_parse.specs.Answer.{row_made}
use Rattle.rx_parse.proofs.made.row.Given as goal

abbrev pub invariant-loop-piece : goal.invariant-loop-piece
invariant-loop-piece l = row_made l.fn.pieces ≡ row_made (l.pieces ++ l.made ∷ [])

abbrev pub decreases-loop-piece : goal.decreases-loop-piece
decreases-loop-piece l = length l.pieces
