use Rattle.std.proofs.Common.{◌≡◌, length, refl, subst, rules}
use Rattle.rx_auto.specs.Parts.{IsPiece}
use Rattle.rx_auto.proofs.Tables.{laid}
use Rattle.rx_auto.proofs.parts.Parts.of.Goals as goal

pub returns : goal.returns
returns c =
    let n : length c.push.new.self.items ≡ 1 = search rules in
    let i = subst (λ z. IsPiece c.fill.new.self.dag c.fill.new.self.ways c.fill.new.self.spots.items z (length c.fill.new.self.spots.items) c.in_ok-piece.piece c.args.term.now) n c.in_ok-piece.ensures.piece in
    laid _ _ _ _ _ i _ refl
