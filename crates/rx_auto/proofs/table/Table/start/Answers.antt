use Rattle.std.proofs.Common.{◌≡◌, ◌<◌, length, ◌∙◌, ap, arith}
use Rattle.rx_auto.proofs.Tables.{begun, tails_long}
use Rattle.rx_auto.proofs.table.Table.start.Goals as goal

pub put-requires : goal.put-requires
put-requires c = omega (arith, c.in_ok-row.ensures.room, c.len.ensures, c.self.invariant.table.some)

pub returns : goal.returns
returns c =
    let n : length c.self.inside.spots.items ≡ length c.args.self.now.terms =
    omega (arith, ap (λ t. length t.terms) c.self.view_is, tails_long c.self.inside.dag c.self.inside.spots.items) in
    let h : 0 < length c.args.self.now.terms = omega (arith, n, c.self.invariant.table.some) in (
      omega (arith, n, c.put.ensures.long, c.in_ok-row.ensures.room, c.len.ensures),
      c.in_ok-new.ensures.room ∙ c.room.ensures.room,
      begun c.args.self.now.terms c.in_ok-row.row.marks c.put.new.self.marks h c.in_ok-row.ensures.none c.put.ensures.marks,
    )
