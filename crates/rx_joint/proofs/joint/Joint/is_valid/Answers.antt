use Rattle.std.proofs.Common.{sym, ap, subst, arith}
use Rattle.rx_term.specs.Language.{Has}
use Rattle.rx_auto.proofs.Likeness.{Has_get}
use Rattle.rx_joint.proofs.joint.Joint.is_valid.Goals as goal

pub matches-requires : goal.matches-requires
matches-requires c =
    let tables = c.self.inside.tables.items in
    let r = c.self.invariant.roomy c.index.result.now (subst (Has tables) (sym c.index.ensures) (Has_get tables 0 c.index.result.now c.self.invariant.some)) in
    omega (arith, r, c.requires, ap (λ j. j.room) c.self.view_is)
