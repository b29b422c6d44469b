use Rattle.std.proofs.Common.{◌<◌, ◌+◌, ◌↔◌, length, sym, ◌∙◌, ap, subst, arith, IsTrue}
use Rattle.rx_term.specs.Language.{Has, In}
use Rattle.rx_auto.proofs.Likeness.{Has_get}
use Rattle.rx_auto.specs.Node.{term_at}
use Rattle.rx_joint.proofs.Building.{owns_long, term_found}
use Rattle.rx_joint.proofs.joint.Joint.has.Goals as goal

pub matches-requires : goal.matches-requires
matches-requires c =
    let tables = c.self.inside.tables.items in
    let l : c.args.number + 1 < length tables = omega (arith, c.requires.number, ap (λ j. length j.terms) c.self.view_is, owns_long tables c.self.invariant.some) in
    let r = c.self.invariant.roomy c.index.result.now (subst (Has tables) (sym c.index.ensures) (Has_get tables (c.args.number + 1) c.index.result.now l)) in
    omega (arith, r, c.requires.room, ap (λ j. j.room) c.self.view_is)

pub returns-clause-is_in : goal.returns-clause-is_in
returns-clause-is_in c =
    let tables = c.self.inside.tables.items in
    let l : c.args.number < length c.args.self.now.terms = c.requires.number in
    let e = term_found tables c.args.number c.index.result.now c.index.result.now c.self.invariant.some (omega (arith, l, ap (λ j. length j.terms) c.self.view_is)) c.index.ensures in
    subst (λ t. IsTrue c.matches.result ↔ In c.args.text.now t) (e ∙ ap (λ j. term_at j.terms c.args.number) c.self.view_is) c.matches.ensures.is_in
