use Rattle.std.proofs.Common.{sym, subst}
use Rattle.goal_tables.specs.Fields.{IsFieldAt}
use Rattle.goal_tables.proofs.Requiring.{required_has}
use Rattle.goal_tables.proofs.tables.Tables.claims.Goals as goal

pub claims_at-requires : goal.claims_at-requires
claims_at-requires c = subst (λ m. IsFieldAt m.fields c.in-Some.at c.args.field.now) c.self.view_is c.in-Some.ensures.some

pub returns-in-None-clause-none : goal.returns-in-None-clause-none
returns-in-None-clause-none c =
    let i = c.self.inside in
    rw (sym c.self.view_is) (λ h. c.in-None.ensures.none (required_has i.atoms.now i.places.items i.fields.now c.self.invariant.placed c.self.invariant.always c.args.field.now c.args.path.now h))
