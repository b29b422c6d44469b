use Rattle.std.proofs.Common.{refl, sym, subst}
use Rattle.std.proofs.lemmas.Option.{slice_get_read}
use Rattle.goal_tables.specs.Tables.{NamesField}
use Rattle.goal_tables.proofs.Found.{names_at, silent_at}
use Rattle.goal_tables.proofs.tables.Tables.term_at.Goals as goal

pub returns-then-place-at-clause-some : goal.returns-then-place-at-clause-some
returns-then-place-at-clause-some c =
    let i = c.self.inside in
    let read = slice_get_read c.deref.result.now _ c.args.number c.in_ok-place.place.now refl c.in_ok-place.ensures.lookup.3.0 c.in_ok-place.ensures.lookup.1 in
    let here = rw c.deref.ensures.value at read in
    subst (λ m. NamesField m.atoms m.fields c.args.number c.args.at c.in_ok-place.place.now.term) c.self.view_is
    (names_at i.atoms.now i.fields.now i.places.items c.self.invariant.placed c.args.number c.args.at c.in_ok-place.place.now here c.if-place-at.true)

pub returns-else-place-at-clause-none : goal.returns-else-place-at-clause-none
returns-else-place-at-clause-none c =
    let i = c.self.inside in
    let read = slice_get_read c.deref.result.now _ c.args.number c.in_ok-place.place.now refl c.in_ok-place.ensures.lookup.3.0 c.in_ok-place.ensures.lookup.1 in
    let here = rw c.deref.ensures.value at read in
    rw (sym c.self.view_is)
    (silent_at i.atoms.now i.fields.now i.places.items c.self.invariant.placed c.args.number c.args.at c.in_ok-place.place.now here c.self.invariant.formed c.if-place-at.false)
