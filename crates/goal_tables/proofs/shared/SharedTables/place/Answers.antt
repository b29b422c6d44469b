use Rattle.std.proofs.Common.{sym, subst}
use Rattle.goal_tables.specs.Fields.{IsPlaced, Extends}
use Rattle.goal_tables.proofs.Requiring.{place_at}
use Rattle.goal_tables.proofs.Found.{shared_more, shared_push}
use Rattle.goal_tables.proofs.shared.SharedTables.place.Goals as goal

pub returns-in-Some-clause-placed : goal.returns-in-Some-clause-placed
returns-in-Some-clause-placed c =
    let i = c.self.inside in
    let p = place_at i.atoms i.places.items i.fields.items c.in-Some.number c.args.atom.now c.index.result.now c.self.invariant.placed c.in-Some.ensures.found in
    subst (λ es. IsPlaced es c.args.atom.now c.index.result.now) c.self.view_is (subst (IsPlaced i.fields.items c.args.atom.now) (sym c.index.ensures) p)

pub invariant_of-self : goal.invariant_of-self
invariant_of-self c =
    let i = c.self.inside in
    shared_more i.fields.items c.add_atom.new.fields.items i.atoms i.places.items c.self.invariant c.in_err-place.ensures.fields c.in_err-place.ensures.extends

pub returns-in_err-place-clause-extends : goal.returns-in_err-place-clause-extends
returns-in_err-place-clause-extends c = subst (λ es. Extends es c.add_atom.new.fields.items) c.self.view_is c.in_err-place.ensures.extends

pub invariant_of-self-in_err-atom : goal.invariant_of-self-in_err-atom
invariant_of-self-in_err-atom c =
    let i = c.self.inside in
    shared_more i.fields.items c.add_atom.new.fields.items i.atoms i.places.items c.self.invariant c.in_ok-place.ensures.fields c.in_ok-place.ensures.extends

pub returns-in_err-atom-clause-extends : goal.returns-in_err-atom-clause-extends
returns-in_err-atom-clause-extends c = subst (λ es. Extends es c.add_atom.new.fields.items) c.self.view_is c.in_ok-place.ensures.extends

pub invariant_of-self-in_err-keep : goal.invariant_of-self-in_err-keep
invariant_of-self-in_err-keep c =
    let i = c.self.inside in
    rw (c.in_err-keep.ensures.atoms_kept, c.in_err-keep.ensures.places_kept)
    (shared_more i.fields.items c.add_atom.new.fields.items i.atoms i.places.items c.self.invariant c.in_ok-place.ensures.fields c.in_ok-place.ensures.extends)

pub returns-in_err-keep-clause-extends : goal.returns-in_err-keep-clause-extends
returns-in_err-keep-clause-extends c = subst (λ es. Extends es c.add_atom.new.fields.items) c.self.view_is c.in_ok-place.ensures.extends

pub invariant_of-self-2 : goal.invariant_of-self-2
invariant_of-self-2 c =
    let i = c.self.inside in
    rw (c.in_ok-keep.ensures.atoms, c.in_ok-keep.ensures.places, c.in_ok-atom.ensures)
    (shared_push i.fields.items c.add_atom.new.fields.items i.atoms i.places.items c.self.invariant c.in_ok-place.ensures.fields c.in_ok-place.ensures.extends c.args.atom.now c.in_ok-place.place c.in_ok-place.ensures.placed)

pub returns-clause-extends : goal.returns-clause-extends
returns-clause-extends c = subst (λ es. Extends es c.add_atom.new.fields.items) c.self.view_is c.in_ok-place.ensures.extends
