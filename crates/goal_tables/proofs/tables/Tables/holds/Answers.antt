use Rattle.std.proofs.Common.{◌≡◌, ◌≤◌, ◌↔◌, IsTrue, Some, None, slice_get, refl, sym, ap, subst, ◌∙◌, arith}
use Rattle.std.proofs.lemmas.Option.{slice_get_within, slice_get_read, slice_get_past, get_or_from_slice_get}
use Rattle.rx_term.specs.Language.{In}
use Rattle.rx_term.specs.declared.terms.Term.{Nothing}
use Rattle.goal_form.specs.declared.atom.Atom.TheVariants.{Within}
use Rattle.goal_tables.specs.Fields.{IsPlaced}
use Rattle.goal_tables.proofs.Requiring.{place_at}
use Rattle.goal_tables.proofs.Places.{one_place}
use Rattle.goal_tables.proofs.Found.{term_placed, same_within}
use Rattle.goal_tables.proofs.tables.Tables.holds.Goals as goal

pub has-requires-clause-number : goal.has-requires-clause-number
has-requires-clause-number c =
    let i = c.self.inside in
    let w = c.in-Some-Within in
    let here = sym w.ensures ∙ ap Some w.field-0-is in
    let p = c.index.result.now in
    let placed = subst (IsPlaced i.fields.now (Within w.field-0-0 w.field-0-1 w.field-0-2)) (sym c.index.ensures) (place_at i.atoms.now i.places.items i.fields.now c.args.number _ p c.self.invariant.placed here) in
    slice_get_within _ _ _ (term_placed i.fields.now p w.field-0-0 w.field-0-1 w.field-0-2 placed c.in-Some.entry.now (slice_get_read c.self.inside.fields.now _ c.index.result.now.field c.in-Some.entry.now refl c.in-Some.ensures.lookup.3.0 c.in-Some.ensures.lookup.1))

pub has-requires-clause-room : goal.has-requires-clause-room
has-requires-clause-room c =
    let low : c.in-Some.entry.now.joint.room ≤ c.self.inside.room = c.self.invariant.roomy c.index.result.now.field c.in-Some.entry.now (slice_get_read c.self.inside.fields.now _ c.index.result.now.field c.in-Some.entry.now refl c.in-Some.ensures.lookup.3.0 c.in-Some.ensures.lookup.1) in
    let high : c.self.inside.room ≤ c.args.scratch.now = subst (λ m. m.room ≤ c.args.scratch.now) (sym c.self.view_is) c.requires in
    omega arith

pub returns-in-Some-clause-is_in : goal.returns-in-Some-clause-is_in
returns-in-Some-clause-is_in c = λ f term user e.
    let i = c.self.inside in
    let w = c.in-Some-Within in
    let here = sym w.ensures ∙ ap Some w.field-0-is in
    let p = c.index.result.now in
    let placed = subst (IsPlaced i.fields.now (Within w.field-0-0 w.field-0-1 w.field-0-2)) (sym c.index.ensures) (place_at i.atoms.now i.places.items i.fields.now c.args.number _ p c.self.invariant.placed here) in
    let own = term_placed i.fields.now p w.field-0-0 w.field-0-1 w.field-0-2 placed c.in-Some.entry.now (slice_get_read c.self.inside.fields.now _ c.index.result.now.field c.in-Some.entry.now refl c.in-Some.ensures.lookup.3.0 c.in-Some.ensures.lookup.1) in
    let there : slice_get i.atoms.now c.args.number ≡ Some (Within f term user) = subst (λ m. slice_get m.atoms c.args.number ≡ Some (Within f term user)) (sym c.self.view_is) e in
    let same = same_within (one_place i.atoms.now c.args.number _ _ here there) in
    subst (λ x. IsTrue c.has.result ↔ In c.args.text.now x) (get_or_from_slice_get c.in-Some.entry.now.joint.terms p.term w.field-0-1 Nothing own ∙ same) c.has.ensures.is_in

pub returns-in-None-clause-is_in : goal.returns-in-None-clause-is_in
returns-in-None-clause-is_in c = λ f term user e.
    let i = c.self.inside in
    let w = c.in-Some-Within in
    let here = sym w.ensures ∙ ap Some w.field-0-is in
    let p = c.index.result.now in
    let placed = subst (IsPlaced i.fields.now (Within w.field-0-0 w.field-0-1 w.field-0-2)) (sym c.index.ensures) (place_at i.atoms.now i.places.items i.fields.now c.args.number _ p c.self.invariant.placed here) in
    let there : slice_get i.fields.now p.field ≡ Some placed.entry = placed.there in
    let none : slice_get i.fields.now p.field ≡ None = slice_get_past i.fields.now p.field c.in-None.ensures.lookup.3 in
    absurd (never there none)
  where
    never : {A : Type 0} {o : Rattle.std.specs.declared.option.Option.Option A} {x : A} → o ≡ Some x → o ≡ None → ⊥
    never a b = cc
