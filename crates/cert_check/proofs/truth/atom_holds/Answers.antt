use Rattle.std.proofs.Common.{◌≡◌, Some, slice_get, sym, ap, ◌∙◌}
use Rattle.text_base.specs.Seen.{seen}
use Rattle.goal_form.specs.declared.atom.Atom.TheVariants.{Within}
use Rattle.cert_check.proofs.Holding.{within_is}
use Rattle.cert_check.proofs.truth.atom_holds.Goals as goal

pub returns-in-Some-clause-answer : goal.returns-in-Some-clause-answer
returns-in-Some-clause-answer c =
    let w = c.in-Some-Within in
    let here : slice_get c.args.atoms.now c.args.number ≡ Some (Within w.field w.field-0-1 w.field-0-2) = sym w.ensures ∙ ap Some w.field-0-is in
    let there = ap (λ atoms. slice_get atoms c.args.number) c.requires.atoms ∙ here in
    within_is (seen c.args.request.now) c.args.atoms.now c.args.number w.field w.field-0-1 w.field-0-2 c.in-Some.text.now c.holds.result here
    (sym c.in-Some.ensures) (c.holds.ensures.is_in w.field w.field-0-1 w.field-0-2 there)
