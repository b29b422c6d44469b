use Rattle.std.proofs.Common.{◌≡◌, Some, slice_get, refl, sym, ap, subst}
use Rattle.std.proofs.lemmas.Option.{slice_get_read}
use Rattle.goal_tables.proofs.Growing.{fields_set, extends_set, term_set, terms_left, terms_last}
use Rattle.goal_tables.proofs.fields.add_term.Goals as goal

pub returns-in_err-add-clause-extends : goal.returns-in_err-add-clause-extends
returns-in_err-add-clause-extends c =
    let es = c.args.fields.now.items in
    let d = c.index_mut.result.now in
    let here = slice_get_read es _ c.args.at d refl c.requires.within c.index_mut.ensures.value in
    extends_set es c.requires.fields c.args.at d here c.add.new.self (ap (λ j. j.valid) c.in_err-add.ensures.kept)
    (λ n t e. subst (λ j. slice_get j.terms n ≡ Some t) (sym c.in_err-add.ensures.kept) e)

pub returns-clause-fields : goal.returns-clause-fields
returns-clause-fields c =
    let es = c.args.fields.now.items in
    let d = c.index_mut.result.now in
    let here = slice_get_read es _ c.args.at d refl c.requires.within c.index_mut.ensures.value in
    fields_set es c.requires.fields c.args.at d here c.add.new.self c.in_ok-add.ensures.added.0 (terms_left d.joint.terms _ c.args.term.now c.in_ok-add.ensures.added.1)

pub returns-clause-extends : goal.returns-clause-extends
returns-clause-extends c =
    let es = c.args.fields.now.items in
    let d = c.index_mut.result.now in
    let here = slice_get_read es _ c.args.at d refl c.requires.within c.index_mut.ensures.value in
    extends_set es c.requires.fields c.args.at d here c.add.new.self c.in_ok-add.ensures.added.0 (terms_left d.joint.terms _ c.args.term.now c.in_ok-add.ensures.added.1)

pub returns-clause-there : goal.returns-clause-there
returns-clause-there c =
    let es = c.args.fields.now.items in
    let d = c.index_mut.result.now in
    let here = slice_get_read es _ c.args.at d refl c.requires.within c.index_mut.ensures.value in
    term_set es c.requires.fields c.args.at d here c.add.new.self c.in_ok-add.ensures.added.0 (terms_left d.joint.terms _ c.args.term.now c.in_ok-add.ensures.added.1)
    c.count-number.result c.args.term.now (terms_last d.joint.terms _ c.args.term.now _ c.in_ok-add.ensures.added.1 c.count-number.ensures)
