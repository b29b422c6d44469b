use Rattle.std.proofs.Common.{sym, subst}
use Rattle.goal_form.specs.Goals.{field_in}
use Rattle.goal_tables.specs.Fields.{IsFieldAt, IsTermOf}
use Rattle.goal_tables.proofs.Growing.{extends_then, at_more, placed_at, term_there}
use Rattle.goal_tables.proofs.fields.add_atom.Goals as goal

pub returns-in_err-term-in-Within-clause-extends : goal.returns-in_err-term-in-Within-clause-extends
returns-in_err-term-in-Within-clause-extends c = extends_then c.args.fields.now.items c.add_field.new.fields.items c.add_term.new.fields.items c.in_ok-field.ensures.extends c.in_err-term-in-Within.ensures.extends

pub returns-in-Present-clause-placed : goal.returns-in-Present-clause-placed
returns-in-Present-clause-placed c =
    let there = subst (IsFieldAt c.add_field.new.fields.items c.in_ok-field.field) c.field_of.ensures c.in_ok-field.ensures.there in
    placed_at c.add_field.new.fields.items c.in_ok-field.field 0 c.args.atom.now there (λ e g. subst (IsTermOf e.joint.terms 0) (sym c.in-Present.is) tt)

pub returns-in_ok-term-in-Within-clause-extends : goal.returns-in_ok-term-in-Within-clause-extends
returns-in_ok-term-in-Within-clause-extends c = extends_then c.args.fields.now.items c.add_field.new.fields.items c.add_term.new.fields.items c.in_ok-field.ensures.extends c.in_ok-term-in-Within.ensures.extends

pub returns-in_ok-term-in-Within-clause-placed : goal.returns-in_ok-term-in-Within-clause-placed
returns-in_ok-term-in-Within-clause-placed c =
    let there = subst (IsFieldAt c.add_field.new.fields.items c.in_ok-field.field) c.field_of.ensures c.in_ok-field.ensures.there in
    let later = at_more c.add_field.new.fields.items c.add_term.new.fields.items c.in_ok-field.field (field_in c.args.atom.now) c.in_ok-term-in-Within.ensures.extends there in
    placed_at c.add_term.new.fields.items c.in_ok-field.field c.in_ok-term-in-Within.term c.args.atom.now later
    (λ e g. subst (IsTermOf e.joint.terms c.in_ok-term-in-Within.term) (sym c.in-Within.is)
    (term_there c.add_term.new.fields.items c.in_ok-field.field c.in_ok-term-in-Within.term c.in-Within.term c.in-Within.field c.in-Within.user c.in_ok-term-in-Within.ensures.there e g))
