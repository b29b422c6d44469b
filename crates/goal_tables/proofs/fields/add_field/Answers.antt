use Rattle.std.proofs.Common.{◌≡◌, length, sym, subst, ◌∙◌}
use Rattle.goal_tables.specs.Fields.{IsFieldAt, HasField, Extends}
use Rattle.goal_tables.proofs.Growing.{extends_same, fields_push, extends_push, there_push}
use Rattle.goal_tables.proofs.fields.add_field.Goals as goal

pub returns-in-Some-clause-there : goal.returns-in-Some-clause-there
returns-in-Some-clause-there c = subst (λ es. IsFieldAt es c.in-Some.at c.args.field.now) c.deref.ensures.value c.in-Some.ensures.some

pub returns-in_err-push-clause-extends : goal.returns-in_err-push-clause-extends
returns-in_err-push-clause-extends c = subst (λ es. Extends c.args.fields.now.items es) (sym c.in_err-push.ensures.items) (extends_same c.args.fields.now.items)

pub returns-clause-fields : goal.returns-clause-fields
returns-clause-fields c =
    let none : HasField c.args.fields.now.items c.args.field.now → ⊥ = rw c.deref.ensures.value at c.in_default.ensures.none in
    rw (c.in_ok-push.ensures.items, c.in_ok-field.ensures)
    (fields_push c.args.fields.now.items c.requires c.args.field.now c.in_ok-joint.joint none (c.in_ok-joint.ensures.valid ∙ c.in_ok-valid.ensures))

pub returns-clause-extends : goal.returns-clause-extends
returns-clause-extends c =
    let none : HasField c.args.fields.now.items c.args.field.now → ⊥ = rw c.deref.ensures.value at c.in_default.ensures.none in
    rw (c.in_ok-push.ensures.items, c.in_ok-field.ensures)
    (extends_push c.args.fields.now.items c.requires c.args.field.now c.in_ok-joint.joint none (c.in_ok-joint.ensures.valid ∙ c.in_ok-valid.ensures))

pub returns-clause-there : goal.returns-clause-there
returns-clause-there c =
    let none : HasField c.args.fields.now.items c.args.field.now → ⊥ = rw c.deref.ensures.value at c.in_default.ensures.none in
    let there = there_push c.args.fields.now.items c.requires c.args.field.now c.in_ok-joint.joint none (c.in_ok-joint.ensures.valid ∙ c.in_ok-valid.ensures) in
    let at : c.len-at.result ≡ length c.args.fields.now.items = c.len-at.ensures ∙ c.args.fields.now.ok.0 in
    rw (c.in_ok-push.ensures.items, c.in_ok-field.ensures, at) there
