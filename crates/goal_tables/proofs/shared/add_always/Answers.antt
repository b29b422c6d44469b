use Rattle.text_base.specs.declared.request.Field.TheVariants as field
use Rattle.goal_tables.proofs.Growing.{has_more}
use Rattle.goal_tables.proofs.Found.{always_five}
use Rattle.goal_tables.proofs.shared.add_always.Goals as goal

pub returns-clause-always : goal.returns-clause-always
returns-clause-always c =
    let a = c.add_field.new.fields.items in
    let b = c.add_field-2.new.fields.items in
    let d = c.add_field-3.new.fields.items in
    let e = c.add_field-4.new.fields.items in
    let z = c.add_field-5.new.fields.items in
    let ab = c.in_ok-add_field-2.ensures.extends in
    let bd = c.in_ok-add_field-3.ensures.extends in
    let de = c.in_ok-add_field-4.ensures.extends in
    let ez = c.in_ok-add_field-5.ensures.extends in
    always_five z
    (has_more e z field.Authority ez (has_more d e field.Authority de (has_more b d field.Authority bd (has_more a b field.Authority ab (c.in_ok-add_field.field-0, c.in_ok-add_field.ensures.there)))))
    (has_more e z field.Target ez (has_more d e field.Target de (has_more b d field.Target bd (c.in_ok-add_field-2.field-0, c.in_ok-add_field-2.ensures.there))))
    (has_more e z field.Method ez (has_more d e field.Method de (c.in_ok-add_field-3.field-0, c.in_ok-add_field-3.ensures.there)))
    (has_more e z field.Proto ez (c.in_ok-add_field-4.field-0, c.in_ok-add_field-4.ensures.there))
    (c.in_ok-add_field-5.field-0, c.in_ok-add_field-5.ensures.there)
