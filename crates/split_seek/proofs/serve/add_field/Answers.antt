use Rattle.std.proofs.Common.{◌<◌, ◌≡◌, length, get_or, sym, subst, ◌∙◌}
use Rattle.split_seek.proofs.Drafts.{among_same}
use Rattle.split_seek.proofs.serve.add_field.Goals as goal

pub returns-then-same_field : goal.returns-then-same_field
returns-then-same_field c = λ f.
    let o = c.other-item.result in
    let i = c.loop-other.other-index in
    let lt : i < length c.args.fields.now = subst (λ xs. i < length xs) c.as_slice-other-items.ensures c.loop-other-test.true in
    let is : o ≡ get_or c.args.fields.now i o = subst (λ xs. o ≡ get_or xs i o) c.as_slice-other-items.ensures c.other-item.is in
    among_same c.args.fields.now i o c.args.field.now lt is (sym c.same_field.ensures ∙ c.if-same_field.true) f
