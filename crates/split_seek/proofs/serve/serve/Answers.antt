use Rattle.std.proofs.Common.{◌≡◌, ◌+◌, ◌||◌, true, take, sym, subst, ◌∙◌}
use Rattle.std.proofs.lemmas.List.{take_all}
use Rattle.goal_form.specs.Fields.{same_field}
use Rattle.split_seek.specs.Serving.{IsDraft, is_among}
use Rattle.split_seek.proofs.Drafts.{draft_fewer, draft_open, draft_served, among_more, among_get}
use Rattle.split_seek.proofs.serve.serve.Goals as goal

pub serve_field-requires-clause-asked : goal.serve_field-requires-clause-asked
serve_field-requires-clause-asked c =
    let list = c.as_slice-list.result.now in
    let x = c.field-item.result in
    c.in_ok-fields.ensures x ∙ subst (λ fs. is_among x fs ≡ true) c.as_slice-list.ensures
    (subst (λ y. is_among y list ≡ true) (sym c.field-item.is) (among_get list c.loop-field.field-index x c.loop-field-test.true))

pub returns-in-Some-clause-served : goal.returns-in-Some-clause-served
returns-in-Some-clause-served c =
    rw c.in-Some.is at (c.in_ok-node.ensures.served (λ f. is_among f (take c.loop-field.field-index c.as_slice-list.result.now)) c.loop-field.invariant.draft)

pub loop-field-preserved : goal.loop-field-preserved
loop-field-preserved c =
    let list = c.as_slice-list.result.now in
    let i = c.loop-field.field-index in
    let d = rw c.in_default.is at (c.in_ok-node.ensures.served (λ f. is_among f (take i list)) c.loop-field.invariant.draft) in
    record {
      draft = draft_fewer c.args.goal.now c.args.cap c.args.path.now (λ f. is_among f (take i list) || same_field c.field-item.result f) (λ f. is_among f (take (i + 1) list)) _ _
          (among_more list i c.field-item.result c.loop-field-test.true c.field-item.is) d;
      hints = c.in_ok-node.ensures.hints ∙ c.loop-field.invariant.hints;
    }

pub returns-in-Some-full-clause-served : goal.returns-in-Some-full-clause-served
returns-in-Some-full-clause-served c =
    let all = take_all c.loop-field.field-index c.as_slice-list.result.now c.loop-field-test.false ∙ c.as_slice-list.ensures in
    let d = rw c.in-Some-full.is at (subst (λ fs. IsDraft c.args.goal.now c.args.cap c.args.path.now (λ f. is_among f fs) c.loop-field.draft.texts c.loop-field.draft.full) all c.loop-field.invariant.draft) in
    (d.filled, draft_open c.args.goal.now c.args.cap c.args.path.now c.in_ok-fields.fields c.loop-field.draft.texts c.in_ok-fields.ensures _ d)

pub returns-clause-served : goal.returns-clause-served
returns-clause-served c =
    let all = take_all c.loop-field.field-index c.as_slice-list.result.now c.loop-field-test.false ∙ c.as_slice-list.ensures in
    let d = rw c.in-None.is at (subst (λ fs. IsDraft c.args.goal.now c.args.cap c.args.path.now (λ f. is_among f fs) c.loop-field.draft.texts c.loop-field.draft.full) all c.loop-field.invariant.draft) in (
      draft_served c.args.goal.now c.args.cap c.args.path.now c.in_ok-fields.fields c.loop-field.draft.texts c.in_ok-fields.ensures d,
      d.single,
      draft_open c.args.goal.now c.args.cap c.args.path.now c.in_ok-fields.fields c.loop-field.draft.texts c.in_ok-fields.ensures _ d,
    )
