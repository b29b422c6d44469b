use Rattle.std.proofs.Common.{◌≡◌, false, sym, subst, ◌∙◌}
use Rattle.goal_form.specs.Goals.{is_claimed_absent}
use Rattle.split_seek.proofs.Drafts.{served_by}
use Rattle.split_seek.proofs.serve.serve_field.Goals as goal

pub returns-clause-served : goal.returns-clause-served
returns-clause-served c = λ among d.
    let path = c.args.path.now in
    let f = c.args.field.now in
    let s = rw c.in-Some.is at c.in_ok-claims.ensures.some in
    let absent = subst (λ xs. is_claimed_absent xs path f ≡ false) c.requires.tables (sym s.absent ∙ c.if-claims.false) in
    let none = rw c.as_slice.ensures at c.has_text.ensures in
    let found = rw (c.deref.ensures.value, c.limit_of-limit.ensures) at c.in_ok-seen.ensures.seen in
    let seen = rw (s.valid, s.claims, s.user, c.requires.tables) at found in
    served_by c.args.goal.now c.args.cap path among c.args.draft.now.texts c.args.draft.now.full d f absent (sym none ∙ c.if-has_text.false) c.requires.asked c.in_ok-seen.seen seen
    c.add_text.new.draft.texts c.add_text.new.draft.full c.add_text.result c.add_text.ensures
