use Rattle.std.proofs.Common.{◌≡◌, [], ◌∷◌, ◌++◌, sym, subst}
use Rattle.goal_tables.specs.Fields.{IsJointOf}
use Rattle.split_seek.proofs.Recalling.{hints_set, hints_push}
use Rattle.split_seek.proofs.hints.Hints.keep.Goals as goal

pub invariant_of-self : goal.invariant_of-self
invariant_of-self c =
    let inside = c.self.inside in
    let joint = subst (λ t. IsJointOf t.fields c.args.field.now c.args.joint.now) (sym c.self.view_is) c.requires.joint in
    let valid = rw (sym c.in_ok-entry.ensures.text) at c.requires.valid in
    hints_set inside.tables.now inside.kept.items inside.scratch c.self.invariant c.args.field.now c.args.joint.now joint c.in_ok-entry.entry c.in_ok-entry.ensures.field valid c.in_ok-entry.ensures.known
    c.in-Some.place

pub invariant_of-self-in-Continue-branch-2 : goal.invariant_of-self-in-Continue-branch-2
invariant_of-self-in-Continue-branch-2 c =
    let inside = c.self.inside in
    let joint = subst (λ t. IsJointOf t.fields c.args.field.now c.args.joint.now) (sym c.self.view_is) c.requires.joint in
    let valid = rw (sym c.in_ok-entry.ensures.text) at c.requires.valid in
    let items : c.push.new.self.items ≡ inside.kept.items ++ c.in_ok-entry.entry ∷ [] = c.in_ok-push-in-None.ensures.items in
    rw items (hints_push inside.tables.now inside.kept.items inside.scratch c.self.invariant c.args.field.now c.args.joint.now joint c.in_ok-entry.entry c.in_ok-entry.ensures.field valid c.in_ok-entry.ensures.known)
