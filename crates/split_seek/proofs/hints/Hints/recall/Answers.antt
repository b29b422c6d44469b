use Rattle.std.proofs.Common.{sym, subst}
use Rattle.goal_tables.specs.Fields.{IsJointOf}
use Rattle.split_seek.proofs.Recalling.{known_of, hints_tested}
use Rattle.split_seek.proofs.hints.Hints.recall.Goals as goal
use Rattle.split_seek.proofs.hints.Hints.recall.Goals.{then-meets+in_ok-from_slice, else-meets}

pub meets-requires-clause-known : goal.meets-requires-clause-known
meets-requires-clause-known c =
    let inside = c.self.inside in
    let joint = subst (λ t. IsJointOf t.fields c.args.field.now c.args.joint.now) (sym c.self.view_is) c.requires.joint in
    let place = rw c.deref.ensures.value at c.in-Some.ensures in
    let known = known_of inside.tables.now inside.kept.items inside.scratch c.self.invariant c.args.field.now c.args.joint.now joint c.in-Some.place c.index_mut-entry.result.now place c.index_mut-entry.ensures.value in
    rw c.as_slice-text.ensures known.1

pub meets-requires-clause-valid : goal.meets-requires-clause-valid
meets-requires-clause-valid c =
    let inside = c.self.inside in
    let joint = subst (λ t. IsJointOf t.fields c.args.field.now c.args.joint.now) (sym c.self.view_is) c.requires.joint in
    let place = rw c.deref.ensures.value at c.in-Some.ensures in
    let known = known_of inside.tables.now inside.kept.items inside.scratch c.self.invariant c.args.field.now c.args.joint.now joint c.in-Some.place c.index_mut-entry.result.now place c.index_mut-entry.ensures.value in
    rw c.as_slice-text.ensures known.0

pub invariant_of-self : goal.invariant_of-self
invariant_of-self c =
    let inside = c.self.inside in
    let joint = subst (λ t. IsJointOf t.fields c.args.field.now c.args.joint.now) (sym c.self.view_is) c.requires.joint in
    let place = rw c.deref.ensures.value at c.in-Some.ensures in
    let known = rw c.as_slice-text.ensures at c.meets.ensures.known in
    rw c.meets.ensures.room
    (hints_tested inside.tables.now inside.kept.items inside.scratch c.self.invariant c.args.field.now c.args.joint.now joint c.in-Some.place c.index_mut-entry.result.now c.meets.new.known
    place c.index_mut-entry.ensures.value known)

pub invariant_of-self-2 : goal.invariant_of-self-2
invariant_of-self-2 c =
    let inside = c.self.inside in
    let joint = subst (λ t. IsJointOf t.fields c.args.field.now c.args.joint.now) (sym c.self.view_is) c.requires.joint in
    let place = rw c.deref.ensures.value at c.in-Some.ensures in
    let known = rw c.as_slice-text.ensures at c.meets.ensures.known in
    let h = hints_tested inside.tables.now inside.kept.items inside.scratch c.self.invariant c.args.field.now c.args.joint.now joint c.in-Some.place c.index_mut-entry.result.now c.meets.new.known
    place c.index_mut-entry.ensures.value known in
    elim c.if-meets.branch [ then-meets+in_ok-from_slice w ↦ rw (w.self-inside-is, c.meets.ensures.room) h | else-meets w ↦ rw (w.self-inside-is, c.meets.ensures.room) h ]
