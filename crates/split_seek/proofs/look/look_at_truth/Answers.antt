use Rattle.std.proofs.Common.{subst}
use Rattle.goal_form.specs.Trails.{InRange}
use Rattle.split_seek.proofs.Looking.{shut_leaf, full_leaf, known_true, reached_meets}
use Rattle.split_seek.proofs.look.look_at_truth.Goals as goal

pub returns-in-Shut-clause-sees : goal.returns-in-Shut-clause-sees
returns-in-Shut-clause-sees c =
    let s = rw (c.in-Shut.is, c.steps.ensures.steps) at c.in_ok-node.ensures.served in
    (shut_leaf c.args.goal.now c.args.cap c.args.trail.now.path c.in-Shut.node s.0, s.1)

pub returns-in-Full-clause-sees : goal.returns-in-Full-clause-sees
returns-in-Full-clause-sees c =
    let s = rw (c.in-Full.is, c.steps.ensures.steps) at c.in_ok-node.ensures.served in
    full_leaf c.args.goal.now c.args.cap c.args.trail.now.path c.in-Full.node s.0 (known_true c.args.goal.now c.args.trail.now.path c.requires.here)

pub returns-in_ok-request_of-in-All-clause-sees : goal.returns-in_ok-request_of-in-All-clause-sees
returns-in_ok-request_of-in-All-clause-sees c =
    let s = rw (c.in-All.is, c.steps.ensures.steps) at c.in_ok-node.ensures.served in
    let same = rw c.as_slice.ensures at c.in_ok-request_of-in-All.ensures.same in
    reached_meets c.args.goal.now c.args.trail.now.path c.in-All.texts c.in_ok-request_of-in-All.field-0 s.0 s.1
    (subst (λ n. InRange n c.args.trail.now.path) c.requires.count c.steps.ensures.below) c.requires.here same c.in_ok-request_of-in-All.ensures.valid
