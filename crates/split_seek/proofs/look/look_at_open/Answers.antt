use Rattle.split_seek.proofs.Looking.{shut_leaf, open_steps}
use Rattle.split_seek.proofs.look.look_at_open.Goals as goal

pub returns-in-Shut-clause-sees : goal.returns-in-Shut-clause-sees
returns-in-Shut-clause-sees c =
    let s = rw (c.in-Shut.is, c.steps.ensures.steps) at c.in_ok-node.ensures.served in
    (shut_leaf c.args.goal.now c.args.cap c.args.trail.now.path c.in-Shut.node s.0, s.1)

pub returns-in-Full-clause-sees : goal.returns-in-Full-clause-sees
returns-in-Full-clause-sees c =
    let s = rw (c.in-Full.is, c.steps.ensures.steps) at c.in_ok-node.ensures.served in
    open_steps c.args.goal.now c.args.trail.now.path c.args.atom s.1 c.requires.leaves c.requires.here

pub returns-clause-sees : goal.returns-clause-sees
returns-clause-sees c =
    let s = rw (c.in-All.is, c.steps.ensures.steps) at c.in_ok-node.ensures.served in
    open_steps c.args.goal.now c.args.trail.now.path c.args.atom s.2 c.requires.leaves c.requires.here
