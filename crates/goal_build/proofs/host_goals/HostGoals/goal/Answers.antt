use Rattle.std.proofs.Common.{arith}
use Rattle.goal_build.proofs.Guarding.{asked_long, asked_read, asked_at, asked_take}
use Rattle.goal_build.proofs.Making.{below_take, goal_made}
use Rattle.goal_build.proofs.Renumbered.{kept_start, below_at}
use Rattle.goal_build.specs.Parts.{asked}
use Rattle.goal_build.proofs.host_goals.HostGoals.goal.Goals as goal

pub renumber_all-requires-clause-kept : goal.renumber_all-requires-clause-kept
renumber_all-requires-clause-kept c = rw (c.new-atoms.ensures, c.in_ok-places.ensures) (kept_start _ _ c.count.ensures)

pub renumber-requires-clause-below : goal.renumber-requires-clause-below
renumber-requires-clause-below c =
    let read = rw c.as_slice.ensures at c.index-as_slice-at.is in
    let long = asked_long c.args.self.now.guards in
    let within = c.requires in
    below_at _ (asked c.args.self.now.guards) c.args.at c.index-as_slice-at.result.formula c.args.self.now.guards_below (omega (arith, long, within))
    (asked_read c.args.self.now.guards c.args.at c.index-as_slice-at.result c.requires read)

pub renumber_none-requires-clause-below : goal.renumber_none-requires-clause-below
renumber_none-requires-clause-below c =
    rw (c.as_slice-2.ensures, asked_take c.args.self.now.guards c.args.at) (below_take _ (asked c.args.self.now.guards) c.args.at c.args.self.now.guards_below)

pub returns : goal.returns
returns c config h r are route =
    let read = rw c.as_slice.ensures at c.index-as_slice-at.is in
    let shares = rw (c.as_slice-shared.ensures, c.new-atoms.ensures) at c.in_ok-members.ensures.done in
    let nones = rw (c.as_slice-2.ensures, asked_take c.args.self.now.guards c.args.at) at c.in_ok-renumber_none.ensures.done in
    goal_made c.args.self.now config h r c.args.at c.index-as_slice-at.result.formula c.renumber_all.new.atoms c.renumber.new.atoms c.renumber_none.new.atoms
    c.in_ok-members.members c.push.new.self c.in_ok-renumber_none.field-0 c.append.new.self c.in_ok-renumber.field-0
    are (asked_at c.args.self.now.guards c.args.at c.index-as_slice-at.result c.requires read) route
    shares c.in_ok-renumber.ensures.done c.in_ok-push.ensures.ok nones c.in_ok-append.ensures c.as_slice-3.ensures.apart
