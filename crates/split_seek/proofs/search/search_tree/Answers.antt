use Rattle.std.proofs.Common.{◌∙◌, arith}
use Rattle.goal_form.proofs.WaitingLemmas.{pending-true}
use Rattle.goal_form.proofs.Bound.{never_undecided}
use Rattle.split_seek.specs.Findings.{MayStep}
use Rattle.split_seek.proofs.Enough.{none_full}
use Rattle.split_seek.proofs.Searches.{splits_on, leaves_at, ends_refuted, ends_capped, ends_spent}
use Rattle.split_seek.proofs.search.search_tree.Goals as goal

pub loop-more-preserved-in-Leaf : goal.loop-more-preserved-in-Leaf
loop-more-preserved-in-Leaf c =
    let seen = rw c.in-Leaf.is at c.in_ok-request.ensures.sees in
    let s = rw c.loop-more-test.true at c.loop-more.invariant.searched in
    record {
      searched = rw (c.whole_after-whole.ensures, c.in_ok-push-in-Leaf.ensures.ok)
          (leaves_at c.args.goal.now c.args.cap c.args.splits c.loop-more.spent c.loop-more.whole c.in_ok-more-in-Leaf.more c.loop-more.trail.path c.turn.new.self.path
          c.loop-more.nodes c.in-Leaf.node s seen.0 seen.1 c.in_ok-more-in-Leaf.ensures.waits);
      count = c.in_ok-more-in-Leaf.ensures.count ∙ c.loop-more.invariant.count;
      hints = c.look_at.ensures.hints ∙ c.loop-more.invariant.hints;
    }

pub returns-then-spent-splits-clause-answer : goal.returns-then-spent-splits-clause-answer
returns-then-spent-splits-clause-answer c =
    let seen : MayStep c.args.goal.now c.loop-more.trail.path c.in-Open.atom = rw c.in-Open.is at c.in_ok-request.ensures.sees in
    let s = rw (c.loop-more-test.true, c.if-spent-splits.true) at c.loop-more.invariant.searched in
    rw c.in_ok-fill-in-Open.ensures (ends_spent c.args.goal.now c.args.cap c.args.splits c.loop-more.whole c.loop-more.trail.path c.loop-more.nodes s seen.lawful.open_here)

pub returns-then-spent-splits-clause-decides : goal.returns-then-spent-splits-clause-decides
returns-then-spent-splits-clause-decides c = λ enough.
    never_undecided c.args.goal.now c.args.cap c.fill.new.nodes c.args.splits c.requires.leaves (none_full c.args.goal.now c.args.splits c.args.cap enough) enough.all
    (returns-then-spent-splits-clause-answer c).0

pub loop-more-smaller : goal.loop-more-smaller
loop-more-smaller c =
    let within = c.loop-more.invariant.searched.within in
    let turned = pending-true c.loop-more.trail.path c.in-Open.atom in
    rw (c.loop-more-test.true, c.in_ok-decide-in-Open.ensures.path, turned) (omega arith)

pub loop-more-preserved : goal.loop-more-preserved
loop-more-preserved c =
    let seen : MayStep c.args.goal.now c.loop-more.trail.path c.in-Open.atom = rw c.in-Open.is at c.in_ok-request.ensures.sees in
    let s = rw c.loop-more-test.true at c.loop-more.invariant.searched in
    let within = c.loop-more.invariant.searched.within in
    record {
      searched = rw (c.loop-more-test.true, c.in_ok-push-in-Open.ensures.ok, c.in_ok-decide-in-Open.ensures.path)
          (splits_on c.args.goal.now c.args.cap c.args.splits c.loop-more.spent c.loop-more.whole c.loop-more.trail.path c.loop-more.nodes c.in-Open.atom s seen (omega arith));
      count = c.in_ok-decide-in-Open.ensures.count ∙ c.loop-more.invariant.count;
      hints = c.look_at.ensures.hints ∙ c.loop-more.invariant.hints;
    }

pub returns-then-whole-clause-answer : goal.returns-then-whole-clause-answer
returns-then-whole-clause-answer c =
    let s = rw (c.loop-more-test.false, c.if-whole.true) at c.loop-more.invariant.searched in
    ends_refuted c.args.goal.now c.args.cap c.args.splits c.loop-more.spent c.loop-more.trail.path c.loop-more.nodes s

pub returns-clause-answer : goal.returns-clause-answer
returns-clause-answer c =
    let s = rw (c.loop-more-test.false, c.if-whole.false) at c.loop-more.invariant.searched in
    ends_capped c.args.goal.now c.args.cap c.args.splits c.loop-more.spent c.loop-more.trail.path c.loop-more.nodes s

pub returns-clause-decides : goal.returns-clause-decides
returns-clause-decides c = λ enough.
    never_undecided c.args.goal.now c.args.cap c.loop-more.nodes c.args.splits c.requires.leaves (none_full c.args.goal.now c.args.splits c.args.cap enough) enough.all (returns-clause-answer c).0
