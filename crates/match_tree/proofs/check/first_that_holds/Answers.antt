use Rattle.std.proofs.Common.{arith, sym, ◌∙◌}
use Rattle.match_tree.specs.Checks.{check_holds}
use Rattle.match_tree.proofs.Least.{check_fits}
use Rattle.match_tree.proofs.Positions.{position_here, position_later}
use Rattle.match_tree.proofs.check.first_that_holds.Goals as goal

pub holds-requires : goal.holds-requires
holds-requires g c = check_fits c.args.checks.now c.loop-at.at c.index-checks-at.result c.loop-at.scratch c.index-checks-at.is c.loop-at-test.true c.loop-at.invariant.fits

pub returns-then-holds-clause-place : goal.returns-then-holds-clause-place
returns-then-holds-clause-place g c =
    sym (c.loop-at.invariant.left ∙ position_here (check_holds g.I.Input.sees c.args.request.now) c.args.checks.now c.loop-at.at c.index-checks-at.result c.loop-at-test.true c.index-checks-at.is
    (sym c.holds.ensures.answer ∙ c.if-holds.true))

pub loop-at-preserved : goal.loop-at-preserved
loop-at-preserved g c =
    let left = c.loop-at.invariant.left ∙ position_later (check_holds g.I.Input.sees c.args.request.now) c.args.checks.now c.loop-at.at c.index-checks-at.result c.loop-at-test.true c.index-checks-at.is
    (sym c.holds.ensures.answer ∙ c.if-holds.false) in
    let room = c.holds.ensures.room in
    record {
      room = room ∙ c.loop-at.invariant.room;
      fits = rw room c.loop-at.invariant.fits;
      within = omega (arith, c.loop-at-test.true);
      left = left;
    }
