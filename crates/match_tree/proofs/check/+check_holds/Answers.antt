use Rattle.std.proofs.Common.{arith, ap}
use denote.Param.Weighed.{at_most}
use Rattle.match_tree.proofs.check.Check.TheLaws.{the_size}
use Rattle.match_tree.proofs.Least.{check_fits}
use Rattle.match_tree.proofs.check.+check_holds.Goals as goal

pub all_hold-holds-requires : goal.all_hold-holds-requires
all_hold-holds-requires g t c κs within =
    let m = at_most (the_size g.row.I g.I.laws) c.args.checks.now c.loop-check.check-index c.check-item.result c.loop-check-test.true in
    let e = ap (the_size g.row.I g.I.laws) c.check-item.is in
    (omega (arith, m, e, c.decreases), (within, check_fits c.args.checks.now c.loop-check.check-index c.check-item.result c.loop-check.scratch c.check-item.is c.loop-check-test.true c.loop-check.invariant.fits))

pub any_holds-holds-requires : goal.any_holds-holds-requires
any_holds-holds-requires g t c κs within =
    let m = at_most (the_size g.row.I g.I.laws) c.args.checks.now c.loop-check.check-index c.check-item.result c.loop-check-test.true in
    let e = ap (the_size g.row.I g.I.laws) c.check-item.is in
    (omega (arith, m, e, c.decreases), (within, check_fits c.args.checks.now c.loop-check.check-index c.check-item.result c.loop-check.scratch c.check-item.is c.loop-check-test.true c.loop-check.invariant.fits))
