use Rattle.cfg_types.specs.Order.{lent}
use Rattle.route_scan.proofs.Gathered.{test_added, lent_read}
use Rattle.route_scan.proofs.rules.add_tests.Goals as goal

pub loop-route-preserved : goal.loop-route-preserved
loop-route-preserved c =
    let read = lent_read c.args.routes.now c.loop-route.route-index c.route-item.result c.loop-route-test.true c.route-item.is in
    test_added c.args.ignore_params (lent c.args.routes.now) c.loop-route.route-index c.route-item.result.now _ _ _ _ read.0 read.1 c.loop-route.invariant c.in_ok-push.ensures.items
    c.in_ok-build.ensures.rule c.in_ok-build.ensures.params
