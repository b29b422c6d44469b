use Rattle.std.proofs.Common.{length, drop, subst, arith}
use Rattle.cfg_types.specs.Order.{IsCounted, host_routes, routes_of_hosts}
use Rattle.read_config.proofs.ManyRoutes.{host_within, too_many}
use Rattle.read_config.proofs.rules.are_few_routes.Goals as goal

pub returns-in_default : goal.returns-in_default
returns-in_default c =
    let hs = c.args.hosts.now in
    let at = c.loop-host.host-index in
    let h = c.host-item.result in
    let few = c.loop-host.invariant.few in
    let past = subst (λ o. IsCounted (host_routes h) o) c.in_default.is c.route_count.ensures in
    too_many (length (routes_of_hosts hs)) c.loop-host.left (length (routes_of_hosts (drop at hs))) (length (host_routes h)) c.loop-host.invariant.counted (host_within hs at h c.loop-host-test.true c.host-item.is) past (omega arith)
