use Rattle.std.proofs.Common.{◌≡◌, ◌<◌, length, refl, sym, ◌∙◌, ap, arith}
use Rattle.std.proofs.lemmas.Option.{slice_get_read}
use Rattle.cfg_types.specs.Order.{host_routes}
use Rattle.cfg_types.proofs.Counts.{few_hosts}
use Rattle.goal_build.proofs.goals.host_from.Goals as goal

pub overflow_cast-result : goal.overflow_cast-result
overflow_cast-result c =
    let few = few_hosts c.args.config.now c.requires.lawful in
    let within = c.loop-at-test.true in
    omega (arith, few, within, c.len-at-end.ensures)

pub returns-then-route-first : goal.returns-then-route-first
returns-then-route-first c =
    let config = c.args.config.now in
    let host = c.index-as_slice-at.result in
    let within : c.loop-at.at < length config.hosts = omega (arith, c.loop-at-test.true, c.len-at-end.ensures) in
    let is = rw c.as_slice.ensures at c.index-as_slice-at.is in
    let from = c.loop-at.invariant.1 in
    let below = c.if-route-first.true in
    let count : c.in-Some.count ≡ length (host_routes host) = (rw c.in-Some.is at c.route_count.ensures) ∙ ap (λ h. length (host_routes h)) (sym c.index-as_slice-at.is) in
    record {
      host = host;
      is_host = slice_get_read config.hosts (length config.hosts) c.loop-at.at host refl within is;
      number = c.loop-at.invariant.0;
      from = from;
      below = omega (arith, from, below, count);
    }
