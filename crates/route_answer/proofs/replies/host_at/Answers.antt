use Rattle.cfg_types.specs.Order.{host_routes}
use Rattle.cfg_types.proofs.Counts.{few_hosts}
use Rattle.route_answer.proofs.Owners.{owner_there}
use Rattle.route_answer.proofs.replies.host_at.Goals as goal

pub host_of-requires-clause-few : goal.host_of-requires-clause-few
host_of-requires-clause-few c = few_hosts c.args.config.now c.requires.lawful

pub unreachable-requires : goal.unreachable-requires
unreachable-requires c = owner_there host_routes c.args.config.now.hosts c.args.number c.host_of.result c.host_of.ensures c.in-None.ensures.value
