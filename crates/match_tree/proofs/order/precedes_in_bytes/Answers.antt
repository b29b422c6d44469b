use Rattle.std.proofs.Common.{◌∙◌, ap}
use Rattle.std.specs.Ordering.{is_lt}
use Rattle.cfg_types.proofs.KeyOrders.{byte_order-is}
use Rattle.match_tree.proofs.order.precedes_in_bytes.Goals as goal

pub returns : goal.returns
returns c = c.is_lt.ensures ∙ ap is_lt c.cmp.ensures ∙ byte_order-is c.args.a.now c.args.b.now
