use Rattle.cert_rows.specs.Shapes.{IsTypedNode}
use Rattle.cert_rows.specs.Values.{node_value}
use Rattle.cert_rows.proofs.Steps.{one_more_written, one_more_holds, all_hold, on_ok}
use Rattle.cert_rows.proofs.write_nodes.push_nodes.Goals as goal

pub loop-node-preserved : goal.loop-node-preserved
loop-node-preserved c = record {
  written = one_more_written node_value _ _ _ _ _ _ _ _ c.loop-node-test.true c.node-item.is c.in_ok-push_comma.ensures c.in_ok-push_node.ensures.text c.loop-node.invariant.written;
  typed = one_more_holds IsTypedNode _ _ _ c.loop-node-test.true c.node-item.is c.loop-node.invariant.typed c.in_ok-push_node.ensures.typed;
}

pub returns-clause-typed : goal.returns-clause-typed
returns-clause-typed c = on_ok c.push_str-2.result _ (all_hold IsTypedNode _ _ c.loop-node-test.false c.loop-node.invariant.typed)
