use Rattle.std.proofs.Common.{◌≡◌, ◌++◌, drop, take, map, string_bytes}
use Rattle.std.specs.Prelude.{All}
use Rattle.serde_json.specs.View.{items_of}
use Rattle.serde_json.specs.Written.{compact_text, items_text}
use Rattle.cert_rows.specs.Shapes.{IsTypedNode}
use Rattle.cert_rows.specs.Values.{node_value, nodes_value}
use Rattle.cert_rows.proofs.write_nodes.push_nodes.Given as goal

abbrev pub invariant-loop-node : goal.invariant-loop-node
invariant-loop-node l = record {
  written : string_bytes l.text ++ items_text l.later (items_of (map node_value (drop l.node-index l.nodes))) ≡ string_bytes l.fn.text ++ compact_text (nodes_value l.nodes);
  typed : All IsTypedNode (take l.node-index l.nodes);
}
