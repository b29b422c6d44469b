use Rattle.std.proofs.Common.{◌≤◌, length, take}
use Rattle.http_header.specs.HeaderMap.{IsHeaderMap}
use Rattle.text_base.specs.Heads.{SameHeads}
use Rattle.cfg_types.specs.HeaderEdits.{without_names}
use Rattle.head_edit.specs.Maps.{heads_of}
use Rattle.head_edit.proofs.edits.remove_all.Given as goal

abbrev pub invariant-loop-name : goal.invariant-loop-name
invariant-loop-name l = record {
  same : SameHeads (heads_of l.map) (without_names (take l.name-index l.names) (heads_of l.initial.map));
  size : length (heads_of l.map) ≤ length (heads_of l.initial.map);
  valid : IsHeaderMap l.map;
}
