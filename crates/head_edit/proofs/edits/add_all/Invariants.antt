use Rattle.std.proofs.Common.{◌+◌, ◌≤◌, length, take}
use Rattle.std.specs.List.{fold}
use Rattle.http_header.specs.HeaderMap.{IsHeaderMap}
use Rattle.text_base.specs.Heads.{SameHeads}
use Rattle.cfg_types.specs.HeaderEdits.{added}
use Rattle.head_edit.specs.Maps.{heads_of}
use Rattle.head_edit.proofs.edits.add_all.Given as goal

abbrev pub invariant-loop-addition : goal.invariant-loop-addition
invariant-loop-addition l = record {
  same : SameHeads (heads_of l.map) (fold added (heads_of l.initial.map) (take l.addition-index l.additions));
  size : length (heads_of l.map) ≤ length (heads_of l.initial.map) + l.addition-index;
  valid : IsHeaderMap l.map;
}
