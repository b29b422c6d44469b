use Rattle.std.proofs.Common.{◌≡◌, ◌+◌, ◌++◌, length, take}
use Rattle.text_base.specs.Heads.{SameHeads}
use Rattle.head_edit.specs.Maps.{heads_of}
use Rattle.head_edit.proofs.maps.add_heads.Given as goal

abbrev pub invariant-loop-head : goal.invariant-loop-head
invariant-loop-head l = record {
  same : SameHeads (heads_of l.map) (heads_of l.initial.map ++ take l.head-index l.heads);
  size : length (heads_of l.map) ≡ length (heads_of l.initial.map) + l.head-index;
}
