use Rattle.std.proofs.Common.{◌+◌, ◌*◌, ◌≤◌, length, take}
use Rattle.text_base.specs.Heads.{SameHeads}
use Rattle.cfg_types.specs.HeaderEdits.{edited_request}
use Rattle.head_edit.specs.Maps.{heads_of}
use Rattle.route_answer.specs.Levels.{pairs_of}
use Rattle.route_answer.proofs.headers.edit_request.Given as goal

abbrev pub invariant-loop-level : goal.invariant-loop-level
invariant-loop-level l = record {
  same : SameHeads (heads_of l.map) (edited_request (take l.level-index (pairs_of l.levels)) (heads_of l.initial.map));
  size : length (heads_of l.map) ≤ length (heads_of l.initial.map) + 1000 * l.level-index;
}
