use Rattle.std.proofs.Common.{◌≡◌, drop}
use Rattle.serde_json.specs.View.{items_view}
use Rattle.json_walk.specs.Leaves.{items}
use Rattle.json_walk.proofs.Elements.{with_front}
use Rattle.json_walk.proofs.leaves.read_items.Given as goal

abbrev pub invariant-loop-i : goal.invariant-loop-i
invariant-loop-i g l = with_front l.all (items l.place (g.R.Reader.reads l.reader) l.i (items_view (drop l.i l.values))) ≡ items l.place (g.R.Reader.reads l.reader) 0 (items_view l.values)
