use Rattle.std.proofs.Common.{◌≡◌, take, drop}
use Rattle.serde_json.specs.View.{view}
use Rattle.json_tables.specs.Fields.{fields}
use Rattle.json_walk.specs.Fields.{alone, alone_after}
use Rattle.json_walk.proofs.fields.alone.Given as goal

abbrev pub invariant-loop-i : goal.invariant-loop-i
invariant-loop-i l = alone_after l.met l.place (view l.value) (drop l.i (take l.many (drop l.first (fields l.message)))) ≡ alone l.place (view l.value) (take l.many (drop l.first (fields l.message)))
