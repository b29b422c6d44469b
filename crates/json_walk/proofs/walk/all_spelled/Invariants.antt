use Rattle.std.proofs.Common.{◌≡◌, take, map}
use Rattle.serde_json.specs.View.{view}
use Rattle.json_tables.specs.Spellings.{both}
use Rattle.json_walk.specs.Members.{spelled}
use Rattle.json_walk.proofs.walk.all_spelled.Given as goal

abbrev pub invariant-loop-name : goal.invariant-loop-name
invariant-loop-name l = l.all.items ≡ map (spelled (view l.value)) (map both (take l.name-index l.names))
