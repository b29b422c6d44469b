use Rattle.std.proofs.Common.{◌≡◌, drop, map}
use Rattle.json_tables.specs.Spellings.{both}
use Rattle.json_walk.specs.Members.{named}
use Rattle.json_walk.proofs.walk.named.Given as goal

abbrev pub invariant-loop-name : goal.invariant-loop-name
invariant-loop-name l = named l.key (map both (drop l.name-index l.names)) ≡ named l.key (map both l.names)
