use Rattle.std.proofs.Common.{◌≡◌, ◌++◌, map}
use Rattle.head_edit.specs.Maps.{heads_of}
use Rattle.head_edit.proofs.maps.heads_from.Given as goal

abbrev pub invariant-loop-name : goal.invariant-loop-name
invariant-loop-name l = l.list ++ map (λ p. (p.0, p.1.bytes)) l.name-iterator ≡ heads_of l.map
