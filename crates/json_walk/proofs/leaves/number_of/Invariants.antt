use Rattle.std.proofs.Common.{◌≡◌, drop, map, bytes_eq}
use Rattle.std.specs.List.{position_from}
use Rattle.json_walk.proofs.leaves.number_of.Given as goal

abbrev pub invariant-loop-i : goal.invariant-loop-i
invariant-loop-i l = position_from (bytes_eq l.text) l.i (map (λ n. n.now) (drop l.i l.names)) ≡ position_from (bytes_eq l.text) 0 (map (λ n. n.now) l.names)
