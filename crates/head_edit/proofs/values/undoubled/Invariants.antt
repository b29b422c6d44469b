use Rattle.std.proofs.Common.{◌≡◌, ◌-◌, ◌++◌, length, drop}
use Rattle.cfg_types.specs.HeaderEdits.{undoubled}
use Rattle.head_edit.proofs.values.undoubled.Given as goal

abbrev pub invariant-loop-at : goal.invariant-loop-at
invariant-loop-at l = l.single.items ++ undoubled (drop l.at l.value) ≡ undoubled l.value

abbrev pub decreases-loop-at : goal.decreases-loop-at
decreases-loop-at l = length l.value - l.at
