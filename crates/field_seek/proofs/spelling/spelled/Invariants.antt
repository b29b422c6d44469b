use Rattle.std.proofs.Common.{◌≡◌, ◌++◌, ◌∷◌, [], ◌≤◌, length, reverse}
use Rattle.rx_joint.specs.Claims.{word_at}
use Rattle.field_seek.proofs.spelling.spelled.Given as goal

abbrev pub invariant-loop-at : goal.invariant-loop-at
invariant-loop-at l = record {
  within : l.at ≤ length l.entries;
  text : word_at l.entries l.word ++ l.byte ∷ [] ≡ word_at l.entries l.at ++ reverse l.text.items;
}

abbrev pub decreases-loop-at : goal.decreases-loop-at
decreases-loop-at l = l.at
