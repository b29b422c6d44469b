use Rattle.std.proofs.Common.{◌≡◌, length}
use Rattle.text_base.specs.Forms.{folded, occurs}
use Rattle.text_match.proofs.compare.occurs.Given as goal

abbrev pub invariant-loop-left : goal.invariant-loop-left
invariant-loop-left l = occurs (folded l.fold l.fn.text) (folded l.fold l.value) ≡ occurs (folded l.fold l.left) (folded l.fold l.value)

abbrev pub decreases-loop-left : goal.decreases-loop-left
decreases-loop-left l = length l.left
