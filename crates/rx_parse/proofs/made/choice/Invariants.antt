use Rattle.std.proofs.Common.{◌≡◌, length}
use Rattle.rx_parse.specs.Answer.{choice_made}
use Rattle.rx_parse.proofs.made.choice.Given as goal

abbrev pub invariant-loop-branch : goal.invariant-loop-branch
invariant-loop-branch l = choice_made l.fn.branches l.fn.last ≡ choice_made l.branches l.made

abbrev pub decreases-loop-branch : goal.decreases-loop-branch
decreases-loop-branch l = length l.branches
