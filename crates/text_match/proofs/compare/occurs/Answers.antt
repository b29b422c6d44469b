use Rattle.std.proofs.Common.{sym, ◌∙◌}
use Rattle.text_base.specs.Forms.{folded}
use Rattle.text_match.proofs.Folding.{occurs-here}
use Rattle.text_match.proofs.compare.occurs.Goals as goal

pub returns-then-begins : goal.returns-then-begins
returns-then-begins c =
    sym (c.loop-left.invariant ∙ occurs-here (folded c.args.fold c.loop-left.left.now) (folded c.args.fold c.args.value.now) (sym c.if-begins.ensures))
