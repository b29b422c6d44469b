use Rattle.std.proofs.Common.{◌∙◌}
use Rattle.text_match.proofs.Folding.{ends-end}
use Rattle.text_match.proofs.compare.ends.Goals as goal

pub returns : goal.returns
returns c = c.equals.ensures ∙ ends-end c.args.fold c.args.text.now c.args.value.now c.split_at.result.1.now c.split_at.ensures.back
