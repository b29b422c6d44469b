use Rattle.std.proofs.Common.{◌∙◌}
use Rattle.text_match.proofs.Folding.{begins-front}
use Rattle.text_match.proofs.compare.begins.Goals as goal

pub returns : goal.returns
returns c = c.equals.ensures ∙ begins-front c.args.fold c.args.text.now c.args.value.now c.split_at.result.0.now c.split_at.ensures.front
