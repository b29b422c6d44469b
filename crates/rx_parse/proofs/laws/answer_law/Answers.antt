use Rattle.rx_parse.proofs.ExactAnswers.{answer_is}
use Rattle.rx_parse.proofs.laws.answer_law.Goals as goal

pub returns : goal.returns
returns c = answer_is
