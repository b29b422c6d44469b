use Rattle.rx_unique.proofs.Whole.{one_answer}
use Rattle.rx_unique.proofs.laws.one_answer_law.Goals as goal

pub returns : goal.returns
returns c = one_answer
