use Rattle.rx_term.proofs.Counting.{at_most}
use Rattle.rx_term.proofs.laws.counting_law.Goals as goal

pub returns : goal.returns
returns c = at_most
