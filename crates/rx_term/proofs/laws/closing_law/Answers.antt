use Rattle.rx_term.proofs.Closing.{closing_law as law}
use Rattle.rx_term.proofs.laws.closing_law.Goals as goal

pub returns : goal.returns
returns c = law
