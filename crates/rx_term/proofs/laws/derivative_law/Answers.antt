use Rattle.rx_term.proofs.Language.{derivative_law as law}
use Rattle.rx_term.proofs.laws.derivative_law.Goals as goal

pub returns : goal.returns
returns c = law
