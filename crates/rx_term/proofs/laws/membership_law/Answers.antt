use Rattle.rx_term.proofs.Language.{membership_law as law}
use Rattle.rx_term.proofs.laws.membership_law.Goals as goal

pub returns : goal.returns
returns c = law
