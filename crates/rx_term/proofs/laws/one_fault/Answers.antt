use Rattle.std.proofs.Common.{arith}
use Rattle.rx_term.proofs.laws.one_fault.Goals as goal

pub returns : goal.returns
returns c = λ w a b f g. omega (arith, f.longest b g.within g.front, g.longest a f.within f.front)
