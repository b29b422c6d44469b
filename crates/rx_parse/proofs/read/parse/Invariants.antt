use Rattle.rx_parse.proofs.Reading.{HasCome}
use Rattle.rx_parse.proofs.read.parse.Given as goal

abbrev pub invariant-loop-at : goal.invariant-loop-at
invariant-loop-at l = HasCome l.text l.at l.reader
