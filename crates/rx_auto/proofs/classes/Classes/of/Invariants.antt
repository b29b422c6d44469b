use Rattle.rx_auto.proofs.Numbering.{AreNumbered}
use Rattle.rx_auto.proofs.classes.Classes.of.Given as goal

abbrev pub invariant-loop-byte : goal.invariant-loop-byte
invariant-loop-byte l = AreNumbered l.sets l.firsts l.numbers l.byte
