use Rattle.std.proofs.Common.{List, ◌++◌, replicate}
use Rattle.rx_term.specs.declared.terms.Term.{Term}
use Rattle.rx_parse.specs.Answer.{IsRow}
use Rattle.rx_parse.proofs.made.copies.Given as goal

abbrev pub invariant-loop : goal.invariant-loop
invariant-loop l = (ts : List Term) → IsRow l.fn.rest ts → IsRow l.made (replicate l.counter l.term ++ ts)
