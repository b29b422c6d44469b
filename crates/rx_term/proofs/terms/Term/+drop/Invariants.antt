use Rattle.std.proofs.Common.{◌≤◌}
use Rattle.rx_term.specs.declared.terms.Term.{size-Term}
use Rattle.rx_term.proofs.terms.Term.+drop.Given as goal

abbrev pub decreases-drop : goal.decreases-drop
decreases-drop l = goal.size-drop l

abbrev pub invariant-loop-self : goal.invariant-loop-self
invariant-loop-self l = size-Term l.self ≤ size-Term l.fn.self
