use Rattle.std.proofs.Common.{◌≡◌, ◌≤◌}
use Rattle.rx_term.specs.declared.terms.Term.{size-Term}
use Rattle.rx_term.specs.Layers.{wrapped}
use Rattle.rx_term.proofs.terms.Term.+copy.Given as goal

abbrev pub decreases-copy : goal.decreases-copy
decreases-copy l = goal.size-copy l

abbrev pub invariant-loop-rest : goal.invariant-loop-rest
invariant-loop-rest l = (size-Term l.rest ≤ size-Term l.fn.self) × (wrapped l.layers l.rest ≡ l.fn.self)
