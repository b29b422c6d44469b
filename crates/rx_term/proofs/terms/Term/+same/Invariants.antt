use Rattle.std.proofs.Common.{◌≡◌, ◌≤◌, ◌↔◌}
use Rattle.rx_term.specs.declared.terms.Term.{size-Term}
use Rattle.rx_term.proofs.terms.Term.+same.Given as goal

abbrev pub decreases-same : goal.decreases-same
decreases-same l = goal.size-same l

abbrev pub invariant-loop-rest : goal.invariant-loop-rest
invariant-loop-rest l = (size-Term l.rest ≤ size-Term l.fn.self) × ((l.rest ≡ l.against) ↔ (l.fn.self ≡ l.fn.other))
