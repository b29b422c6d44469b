use Rattle.std.proofs.Common.{◌≡◌, ◌≤◌, ◌+◌, ◌-◌, ◌^◌, min}
use Rattle.rx_term.specs.declared.terms.Term.{size-Term}
use Rattle.rx_term.specs.Term.{nodes}
use Rattle.rx_term.proofs.terms.Term.+size.Given as goal

abbrev pub decreases-size : goal.decreases-size
decreases-size l = goal.size-size l

abbrev pub invariant-loop-rest : goal.invariant-loop-rest
invariant-loop-rest l =
    (size-Term l.rest ≤ size-Term l.fn.self) × (min (l.before + nodes l.rest) (2 ^ 64 - 1) ≡ min (nodes l.fn.self) (2 ^ 64 - 1))
