use Rattle.std.proofs.Common.{◌≤◌, List}
use Rattle.rx_term.specs.declared.sets.ByteSet.{ByteSet}
use Rattle.rx_term.specs.declared.terms.Term.{size-Term}
use Rattle.rx_auto.specs.Classes.{AddsSets}
use Rattle.rx_auto.proofs.sets.+add_sets.Given as goal

abbrev pub decreases-add_sets : goal.decreases-add_sets
decreases-add_sets l = goal.size-add_sets l

abbrev pub invariant-loop-rest : goal.invariant-loop-rest
invariant-loop-rest l = record {
  depth : size-Term l.rest ≤ size-Term l.fn.term;
  adds : (new : List ByteSet) → AddsSets l.sets.items new l.rest → AddsSets l.initial.sets.items new l.fn.term;
}
