use Rattle.match_tree.proofs.GuardPredicates.{predicate_law}
use Rattle.match_tree.proofs.GuardTrees.{guard_law}
use Rattle.match_tree.proofs.GuardNumbers.{guard_numbers_law}
use Rattle.match_tree.proofs.laws.guard_laws.Goals as goal

pub returns : goal.returns
returns c = record { predicates = predicate_law; first = guard_law; numbers = guard_numbers_law }
