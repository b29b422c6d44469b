use Rattle.std.proofs.Common.{◌≡◌, ◌<◌, ℕ, false, get_or, take}
use Rattle.std.specs.Prelude.{vec_len}
use Rattle.std.specs.List.{list_any}
use Rattle.test_run.specs.Coverage.{is_sent_to}
use Rattle.test_run.proofs.coverage.flags_of.Given as goal

abbrev pub invariant-loop-choice : goal.invariant-loop-choice
invariant-loop-choice l = record {
  many : vec_len l.flags ≡ l.routes;
  sent : (r : ℕ) → r < l.routes → get_or l.flags.items r false ≡ list_any (is_sent_to r) (take l.choice-index l.choices);
}
