use Rattle.std.proofs.Common.{◌≡◌, ℕ, ◌+◌, List}
use Rattle.goal_form.specs.declared.atom.Atom.{Atom}
use Rattle.goal_form.specs.declared.sight.Condition.{Condition}
use Rattle.match_tree.specs.Guards.{route_guards}
use Rattle.match_tree.specs.Told.{AddsGuards, AreRules}
use Rattle.match_tree.proofs.guard.add_routes.Given as goal

abbrev pub invariant-loop : goal.invariant-loop
invariant-loop l = record {
  next : l.next ≡ l.first + l.counter;
  added : (atoms : List Atom) (rule : ℕ → Condition) → AreRules atoms l.rules.first l.rules.formulas.now rule → AddsGuards atoms l.fn.list l.list (route_guards rule l.first l.counter);
}
