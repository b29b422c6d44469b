use Rattle.std.proofs.Common.{◌≡◌, List, take}
use Rattle.goal_form.specs.Conditions.{IsMeant}
use Rattle.goal_form.specs.declared.atom.Atom.{Atom}
use Rattle.goal_form.specs.declared.sight.Condition.{Condition}
use Rattle.match_tree.specs.Guards.{Guard as Meant}
use Rattle.match_tree.specs.Told.{AreGuards, AddsGuards}
use Rattle.match_tree.proofs.GuardLists.{each_where}
use Rattle.match_tree.proofs.guard.add_conditioned.Given as goal

abbrev pub invariant-loop-guard : goal.invariant-loop-guard
invariant-loop-guard l = record {
  same : l.condition ≡ l.fn.condition;
  added : (atoms : List Atom) (c : Condition) (gs : List Meant) → IsMeant atoms l.fn.condition c → AreGuards atoms l.guards gs → AddsGuards atoms l.fn.list l.list (each_where c (take l.guard-index gs));
}
