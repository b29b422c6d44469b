use Rattle.std.proofs.Common.{ℕ, map, take}
use Rattle.goal_form.specs.Numbers.{Grows}
use Rattle.goal_form.specs.declared.sight.Condition.{Condition}
use Rattle.match_tree.specs.Guards.{asked_in_turn, entry_asking, key_condition}
use Rattle.match_tree.specs.Told.{AreRules, IsAsked}
use Rattle.match_tree.proofs.AskingLayers.{key_asked}
use Rattle.match_tree.proofs.guard.+guards.Given as goal

abbrev pub invariant-add_entries-loop-entry : goal.invariant-add_entries-loop-entry
invariant-add_entries-loop-entry l = record {
  kept : Grows l.fn.atoms l.atoms;
  asked : (rule : ℕ → Condition) → AreRules l.fn.atoms l.rules.first l.rules.formulas.now rule →
      IsAsked (asked_in_turn (map (entry_asking rule) (take l.entry-index l.entries))) l.first l.next l.atoms l.fn.list l.list;
}

abbrev pub invariant-add_keys-loop-entry : goal.invariant-add_keys-loop-entry
invariant-add_keys-loop-entry l = record {
  kept : Grows l.fn.atoms l.atoms;
  asked : (rule : ℕ → Condition) → AreRules l.fn.atoms l.rules.first l.rules.formulas.now rule →
      IsAsked (asked_in_turn (map (key_asked rule (key_condition l.prefixes l.input)) (take l.entry-index l.keys))) l.first l.next l.atoms l.fn.list l.list;
}
