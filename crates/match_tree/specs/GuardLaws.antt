-- What the guards of a lawful tree say: the first true one is the tree's outcome with the routes' own rules, and each route
-- has one guard, in route order.
use Rattle.std.specs.Prelude.{◌≡◌, ℕ, Bool, IsTrue, if◌then◌else◌, List, [], ◌∷◌, Option, Some, None, length, filter_map}
use Rattle.std.specs.List.{range_with_len}
use Rattle.text_base.specs.Asked.{Asked}
use Rattle.text_base.specs.Requests.{is_valid}
use Rattle.text_base.specs.Seen.{seen}
use Rattle.goal_form.specs.declared.sight.Condition.{Condition}
use Rattle.goal_form.specs.Conditions.{condition_at}
use Rattle.goal_form.specs.Goals.{Shown}
use Rattle.cfg_types.specs.Choices.{first_accepted}
use Rattle.cfg_types.specs.Lawful.{IsLawfulTree}
use Rattle.cfg_types.specs.Order.{tree_routes}
use Rattle.cfg_types.specs.Trees.{Span, behind, tree_outcome, predicate_holds}
use Rattle.cfg_types.specs.declared.trees.Predicate.{Predicate}
use Rattle.cfg_types.specs.declared.trees.Tree.{Tree}
use Rattle.match_tree.specs.Guards.{Guard, predicate_condition, tree_guards}
use Rattle.match_tree.specs.LawfulParts.{IsFilledPredicate}

-- the route of the first guard that is true, where one is
abbrev pub first_true : Shown → List Guard → Option (Option ℕ)
first_true q [] = None
first_true q (g ∷ gs) = if condition_at q g.0 then Some g.1 else first_true q gs

-- the route that guards lead to: that of the first true one
abbrev pub led_to : Option (Option ℕ) → Option ℕ
led_to None = None
led_to (Some r) = r

abbrev pub guarded_route : Shown → List Guard → Option ℕ
guarded_route q gs = led_to (first_true q gs)

-- the first accepted route of an outcome
abbrev pub accepted_in : (ℕ → Bool) → Option Span → Option ℕ
accepted_in accepted None = None
accepted_in accepted (Some s) = first_accepted accepted s.0 s.1

-- the routes of guards, in order
abbrev pub guarded_routes : List Guard → List ℕ
guarded_routes gs = filter_map (λ g. g.1) gs

-- the condition of a predicate is true at a valid request exactly where the predicate holds
abbrev pub PredicateLaw : Type 0
PredicateLaw = (p : Predicate) (q : Asked) → IsFilledPredicate p → IsTrue (is_valid q) → condition_at (seen q) (predicate_condition p) ≡ predicate_holds q p

-- the first true guard leads to the first route of the tree's outcome whose rule is true
abbrev pub GuardLaw : Type 0
GuardLaw = (rule : ℕ → Condition) (t : Tree) (first : ℕ) (q : Asked) → IsLawfulTree t → IsTrue (is_valid q) →
    guarded_route (seen q) (tree_guards rule t first) ≡ accepted_in (λ r. condition_at (seen q) (rule r)) (behind first (tree_outcome q t))

-- the guards of a tree have its routes, one after the other
abbrev pub GuardNumbersLaw : Type 0
GuardNumbersLaw = (rule : ℕ → Condition) (t : Tree) (first : ℕ) → guarded_routes (tree_guards rule t first) ≡ range_with_len first (length (tree_routes t))
