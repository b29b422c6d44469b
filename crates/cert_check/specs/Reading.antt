-- Nodes that are read one after the other.
use Rattle.std.specs.Prelude.{◌≡◌, ℕ, Bool, true, false, ◌||◌, List, [], ◌∷◌}
use Rattle.goal_form.specs.declared.formula.Truth.TheVariants as truth
use Rattle.goal_form.specs.declared.goal.Goal.{Goal}
use Rattle.goal_form.specs.declared.goal.Node.{Node}
use Rattle.goal_form.specs.declared.goal.Node.TheVariants.{Split, Rest}
use Rattle.goal_form.specs.Formulas.{Path, value_on}
use Rattle.goal_form.specs.Refutations.{then_atom, MaySplit}
use Rattle.goal_form.specs.Unfinished.{MayLeave, is_rest}

-- the value is open at the first part that wasn't looked at
abbrev pub OpenIf : Goal → Bool → Path → Type 0
OpenIf goal true path = Unit {0}
OpenIf goal false path = value_on path goal.formula ≡ truth.Unknown

-- a leaf of an unfinished tree, where it is told whether a part that wasn't looked at came before
abbrev pub LeafAt : Goal → ℕ → Bool → Path → Node → Type 0
LeafAt goal cap seen path (Split k) = ⊥
LeafAt goal cap seen path Rest = OpenIf goal seen path
LeafAt goal cap seen path n = MayLeave goal cap path n

-- the nodes are a tree for each path that waits, one after the other, and the first part that wasn't looked at is open
abbrev pub ReadsOn : Goal → ℕ → Bool → List Path → List Node → Type 0
ReadsOn goal cap seen [] [] = Unit {0}
ReadsOn goal cap seen [] (n ∷ ns) = ⊥
ReadsOn goal cap seen (p ∷ ps) [] = ⊥
ReadsOn goal cap seen (p ∷ ps) (Split k ∷ ns) = MaySplit goal p k × ReadsOn goal cap seen (then_atom p k true ∷ then_atom p k false ∷ ps) ns
ReadsOn goal cap seen (p ∷ ps) (n ∷ ns) = LeafAt goal cap seen p n × ReadsOn goal cap (seen || is_rest n) ps ns
