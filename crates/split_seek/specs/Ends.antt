-- Leaves at the end of a search.
use Rattle.std.specs.Prelude.{Bool, true, false, not, ◌&&◌, List, [], ◌∷◌}
use Rattle.goal_form.specs.declared.goal.Node.{Node}
use Rattle.goal_form.specs.declared.goal.Node.TheVariants.{Rest, Capped}
use Rattle.goal_form.specs.Formulas.{Path}

abbrev pub is_capped_node : Node → Bool
is_capped_node (Capped f words) = true
is_capped_node n = false

-- no leaf with too many states so far, after one more leaf
abbrev pub whole_with : Bool → Node → Bool
whole_with whole n = whole && not (is_capped_node n)

-- a part that wasn't looked at for each path
abbrev pub rests : List Path → List Node
rests [] = []
rests (p ∷ ps) = Rest ∷ rests ps
