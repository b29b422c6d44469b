-- Lists of formulas that are lists of conditions.
use Rattle.std.specs.Prelude.{◌≡◌, List, [], ◌∷◌, ◌++◌}
use Rattle.goal_form.specs.declared.atom.Atom.{Atom}
use Rattle.goal_form.specs.declared.formula.Formula.{Formula}
use Rattle.goal_form.specs.declared.sight.Condition.{Condition}
use Rattle.goal_form.specs.Conditions.{IsMeant}

-- each formula is the condition at its place
abbrev pub AreMeant : List Atom → List Formula → List Condition → Type 0
AreMeant atoms [] [] = Unit {0}
AreMeant atoms [] (c ∷ cs) = ⊥
AreMeant atoms (f ∷ fs) [] = ⊥
AreMeant atoms (f ∷ fs) (c ∷ cs) = IsMeant atoms f c × AreMeant atoms fs cs

-- after the old list stand formulas that are these conditions
pub record AddsMeant (atoms : List Atom) (old new : List Formula) (conditions : List Condition) : Type 0 where
  pub added : List Formula
  pub is : new ≡ old ++ added
  pub meant : AreMeant atoms added conditions
