-- Formulas that are guards, over a list of atoms.
use Rattle.std.specs.Prelude.{◌≡◌, ℕ, ◌+◌, List, [], ◌∷◌, ◌++◌, Some, slice_get}
use Rattle.goal_form.specs.declared.atom.Atom.{Atom}
use Rattle.goal_form.specs.declared.formula.Formula.{Formula}
use Rattle.goal_form.specs.declared.sight.Condition.{Condition}
use Rattle.goal_form.specs.Conditions.{IsMeant}
use Rattle.match_tree.specs.Guards.{Guard as Meant, Asking}
use Rattle.match_tree.specs.declared.guard.Guard.{Guard}

-- each formula is the condition of the guard at its place, and has its route
abbrev pub AreGuards : List Atom → List Guard → List Meant → Type 0
AreGuards atoms [] [] = Unit {0}
AreGuards atoms [] (c ∷ cs) = ⊥
AreGuards atoms (g ∷ gs) [] = ⊥
AreGuards atoms (g ∷ gs) (c ∷ cs) = IsMeant atoms g.formula c.0 × (g.route ≡ c.1) × AreGuards atoms gs cs

-- after the old list stand these guards
pub record AddsGuards (atoms : List Atom) (old new : List Guard) (guards : List Meant) : Type 0 where
  pub added : List Guard
  pub is : new ≡ old ++ added
  pub meant : AreGuards atoms added guards

-- the formulas are the rules of routes, of which the first has the number `first`
abbrev pub AreRules : List Atom → ℕ → List Formula → (ℕ → Condition) → Type 0
AreRules atoms first formulas rule = (k : ℕ) (f : Formula) → slice_get formulas k ≡ Some f → IsMeant atoms f (rule (first + k))

-- what a part of a tree asks stands after the old list, and `next` is the number after its last route
pub record IsAsked (asking : Asking) (first next : ℕ) (atoms : List Atom) (old new : List Guard) : Type 0 where
  pub size : next ≡ first + asking.size
  pub guards : AddsGuards atoms old new (asking.guards first)
