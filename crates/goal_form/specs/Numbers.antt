-- Atoms numbered in the order in which they came.
use Rattle.std.specs.Prelude.{◌≡◌, ℕ, ◌<◌, ◌^◌, List, [], ◌∷◌, ◌++◌, length, All, Contains, Some, slice_get, nat_eq}
use Rattle.indexmap.specs.IndexMap.{IndexMap, ContainsKey}
use Rattle.goal_form.specs.declared.atom.Atom.{Atom}
use Rattle.goal_form.specs.Goals.{AreDistinct}
use Rattle.goal_form.specs.Digests.{digest}

-- the place of the atom, which is the old list's, or comes last
pub data Numbers (old new : List Atom) (atom : Atom) (place : ℕ) : Type 0 where
  found : slice_get old place ≡ Some atom → new ≡ old → Numbers old new atom place
  added : (Contains old atom → ⊥) → place ≡ length old → new ≡ old ++ atom ∷ [] → Numbers old new atom place

-- the old atoms keep their places, and there may be more after them
pub record Grows (old new : List Atom) : Type 0 where
  pub more : List Atom
  pub is : new ≡ old ++ more

-- the digest of each atom is a key, no atom stands twice, and each has a number of 32 bits
pub record AreKept {S : Type 0} (places : IndexMap ℕ ℕ S) (list : List Atom) : Type 0 where
  pub keyed : All (λ x. ContainsKey nat_eq places (digest x)) list
  pub apart : AreDistinct list
  pub few : length list < 2 ^ 32
