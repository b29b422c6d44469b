-- The tables of a goal, and what a path says of a field by their numbers.
use Rattle.std.specs.Prelude.{◌≡◌, ℕ, ◌≤◌, Bool, false, List, [], Option, Some, slice_get}
use Rattle.text_base.specs.declared.request.Field.{Field}
use Rattle.rx_joint.specs.Claims.{AreChosen, chosen}
use Rattle.goal_form.specs.declared.atom.Atom.{Atom}
use Rattle.goal_form.specs.Formulas.{Path}
use Rattle.goal_form.specs.Goals.{field_in, denies, is_user_of, claim_of, is_claimed_absent, has_user, claims_of}
use Rattle.goal_form.specs.Valid.{valid_of}
use Rattle.goal_tables.specs.declared.fields.FieldTables.{FieldTables}
use Rattle.goal_tables.specs.declared.fields.Place.{Place}
use Rattle.goal_tables.specs.declared.tables.FieldClaims.{FieldClaims}
use Rattle.goal_tables.specs.Fields.{AreFields, HasAlways, IsTermOf, ArePlaced, IsJointOf}
use Rattle.goal_tables.specs.Meanings.{TablesMeaning}

-- the room is enough for each of them
abbrev pub IsRoomy : List FieldTables → ℕ → Type 0
IsRoomy fields room = (i : ℕ) (e : FieldTables) → slice_get fields i ≡ Some e → e.joint.room ≤ room

-- the fields that tables are shared of, and where the atoms of all goals so far have theirs
pub record AreShared (fields : List FieldTables) (atoms : List Atom) (places : List Place) : Type 0 where
  pub formed : AreFields fields
  pub always : HasAlways fields
  pub placed : ArePlaced fields atoms places

pub record AreTables (atoms : List Atom) (fields : List FieldTables) (places : List Place) (room : ℕ) : Type 0 where
  pub formed : AreFields fields
  pub always : HasAlways fields
  pub placed : ArePlaced fields atoms places
  pub roomy : IsRoomy fields room

-- the atom is about the field with this number, and its term has that one
pub record NamesField (atoms : List Atom) (fields : List FieldTables) (k at n : ℕ) : Type 0 where
  pub atom : Atom
  pub is : slice_get atoms k ≡ Some atom
  pub entry : FieldTables
  pub there : slice_get fields at ≡ Some entry
  pub same : entry.field ≡ field_in atom
  pub term : IsTermOf entry.joint.terms n atom

-- an atom says nothing of the field, or there is none
pub record IsSilent (o : Option Atom) (f : Field) : Type 0 where
  pub denies_not : denies o f ≡ false
  pub user_not : is_user_of o f ≡ false
  pub claim_not : (b : Bool) → claim_of o b f ≡ []

-- what the path says of the field: whether it is claimed absent, whether a pattern of the user's stands for it, and the
-- claims on its texts, by the numbers of terms
pub record AreClaims (t : TablesMeaning) (path : Path) (f : Field) (c : FieldClaims) : Type 0 where
  pub joint : IsJointOf t.fields f c.joint.now
  pub valid : c.joint.now.valid ≡ valid_of f
  pub room : c.joint.now.room ≤ t.room
  pub absent : c.absent ≡ is_claimed_absent t.atoms path f
  pub user : c.user ≡ has_user t.atoms path f
  pub within : AreChosen c.joint.now.terms c.choice.items
  pub claims : chosen c.joint.now.terms c.choice.items ≡ claims_of t.atoms path f
