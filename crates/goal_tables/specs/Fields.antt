-- Fields with the tables of their terms, and where atoms find theirs.
use Rattle.std.specs.Prelude.{◌≡◌, ℕ, ◌++◌, true, if◌then◌else◌, List, [], ◌∷◌, Some, length, slice_get}
use Rattle.text_base.specs.declared.request.Field.{Field}
use Rattle.rx_term.specs.declared.terms.Term.{Term}
use Rattle.rx_joint.specs.Meanings.{JointMeaning}
use Rattle.goal_form.specs.declared.atom.Atom.{Atom}
use Rattle.goal_form.specs.declared.atom.Atom.TheVariants.{Present, Within}
use Rattle.goal_form.specs.Fields.{same_field, is_always}
use Rattle.goal_form.specs.Goals.{field_in}
use Rattle.goal_form.specs.Valid.{valid_of}
use Rattle.goal_tables.specs.declared.fields.FieldTables.{FieldTables}
use Rattle.goal_tables.specs.declared.fields.Place.{Place}

-- the term that an atom names of the field, if any
abbrev pub term_of : Atom → Field → List Term
term_of (Present g) f = []
term_of (Within g term user) f = if same_field g f then term ∷ [] else []

-- the terms that atoms name of the field, in order
abbrev pub terms_of : List Atom → Field → List Term
terms_of [] f = []
terms_of (a ∷ atoms) f = term_of a f ++ terms_of atoms f

-- the field has this number
abbrev pub IsFieldAt : List FieldTables → ℕ → Field → Type 0
IsFieldAt fields i f = (e : FieldTables) × (slice_get fields i ≡ Some e) × (e.field ≡ f)

abbrev pub HasField : List FieldTables → Field → Type 0
HasField fields f = (i : ℕ) × IsFieldAt fields i f

-- the field of this number has this term under that one
abbrev pub HasTermAt : List FieldTables → ℕ → ℕ → Term → Type 0
HasTermAt fields i n t = (e : FieldTables) × (slice_get fields i ≡ Some e) × (slice_get e.joint.terms n ≡ Some t)

-- each has the table of its valid texts, and none stands twice
pub record AreFields (fields : List FieldTables) : Type 0 where
  pub valid : (i : ℕ) (e : FieldTables) → slice_get fields i ≡ Some e → e.joint.valid ≡ valid_of e.field
  pub apart : (i j : ℕ) (d e : FieldTables) → slice_get fields i ≡ Some d → slice_get fields j ≡ Some e → d.field ≡ e.field → i ≡ j

-- each field that requests always have is among them
abbrev pub HasAlways : List FieldTables → Type 0
HasAlways fields = (f : Field) → is_always f ≡ true → HasField fields f

-- the term that the atom names has this number
abbrev pub IsTermOf : List Term → ℕ → Atom → Type 0
IsTermOf terms n (Present f) = Unit {0}
IsTermOf terms n (Within f term user) = slice_get terms n ≡ Some term

-- the place is that of the atom's field and term
pub record IsPlaced (fields : List FieldTables) (a : Atom) (p : Place) : Type 0 where
  pub entry : FieldTables
  pub there : slice_get fields p.field ≡ Some entry
  pub same : entry.field ≡ field_in a
  pub term : IsTermOf entry.joint.terms p.term a

-- each atom has its place
pub record ArePlaced (fields : List FieldTables) (atoms : List Atom) (places : List Place) : Type 0 where
  pub long : length places ≡ length atoms
  pub each : (k : ℕ) (a : Atom) (p : Place) → slice_get atoms k ≡ Some a → slice_get places k ≡ Some p → IsPlaced fields a p

-- fields and terms keep their numbers, and there may be more of them
abbrev pub Extends : List FieldTables → List FieldTables → Type 0
Extends old new = (i : ℕ) (d : FieldTables) → slice_get old i ≡ Some d →
    (e : FieldTables) × (slice_get new i ≡ Some e) × (e.field ≡ d.field) × ((n : ℕ) (t : Term) → slice_get d.joint.terms n ≡ Some t → slice_get e.joint.terms n ≡ Some t)

-- the tables are those of the field
pub record IsJointOf (fields : List FieldTables) (f : Field) (j : JointMeaning) : Type 0 where
  pub there : (i : ℕ) × (e : FieldTables) × (slice_get fields i ≡ Some e) × (e.field ≡ f) × (e.joint ≡ j)
  pub only : (i : ℕ) (e : FieldTables) → slice_get fields i ≡ Some e → e.field ≡ f → e.joint ≡ j
