-- What contracts see of the tables of a goal.
use Rattle.std.specs.Prelude.{ℕ, List}
use Rattle.goal_form.specs.declared.atom.Atom.{Atom}
use Rattle.goal_tables.specs.declared.fields.FieldTables.{FieldTables}

-- its atoms, the fields with their tables, and the room that a test of a text needs
pub record TablesMeaning : Type 0 where
  pub atoms : List Atom
  pub fields : List FieldTables
  pub room : ℕ
