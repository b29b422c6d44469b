-- What is known of the texts that were found last.
use Rattle.std.specs.Prelude.{◌≡◌, ℕ, ◌≤◌, ◌<◌, ◌↔◌, Bool, true, List, length, Option, Some, slice_get, IsTrue}
use Rattle.std.specs.List.{All, slice_index_or}
use Rattle.text_base.specs.Asked.{Bytes}
use Rattle.text_base.specs.declared.request.Field.{Field}
use Rattle.rx_term.specs.declared.terms.Term.{Term}
use Rattle.rx_term.specs.Language.{In}
use Rattle.rx_auto.specs.Node.{term_at}
use Rattle.goal_form.specs.Fields.{same_field}
use Rattle.goal_tables.specs.Meanings.{TablesMeaning}
use Rattle.goal_tables.specs.declared.fields.FieldTables.{FieldTables}
use Rattle.split_seek.specs.declared.kept.Kept.{Kept}

-- for each term, whether the text is in it, where that is known
pub record IsKnown (terms : List Term) (text : Bytes) (known : List (Option Bool)) : Type 0 where
  pub long : length known ≡ length terms
  pub right : (k : ℕ) (b : Bool) → slice_get known k ≡ Some (Some b) → (IsTrue b ↔ In text (term_at terms k))

-- a text that is kept is valid by its field's tables, and the same of their terms
abbrev pub IsKept : List FieldTables → Kept → Type 0
IsKept fields kept = (i : ℕ) (e : FieldTables) → slice_get fields i ≡ Some e → e.field ≡ kept.field → In kept.text e.joint.valid × IsKnown e.joint.terms kept.text kept.known.items

-- what is known of each text that is kept is right, and the room is enough to test texts
pub record AreHints (tables : TablesMeaning) (kept : List Kept) (room : ℕ) : Type 0 where
  pub roomy : tables.room ≤ room
  pub right : All (IsKept tables.fields) kept

-- the place is that of the field's text
pub record IsPlaceOf (kept : List Kept) (field : Field) (i : ℕ) : Type 0 where
  pub within : i < length kept
  pub same : (d : Kept) → same_field (slice_index_or kept i d).field field ≡ true
