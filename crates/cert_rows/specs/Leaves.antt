-- Parts of a row that are no objects, at their places. Only the place of an offence is part of the answer, not its kind.
use Rattle.std.specs.Prelude.{ℕ, ◌+◌, List, [], ◌∷◌, Ok, ⊤}
use Rattle.serde_json.specs.Data.{Data, Items, no_items, item}
use Rattle.serde_json.specs.Find.{as_array}
use Rattle.json_walk.specs.declared.refusal.Kind.TheVariants.{WrongKind}
use Rattle.json_walk.specs.Outcome.{Outcome, offence, or_offence, ◌>>=◌}
use Rattle.json_walk.specs.Places.{at_index}
use Rattle.json_walk.specs.Fields.{Reading}
use Rattle.json_walk.specs.Leaves.{text}
use Rattle.json_walk.specs.Numbers.{count}
use Rattle.text_base.specs.Asked.{Head}
use Rattle.text_base.specs.declared.request.Field.{Field}
use Rattle.cert_rows.specs.FieldNames.{field_named}
use Rattle.cert_rows.specs.Shapes.{Word}

-- no value is left
abbrev pub none_of : List ℕ → Items → Outcome ⊤
none_of p no_items = Ok tt
none_of p (item d ds) = offence p WrongKind

-- exactly one value, and exactly two
abbrev pub one_of : List ℕ → Items → Outcome Data
one_of p no_items = offence p WrongKind
one_of p (item d ds) = none_of p ds >>= λ _. Ok d

abbrev pub two_of : List ℕ → Items → Outcome (Data × Data)
two_of p no_items = offence p WrongKind
two_of p (item d ds) = one_of p ds >>= λ e. Ok (d, e)

-- an array of exactly two values
unfoldable pub pair : Reading (Data × Data)
pair p d = or_offence p WrongKind (as_array d) >>= λ ds. two_of p ds

unfoldable pub field : Reading Field
field p d = text p d >>= λ t. or_offence p WrongKind (field_named t)

-- the word after so many others, where the empty word is not counted
unfoldable pub word : ℕ → Reading Word
word before p d = do
  both ← pair p d
  parent ← count 0 before (at_index p 0) both.0
  byte ← count 32 126 (at_index p 1) both.1
  Ok (parent, byte)

-- the words after the first ones, of which there are `before`
unfoldable pub words_from : List ℕ → ℕ → Items → Outcome (List Word)
words_from p before no_items = Ok []
words_from p before (item d ds) = word before (at_index p before) d >>= λ w. words_from p (before + 1) ds >>= λ ws. Ok (w ∷ ws)

unfoldable pub words : Reading (List Word)
words p d = or_offence p WrongKind (as_array d) >>= λ ds. words_from p 0 ds

-- a header's name and value
unfoldable pub head : Reading Head
head p d = do
  both ← pair p d
  name ← text (at_index p 0) both.0
  value ← text (at_index p 1) both.1
  Ok (name, value)
