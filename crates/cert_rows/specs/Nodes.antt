-- A node of a row. What is no array, or an empty one, is refused at the place of the node; then the letter is read; then a wrong
-- number of elements is refused at the place of the node; then the other elements are read in order.
use Rattle.std.specs.Prelude.{ℕ, List, Ok, Option, Some, None, codes, bytes_eq, if◌then◌else◌}
use Rattle.serde_json.specs.Data.{Items, no_items, item}
use Rattle.serde_json.specs.Find.{as_array}
use Rattle.json_walk.specs.declared.refusal.Kind.TheVariants.{WrongKind}
use Rattle.json_walk.specs.Outcome.{Outcome, offence, or_offence, ◌>>=◌}
use Rattle.json_walk.specs.Places.{at_index}
use Rattle.json_walk.specs.Fields.{Reading}
use Rattle.json_walk.specs.Leaves.{text, list_of}
use Rattle.json_walk.specs.Numbers.{count}
use Rattle.text_base.specs.Asked.{Bytes}
use Rattle.text_base.specs.declared.request.Field.{Field}
use Rattle.goal_form.specs.declared.goal.Node.{Node}
use Rattle.goal_form.specs.declared.goal.Node.TheVariants as node
use Rattle.cert_rows.specs.declared.letter.Letter.{Letter}
use Rattle.cert_rows.specs.declared.letter.Letter.TheVariants as letters
use Rattle.cert_rows.specs.Leaves.{none_of, one_of, two_of, field, words}
use Rattle.cert_rows.specs.Shapes.{Word}

unfoldable pub letter_named : Bytes → Option Letter
letter_named text =
    if bytes_eq text (codes "s") then Some letters.Split
    else if bytes_eq text (codes "b") then Some letters.False
    else if bytes_eq text (codes "c") then Some letters.Clash
    else if bytes_eq text (codes "e") then Some letters.Closed
    else if bytes_eq text (codes "o") then Some letters.Rest
    else if bytes_eq text (codes "q") then Some letters.Capped
    else None

unfoldable pub letter : Reading Letter
letter p d = text p d >>= λ t. or_offence p WrongKind (letter_named t)

-- the field and the words after the letter of the node at p
unfoldable pub field_words : List ℕ → Items → Outcome (Field × List Word)
field_words p ds = do
  both ← two_of p ds
  f ← field (at_index p 1) both.0
  ws ← words (at_index p 2) both.1
  Ok (f, ws)

unfoldable pub node_by : List ℕ → Letter → Items → Outcome Node
node_by p letters.Split ds = one_of p ds >>= λ d. count 0 4294967295 (at_index p 1) d >>= λ k. Ok (node.Split k)
node_by p letters.False ds = none_of p ds >>= λ _. Ok node.False
node_by p letters.Clash ds = one_of p ds >>= λ d. field (at_index p 1) d >>= λ f. Ok (node.Clash f)
node_by p letters.Closed ds = field_words p ds >>= λ b. Ok (node.Closed b.0 (record { list = b.1 }))
node_by p letters.Rest ds = none_of p ds >>= λ _. Ok node.Rest
node_by p letters.Capped ds = field_words p ds >>= λ b. Ok (node.Capped b.0 (record { list = b.1 }))

abbrev pub node_parts : List ℕ → Items → Outcome Node
node_parts p no_items = offence p WrongKind
node_parts p (item d ds) = letter (at_index p 0) d >>= λ l. node_by p l ds

unfoldable pub node_at : Reading Node
node_at p d = or_offence p WrongKind (as_array d) >>= λ ds. node_parts p ds

unfoldable pub nodes : Reading (List Node)
nodes = list_of None node_at
