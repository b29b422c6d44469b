-- The shape of rows: what a row needs, beyond the types of its parts, to be read back.
use Rattle.std.specs.Prelude.{◌≡◌, ℕ, ◌+◌, ◌<◌, ◌^◌, Bool, true, ◌&&◌, nat_le, List, [], ◌∷◌, All, ⊤}
use Rattle.std.specs.List.{list_all}
use Rattle.std.specs.Str.{IsUtf8}
use Rattle.text_base.specs.Alphabets.{is_printed, between}
use Rattle.text_base.specs.Asked.{Asked}
use Rattle.text_base.specs.Requests.{is_valid}
use Rattle.goal_form.specs.Goals.{is_named_well}
use Rattle.goal_form.specs.declared.goal.Node.{Node}
use Rattle.goal_form.specs.declared.goal.Node.TheVariants as node
use Rattle.goal_form.specs.declared.goal.Row.{Row}
use Rattle.goal_form.specs.declared.goal.RowBody.{RowBody}
use Rattle.goal_form.specs.declared.goal.RowBody.TheVariants as row

-- a word: the number of the word that is its prefix, and its last byte
abbrev pub Word : Type 0
Word = ℕ × ℕ

-- after so many words: its prefix is one of them or the empty word, and its last byte is printed
abbrev pub is_word : ℕ → Word → Bool
is_word before w = nat_le w.0 before && is_printed w.1

abbrev pub are_words : ℕ → List Word → Bool
are_words before [] = true
are_words before (w ∷ ws) = is_word before w && are_words (before + 1) ws

-- headers have names that headers of requests may have, and words have earlier ones as prefixes
abbrev pub is_node : Node → Bool
is_node (node.Split atom) = true
is_node node.False = true
is_node (node.Clash field) = is_named_well field
is_node (node.Closed field words) = is_named_well field && are_words 0 words.list
is_node node.Rest = true
is_node (node.Capped field words) = is_named_well field && are_words 0 words.list

abbrev pub is_body : RowBody → Bool
is_body (row.Reached request) = true
is_body (row.Refuted nodes) = list_all is_node nodes
is_body (row.Undecided nodes splits states) = list_all is_node nodes && between 1 65536 splits && between 16 4096 states

-- the shape of a row; budgets are in the bounds of the options
abbrev pub is_shaped : Row → Bool
is_shaped r = is_body r.body

-- ---- what the types of the code give, since numbers and bytes are unbounded here

abbrev pub IsTypedWord : Word → Type 0
IsTypedWord w = w.0 < 2 ^ 64

abbrev pub IsTypedNode : Node → Type 0
IsTypedNode (node.Split atom) = atom < 2 ^ 32
IsTypedNode node.False = ⊤
IsTypedNode (node.Clash field) = ⊤
IsTypedNode (node.Closed field words) = All IsTypedWord words.list
IsTypedNode node.Rest = ⊤
IsTypedNode (node.Capped field words) = All IsTypedWord words.list

abbrev pub IsTypedRequest : Asked → Type 0
IsTypedRequest q = (is_valid q ≡ true) × (q.random < 2 ^ 64)

abbrev pub IsTypedBody : RowBody → Type 0
IsTypedBody (row.Reached request) = IsTypedRequest request
IsTypedBody (row.Refuted nodes) = All IsTypedNode nodes
IsTypedBody (row.Undecided nodes splits states) = All IsTypedNode nodes

-- the route is UTF-8, the request is valid, the numbers are in the ranges of their types
abbrev pub IsTypedRow : Row → Type 0
IsTypedRow r = IsUtf8 r.route × IsTypedBody r.body
