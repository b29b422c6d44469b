-- A row as a JSON value, with members in byte order of their names.
use Rattle.std.specs.Prelude.{ℕ, List, map, codes}
use Rattle.serde_json.specs.Data.{Data, boolean, number, string, array, object, no_items, item, no_members, member, unsigned}
use Rattle.serde_json.specs.View.{items_of}
use Rattle.json_tables.specs.Names as name
use Rattle.text_base.specs.Asked.{Bytes, Head, Asked}
use Rattle.text_base.specs.declared.request.Field.{Field}
use Rattle.goal_form.specs.declared.goal.Node.{Node}
use Rattle.goal_form.specs.declared.goal.Node.TheVariants as node
use Rattle.goal_form.specs.declared.goal.Row.{Row}
use Rattle.goal_form.specs.declared.goal.RowBody.{RowBody}
use Rattle.goal_form.specs.declared.goal.RowBody.TheVariants as row
use Rattle.cert_rows.specs.FieldNames.{field_text}
use Rattle.cert_rows.specs.Shapes.{Word}

abbrev pub whole_value : ℕ → Data
whole_value n = number (unsigned n)

abbrev pub pair_value : Data → Data → Data
pair_value d e = array (item d (item e no_items))

-- `[parent, byte]`
abbrev pub word_value : Word → Data
word_value w = pair_value (whole_value w.0) (whole_value w.1)

abbrev pub words_value : List Word → Data
words_value ws = array (items_of (map word_value ws))

-- a letter, a field and words
abbrev pub words_node : Bytes → Field → List Word → Data
words_node letter field ws = array (item (string letter) (item (string (field_text field)) (item (words_value ws) no_items)))

abbrev pub node_value : Node → Data
node_value (node.Split atom) = pair_value (string (codes "s")) (whole_value atom)
node_value node.False = array (item (string (codes "b")) no_items)
node_value (node.Clash field) = pair_value (string (codes "c")) (string (field_text field))
node_value (node.Closed field words) = words_node (codes "e") field words.list
node_value node.Rest = array (item (string (codes "o")) no_items)
node_value (node.Capped field words) = words_node (codes "q") field words.list

abbrev pub nodes_value : List Node → Data
nodes_value ns = array (items_of (map node_value ns))

abbrev pub head_value : Head → Data
head_value h = pair_value (string h.0) (string h.1)

abbrev pub heads_value : List Head → Data
heads_value hs = array (items_of (map head_value hs))

abbrev pub request_value : Asked → Data
request_value q = object
    (member name.authority (string q.authority)
    (member name.headers (heads_value q.headers)
    (member name.internal (boolean q.internal)
    (member name.method (string q.method)
    (member name.path (string q.target)
    (member name.random_value (whole_value q.random)
    (member name.runtime (string q.runtime)
    (member name.ssl (boolean q.https)
    no_members))))))))

abbrev pub body_value : Bytes → RowBody → Data
body_value place (row.Reached request) = object
    (member name.request (request_value request)
    (member name.route (string place)
    (member name.verdict (string (codes "reached"))
    no_members)))
body_value place (row.Refuted nodes) = object
    (member name.nodes (nodes_value nodes)
    (member name.route (string place)
    (member name.verdict (string (codes "refuted"))
    no_members)))
body_value place (row.Undecided nodes splits states) = object
    (member name.nodes (nodes_value nodes)
    (member name.route (string place)
    (member name.splits (whole_value splits)
    (member name.states (whole_value states)
    (member name.verdict (string (codes "undecided"))
    no_members)))))

abbrev pub row_value : Row → Data
row_value r = body_value r.route r.body
