-- The value of a row is read back out of its text.
use Rattle.std.proofs.Common.{◌≡◌, ℕ, suc, ◌+◌, ◌<◌, ◌≤◌, ◌^◌, true, ◌&&◌, List, [], ◌∷◌, ◌++◌, map, Some, Ok, codes, refl, ap, ◌∙◌, arith}
use Rattle.std.specs.Prelude.{All, nat_le}
use Rattle.std.specs.List.{list_all}
use Rattle.std.specs.Str.{IsUtf8}
use Rattle.std.proofs.lemmas.Bool.{and_parts}
use Rattle.std.proofs.lemmas.Bool.Decides.{nat_tests}
use Rattle.std.proofs.lemmas.List.Elements.{All-head, All-tail}
use Rattle.std.proofs.lemmas.Str.{IsUtf8-append}
use Rattle.json.proofs.Printed.Utf8.{IsUtf8-are_ascii}
use Rattle.serde_json.specs.Data.{Data, string, boolean, array, no_items, item, no_members, member}
use Rattle.serde_json.specs.Read.{of_json, of_members, max_depth}
use Rattle.serde_json.specs.View.{items_of}
use Rattle.serde_json.specs.Written.{outline, members_outline}
use Rattle.json_tables.specs.Names as name
use Rattle.json_tables.specs.Names.{authority, headers, internal, method, path, random_value, runtime, ssl, request, route, verdict, nodes, splits, states}
use Rattle.text_base.specs.Alphabets.{is_printed, between}
use Rattle.text_base.specs.Asked.{Bytes, Head, Asked}
use Rattle.text_base.specs.Requests.{is_header, is_valid}
use Rattle.text_base.specs.declared.request.Field.{Field}
use Rattle.text_base.specs.declared.request.Field.TheVariants as field_kind
use Rattle.goal_form.specs.Goals.{is_named_well}
use Rattle.goal_form.specs.declared.goal.Node.{Node}
use Rattle.goal_form.specs.declared.goal.Node.TheVariants as node
use Rattle.goal_form.specs.declared.goal.Row.{Row}
use Rattle.goal_form.specs.declared.goal.RowBody.{RowBody}
use Rattle.goal_form.specs.declared.goal.RowBody.TheVariants as row
use Rattle.cert_rows.specs.FieldNames.{field_text}
use Rattle.cert_rows.specs.Shapes.{Word, is_word, are_words, is_node, is_body, is_shaped, IsTypedWord, IsTypedNode, IsTypedBody, IsTypedRow}
use Rattle.cert_rows.specs.Values.{whole_value, pair_value, word_value, words_node, node_value, nodes_value, head_value, heads_value, request_value, body_value, row_value}
use Rattle.cert_rows.specs.Lines.{row_text, row_line}
use Rattle.cert_rows.specs.Read.{row_at, of_value, or_shape}
use Rattle.cert_rows.specs.Laws.{RoundTripLaw}
use Rattle.cert_rows.proofs.Ascii.{name_is_text, heads_are_text, texts_of_valid}
use Rattle.cert_rows.proofs.Outlines.{IsRead, AreRead, string_read, boolean_read, whole_read, none_read, item_read, array_read, no_member_read, member_read, object_read, text_read, line_read}
use Rattle.cert_rows.proofs.RowsBack.{body_again}

-- ---- words and nodes

pair_read : (d e : Data) (n : ℕ) → IsRead d n → IsRead e n → IsRead (pair_value d e) (suc n)
pair_read d e n h k = array_read _ n (item_read d _ n h (item_read e no_items n k (none_read n)))

words_read : (before : ℕ) (ws : List Word) → are_words before ws ≡ true → All IsTypedWord ws → AreRead (items_of (map word_value ws)) 1
words_read before [] e h = none_read 1
words_read before (w ∷ ws) e h =
    let both = and_parts (is_word before w) (are_words (before + 1) ws) e in
    let printed = and_parts (nat_le w.0 before) (is_printed w.1) both.0 in
    let below = and_parts (nat_le 32 w.1) (nat_le w.1 126) printed.1 in
    let small : w.1 ≤ 126 = grind (arith, nat_tests, below.1) in
    let one = pair_read (whole_value w.0) (whole_value w.1) 0 (whole_read w.0 0 (All-head IsTypedWord w ws h)) (whole_read w.1 0 (omega arith)) in
    item_read (word_value w) _ 1 one (words_read (before + 1) ws both.1 (All-tail IsTypedWord w ws h))

field_is_text : (f : Field) → is_named_well f ≡ true → IsUtf8 (field_text f)
unfolding field_text
field_is_text field_kind.Authority e = IsUtf8-are_ascii _ refl
field_is_text field_kind.Target e = IsUtf8-are_ascii _ refl
field_is_text field_kind.Method e = IsUtf8-are_ascii _ refl
field_is_text field_kind.Proto e = IsUtf8-are_ascii _ refl
field_is_text field_kind.Random e = IsUtf8-are_ascii _ refl
field_is_text field_kind.Runtime e = IsUtf8-are_ascii _ refl
field_is_text field_kind.Internal e = IsUtf8-are_ascii _ refl
field_is_text (field_kind.Header n) e = IsUtf8-append (codes "header:") n (IsUtf8-are_ascii _ refl) (name_is_text n e)

words_node_read : (l : Bytes) (f : Field) (ws : List Word) → IsUtf8 l → is_named_well f ≡ true → are_words 0 ws ≡ true → All IsTypedWord ws → IsRead (words_node l f ws) 3
words_node_read l f ws u e g h =
    array_read _ 2 (item_read _ _ 2 (string_read l 2 u) (item_read _ _ 2 (string_read (field_text f) 2 (field_is_text f e)) (item_read _ _ 2 (array_read _ 1 (words_read 0 ws g h)) (none_read 2))))

letter_read : (l : Bytes) → IsUtf8 l → IsRead (array (item (string l) no_items)) 3
letter_read l u = array_read _ 2 (item_read _ _ 2 (string_read l 2 u) (none_read 2))

node_read : (n : Node) → is_node n ≡ true → IsTypedNode n → IsRead (node_value n) 3
node_read (node.Split k) e h = pair_read _ _ 2 (string_read _ 2 (IsUtf8-are_ascii _ refl)) (whole_read k 2 (omega arith))
node_read node.False e h = letter_read _ (IsUtf8-are_ascii _ refl)
node_read (node.Clash f) e h = pair_read _ _ 2 (string_read _ 2 (IsUtf8-are_ascii _ refl)) (string_read (field_text f) 2 (field_is_text f e))
node_read (node.Closed f words) e h = let both = and_parts (is_named_well f) (are_words 0 words.list) e in words_node_read _ f words.list (IsUtf8-are_ascii _ refl) both.0 both.1 h
node_read node.Rest e h = letter_read _ (IsUtf8-are_ascii _ refl)
node_read (node.Capped f words) e h = let both = and_parts (is_named_well f) (are_words 0 words.list) e in words_node_read _ f words.list (IsUtf8-are_ascii _ refl) both.0 both.1 h

some_nodes_read : (ns : List Node) → list_all is_node ns ≡ true → All IsTypedNode ns → AreRead (items_of (map node_value ns)) 3
some_nodes_read [] e h = none_read 3
some_nodes_read (n ∷ ns) e h =
    let both = and_parts (is_node n) (list_all is_node ns) e in
    item_read (node_value n) _ 3 (node_read n both.0 (All-head IsTypedNode n ns h)) (some_nodes_read ns both.1 (All-tail IsTypedNode n ns h))

nodes_read : (ns : List Node) → list_all is_node ns ≡ true → All IsTypedNode ns → IsRead (nodes_value ns) 4
nodes_read ns e h = array_read _ 3 (some_nodes_read ns e h)

-- ---- requests

heads_read : (hs : List Head) → list_all is_header hs ≡ true → AreRead (items_of (map head_value hs)) 1
heads_read [] e = none_read 1
heads_read (h ∷ hs) e =
    let both = and_parts (is_header h) (list_all is_header hs) e in
    let texts = heads_are_text h both.0 in
    item_read (head_value h) _ 1 (pair_read (string h.0) (string h.1) 0 (string_read h.0 0 texts.0) (string_read h.1 0 texts.1)) (heads_read hs both.1)

-- the names of members are text
pub record AreNamed : Type 0 where
  pub authority : IsUtf8 name.authority
  pub headers : IsUtf8 name.headers
  pub internal : IsUtf8 name.internal
  pub method : IsUtf8 name.method
  pub path : IsUtf8 name.path
  pub random_value : IsUtf8 name.random_value
  pub runtime : IsUtf8 name.runtime
  pub ssl : IsUtf8 name.ssl
  pub request : IsUtf8 name.request
  pub route : IsUtf8 name.route
  pub verdict : IsUtf8 name.verdict
  pub nodes : IsUtf8 name.nodes
  pub splits : IsUtf8 name.splits
  pub states : IsUtf8 name.states

are_named : AreNamed
unfolding authority headers internal method path random_value runtime ssl request route verdict nodes splits states
are_named = record {
  authority = IsUtf8-are_ascii _ refl;
  headers = IsUtf8-are_ascii _ refl;
  internal = IsUtf8-are_ascii _ refl;
  method = IsUtf8-are_ascii _ refl;
  path = IsUtf8-are_ascii _ refl;
  random_value = IsUtf8-are_ascii _ refl;
  runtime = IsUtf8-are_ascii _ refl;
  ssl = IsUtf8-are_ascii _ refl;
  request = IsUtf8-are_ascii _ refl;
  route = IsUtf8-are_ascii _ refl;
  verdict = IsUtf8-are_ascii _ refl;
  nodes = IsUtf8-are_ascii _ refl;
  splits = IsUtf8-are_ascii _ refl;
  states = IsUtf8-are_ascii _ refl;
}

-- members in byte order stay as they are
request_order : (d0 d1 d2 d3 d4 d5 d6 d7 : Data) → of_json (outline d0) ≡ Some d0 → of_json (outline d1) ≡ Some d1 → of_json (outline d2) ≡ Some d2 → of_json (outline d3) ≡ Some d3 → of_json (outline d4) ≡ Some d4 → of_json (outline d5) ≡ Some d5 → of_json (outline d6) ≡ Some d6 → of_json (outline d7) ≡ Some d7
    → of_members (members_outline (member name.authority d0 (member name.headers d1 (member name.internal d2 (member name.method d3 (member name.path d4 (member name.random_value d5 (member name.runtime d6 (member name.ssl d7 no_members))))))))) no_members ≡ Some (member name.authority d0 (member name.headers d1 (member name.internal d2 (member name.method d3 (member name.path d4 (member name.random_value d5 (member name.runtime d6 (member name.ssl d7 no_members))))))))
unfolding authority headers internal method path random_value runtime ssl
request_order d0 d1 d2 d3 d4 d5 d6 d7 h0 h1 h2 h3 h4 h5 h6 h7 = rw (h0, h1, h2, h3, h4, h5, h6, h7) refl

reached_order : (d0 d1 d2 : Data) → of_json (outline d0) ≡ Some d0 → of_json (outline d1) ≡ Some d1 → of_json (outline d2) ≡ Some d2
    → of_members (members_outline (member name.request d0 (member name.route d1 (member name.verdict d2 no_members)))) no_members ≡ Some (member name.request d0 (member name.route d1 (member name.verdict d2 no_members)))
unfolding request route verdict
reached_order d0 d1 d2 h0 h1 h2 = rw (h0, h1, h2) refl

refuted_order : (d0 d1 d2 : Data) → of_json (outline d0) ≡ Some d0 → of_json (outline d1) ≡ Some d1 → of_json (outline d2) ≡ Some d2
    → of_members (members_outline (member name.nodes d0 (member name.route d1 (member name.verdict d2 no_members)))) no_members ≡ Some (member name.nodes d0 (member name.route d1 (member name.verdict d2 no_members)))
unfolding nodes route verdict
refuted_order d0 d1 d2 h0 h1 h2 = rw (h0, h1, h2) refl

undecided_order : (d0 d1 d2 d3 d4 : Data) → of_json (outline d0) ≡ Some d0 → of_json (outline d1) ≡ Some d1 → of_json (outline d2) ≡ Some d2 → of_json (outline d3) ≡ Some d3 → of_json (outline d4) ≡ Some d4
    → of_members (members_outline (member name.nodes d0 (member name.route d1 (member name.splits d2 (member name.states d3 (member name.verdict d4 no_members)))))) no_members ≡ Some (member name.nodes d0 (member name.route d1 (member name.splits d2 (member name.states d3 (member name.verdict d4 no_members)))))
unfolding nodes route splits states verdict
undecided_order d0 d1 d2 d3 d4 h0 h1 h2 h3 h4 = rw (h0, h1, h2, h3, h4) refl

request_read : (q : Asked) → is_valid q ≡ true → q.random < 2 ^ 64 → IsRead (request_value q) 3
request_read q valid small =
    let t = texts_of_valid q valid in
    let r0 = string_read q.authority 2 t.authority in
    let r1 = array_read _ 1 (heads_read q.headers t.headers) in
    let r2 = boolean_read q.internal 2 in
    let r3 = string_read q.method 2 t.method in
    let r4 = string_read q.target 2 t.target in
    let r5 = whole_read q.random 2 small in
    let r6 = string_read q.runtime 2 t.runtime in
    let r7 = boolean_read q.https 2 in
    object_read _ 2 (request_order (string q.authority) (heads_value q.headers) (boolean q.internal) (string q.method) (string q.target) (whole_value q.random) (string q.runtime) (boolean q.https) (r0).again (r1).again (r2).again (r3).again (r4).again (r5).again (r6).again (r7).again)
    (member_read name.authority (string q.authority) _ 2 are_named.authority r0 (member_read name.headers (heads_value q.headers) _ 2 are_named.headers r1 (member_read name.internal (boolean q.internal) _ 2 are_named.internal r2 (member_read name.method (string q.method) _ 2 are_named.method r3 (member_read name.path (string q.target) _ 2 are_named.path r4 (member_read name.random_value (whole_value q.random) _ 2 are_named.random_value r5 (member_read name.runtime (string q.runtime) _ 2 are_named.runtime r6 (member_read name.ssl (boolean q.https) _ 2 are_named.ssl r7 (no_member_read 2)))))))))

reached_read : (place : Bytes) (q : Asked) → IsUtf8 place → is_valid q ≡ true → q.random < 2 ^ 64 → IsRead (body_value place (row.Reached q)) 4
reached_read place q u valid small =
    let r0 = request_read q valid small in
    let r1 = string_read place 3 u in
    let r2 = string_read (codes "reached") 3 (IsUtf8-are_ascii _ refl) in
    object_read _ 3 (reached_order (request_value q) (string place) (string (codes "reached")) (r0).again (r1).again (r2).again)
    (member_read name.request (request_value q) _ 3 are_named.request r0 (member_read name.route (string place) _ 3 are_named.route r1 (member_read name.verdict (string (codes "reached")) _ 3 are_named.verdict r2 (no_member_read 3))))

refuted_read : (place : Bytes) (ns : List Node) → IsUtf8 place → list_all is_node ns ≡ true → All IsTypedNode ns → IsRead (body_value place (row.Refuted ns)) 5
refuted_read place ns u e h =
    let r0 = nodes_read ns e h in
    let r1 = string_read place 4 u in
    let r2 = string_read (codes "refuted") 4 (IsUtf8-are_ascii _ refl) in
    object_read _ 4 (refuted_order (nodes_value ns) (string place) (string (codes "refuted")) (r0).again (r1).again (r2).again)
    (member_read name.nodes (nodes_value ns) _ 4 are_named.nodes r0 (member_read name.route (string place) _ 4 are_named.route r1 (member_read name.verdict (string (codes "refuted")) _ 4 are_named.verdict r2 (no_member_read 4))))

undecided_read : (place : Bytes) (ns : List Node) (a b : ℕ) → IsUtf8 place → list_all is_node ns ≡ true → All IsTypedNode ns → a < 2 ^ 64 → b < 2 ^ 64 → IsRead (body_value place (row.Undecided ns a b)) 5
undecided_read place ns a b u e h small also =
    let r0 = nodes_read ns e h in
    let r1 = string_read place 4 u in
    let r2 = whole_read a 4 small in
    let r3 = whole_read b 4 also in
    let r4 = string_read (codes "undecided") 4 (IsUtf8-are_ascii _ refl) in
    object_read _ 4 (undecided_order (nodes_value ns) (string place) (whole_value a) (whole_value b) (string (codes "undecided")) (r0).again (r1).again (r2).again (r3).again (r4).again)
    (member_read name.nodes (nodes_value ns) _ 4 are_named.nodes r0 (member_read name.route (string place) _ 4 are_named.route r1 (member_read name.splits (whole_value a) _ 4 are_named.splits r2 (member_read name.states (whole_value b) _ 4 are_named.states r3 (member_read name.verdict (string (codes "undecided")) _ 4 are_named.verdict r4 (no_member_read 4))))))

deeper : (d : Data) (n most : ℕ) → n ≤ most → IsRead d n → IsRead d most
deeper d n most h r = record { again = r.again; numbers = r.numbers; shallow = omega (arith, r.shallow); text = r.text }

body_read : (place : Bytes) (body : RowBody) → IsUtf8 place → is_body body ≡ true → IsTypedBody body → IsRead (body_value place body) max_depth
body_read place (row.Reached q) u e h = deeper _ 4 max_depth (omega arith) (reached_read place q u h.0 h.1)
body_read place (row.Refuted ns) u e h = deeper _ 5 max_depth (omega arith) (refuted_read place ns u e h)
body_read place (row.Undecided ns a b) u e h =
    let both = and_parts (list_all is_node ns && between 1 65536 a) (between 16 4096 b) e in
    let left = and_parts (list_all is_node ns) (between 1 65536 a) both.0 in
    let first = and_parts (nat_le 1 a) (nat_le a 65536) left.1 in
    let second = and_parts (nat_le 16 b) (nat_le b 4096) both.1 in
    let small : a ≤ 65536 = grind (arith, nat_tests, first.1) in
    let also : b ≤ 4096 = grind (arith, nat_tests, second.1) in
    deeper _ 5 max_depth (omega arith) (undecided_read place ns a b u left.0 h (omega arith) (omega arith))

pub round_trip : RoundTripLaw
unfolding row_at row_line row_text
round_trip r e h =
    let read = body_read r.route r.body h.0 e h.1 in
    let back = body_again [] r.route r.body e h.1 in
    (ap of_value (line_read (row_value r) read) ∙ ap or_shape back, ap of_value (text_read (row_value r) read) ∙ ap or_shape back)

pub text_is : (r : Row) (line text : Bytes) → is_shaped r ≡ true → IsTypedRow r → text ≡ row_text r → line ≡ text → row_at line ≡ Ok r
text_is r line text e h t l = ap row_at (l ∙ t) ∙ (round_trip r e h).1

pub line_is : (r : Row) (line text : Bytes) → is_shaped r ≡ true → IsTypedRow r → text ≡ row_text r → line ≡ text ++ 10 ∷ [] → row_at line ≡ Ok r
unfolding row_line
line_is r line text e h t l = ap row_at (l ∙ ap (λ s. s ++ 10 ∷ []) t) ∙ (round_trip r e h).0
