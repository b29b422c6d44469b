-- The parts of a row are read back out of their values.
use Rattle.std.proofs.Common.{◌≡◌, ℕ, ◌+◌, true, List, [], ◌∷◌, ◌++◌, map, Some, Ok, codes, refl, arith}
use Rattle.std.specs.Prelude.{All, nat_le}
use Rattle.std.specs.List.{list_all}
use Rattle.std.proofs.lemmas.Bool.{and_parts}
use Rattle.std.proofs.lemmas.Bool.Decides.{nat_tests}
use Rattle.std.proofs.lemmas.List.Elements.{All-head, All-tail}
use Rattle.serde_json.specs.Data.{string, no_items, item}
use Rattle.serde_json.specs.View.{items_of}
use Rattle.json_walk.specs.Places.{at_index}
use Rattle.json_walk.specs.Leaves.{text, items, list, list_of}
use Rattle.text_base.specs.Alphabets.{is_printed}
use Rattle.text_base.specs.Asked.{Bytes, Head}
use Rattle.text_base.specs.Requests.{is_header_name}
use Rattle.text_base.specs.declared.request.Field.{Field}
use Rattle.text_base.specs.declared.request.Field.TheVariants as field_kind
use Rattle.goal_form.specs.Goals.{is_named_well}
use Rattle.goal_form.specs.declared.goal.Node.{Node}
use Rattle.goal_form.specs.declared.goal.Node.TheVariants as node
use Rattle.cert_rows.specs.FieldNames.{field_text, field_named}
use Rattle.cert_rows.specs.Shapes.{Word, is_word, are_words, is_node, IsTypedNode}
use Rattle.cert_rows.specs.Values.{word_value, words_value, node_value, nodes_value, head_value, heads_value}
use Rattle.cert_rows.specs.Leaves.{pair, field, word, words_from, words, head}
use Rattle.cert_rows.specs.Nodes.{letter, letter_named, field_words, node_by, node_at, nodes}
use Rattle.cert_rows.specs.Requests.{heads}
use Rattle.cert_rows.proofs.WordSteps.{counted, quick_is}

word_again : (before : ℕ) (p : List ℕ) (w : Word) → is_word before w ≡ true → word before p (word_value w) ≡ Ok w
word_again before p w e =
    let both = and_parts (nat_le w.0 before) (is_printed w.1) e in
    let printed = and_parts (nat_le 32 w.1) (nat_le w.1 126) both.1 in
    quick_is before w.0 w.1 (word_value w) refl (grind (arith, nat_tests, both.0)) (grind (arith, nat_tests, printed.0)) (grind (arith, nat_tests, printed.1)) p

words_again : (p : List ℕ) (before : ℕ) (ws : List Word) → are_words before ws ≡ true → words_from p before (items_of (map word_value ws)) ≡ Ok ws
unfolding words_from
words_again p before [] e = refl
words_again p before (w ∷ ws) e =
    let both = and_parts (is_word before w) (are_words (before + 1) ws) e in
    rw (word_again before (at_index p before) w both.0, words_again p (before + 1) ws both.1) refl

all_words_again : (p : List ℕ) (ws : List Word) → are_words 0 ws ≡ true → words p (words_value ws) ≡ Ok ws
unfolding words
all_words_again p ws e = words_again p 0 ws e

header_again : (n : Bytes) → is_header_name n ≡ true → field_named (codes "header:" ++ n) ≡ Some (field_kind.Header n)
unfolding field_named
header_again n e = rw e refl

named_again : (f : Field) → is_named_well f ≡ true → field_named (field_text f) ≡ Some f
unfolding field_text field_named
named_again field_kind.Authority e = refl
named_again field_kind.Target e = refl
named_again field_kind.Method e = refl
named_again field_kind.Proto e = refl
named_again field_kind.Random e = refl
named_again field_kind.Runtime e = refl
named_again field_kind.Internal e = refl
named_again (field_kind.Header n) e = header_again n e

field_again : (p : List ℕ) (f : Field) → is_named_well f ≡ true → field p (string (field_text f)) ≡ Ok f
unfolding field text
field_again p f e = rw (named_again f e) refl

fields_again : (p : List ℕ) (f : Field) (ws : List Word) → is_named_well f ≡ true → are_words 0 ws ≡ true → field_words p (item (string (field_text f)) (item (words_value ws) no_items)) ≡ Ok (f, ws)
unfolding field_words
fields_again p f ws e g = rw (field_again (at_index p 1) f e, all_words_again (at_index p 2) ws g) refl

node_again : (p : List ℕ) (n : Node) → is_node n ≡ true → IsTypedNode n → node_at p (node_value n) ≡ Ok n
unfolding node_at letter letter_named text node_by
node_again p (node.Split k) e h = rw (counted 0 4294967295 k (at_index p 1) (omega arith) (omega arith)) refl
node_again p node.False e h = refl
node_again p (node.Clash f) e h = rw (field_again (at_index p 1) f e) refl
node_again p (node.Closed f words) e h = let both = and_parts (is_named_well f) (are_words 0 words.list) e in rw (fields_again p f words.list both.0 both.1) refl
node_again p node.Rest e h = refl
node_again p (node.Capped f words) e h = let both = and_parts (is_named_well f) (are_words 0 words.list) e in rw (fields_again p f words.list both.0 both.1) refl

some_nodes_again : (p : List ℕ) (i : ℕ) (ns : List Node) → list_all is_node ns ≡ true → All IsTypedNode ns → items p node_at i (items_of (map node_value ns)) ≡ Ok ns
unfolding items
some_nodes_again p i [] e h = refl
some_nodes_again p i (n ∷ ns) e h =
    let both = and_parts (is_node n) (list_all is_node ns) e in
    rw (node_again (at_index p i) n both.0 (All-head IsTypedNode n ns h), some_nodes_again p (i + 1) ns both.1 (All-tail IsTypedNode n ns h)) refl

pub nodes_again : (p : List ℕ) (ns : List Node) → list_all is_node ns ≡ true → All IsTypedNode ns → nodes p (nodes_value ns) ≡ Ok ns
unfolding nodes list_of list
nodes_again p ns e h = some_nodes_again p 0 ns e h

head_again : (p : List ℕ) (h : Head) → head p (head_value h) ≡ Ok h
unfolding head pair text
head_again p h = refl

some_heads_again : (p : List ℕ) (i : ℕ) (hs : List Head) → items p head i (items_of (map head_value hs)) ≡ Ok hs
unfolding items
some_heads_again p i [] = refl
some_heads_again p i (h ∷ hs) = rw (head_again (at_index p i) h, some_heads_again p (i + 1) hs) refl

pub heads_again : (p : List ℕ) (hs : List Head) → heads p (heads_value hs) ≡ Ok hs
unfolding heads list_of list
heads_again p hs = some_heads_again p 0 hs
