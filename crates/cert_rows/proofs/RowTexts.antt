-- The pieces of a request or a row, in order, are its text.
use Rattle.std.proofs.Common.{◌≡◌, ℕ, true, false, cond, List, [], ◌∷◌, ◌++◌, Result}
use Rattle.std.specs.Prelude.{OnOk, is_ok, decimal, codes}
use Rattle.json.specs.Print.{quoted}
use Rattle.serde_json.specs.Data.{boolean, string, Members, no_members, member}
use Rattle.serde_json.specs.Written.{comma_if, compact_text}
use Rattle.json_tables.specs.Names as name
use Rattle.text_base.specs.Asked.{Bytes, Asked}
use Rattle.goal_form.specs.declared.goal.Node.{Node}
use Rattle.goal_form.specs.declared.goal.RowBody.TheVariants as row
use Rattle.cert_rows.specs.Values.{whole_value, heads_value, nodes_value, request_value, body_value}
use Rattle.cert_rows.proofs.Steps.{object_opened, member_written, named_member_written, object_closed}

pub request_written : {T E : Type 0} (q : Asked) (r : Result T E) (out s t0 n1 t1 t2 t3 t4 n5 t5 t6 t7 new : Bytes)
    → s ≡ out ++ 123 ∷ []
    → t0 ≡ s ++ (comma_if false ++ (quoted name.authority ++ 58 ∷ quoted q.authority))
    → n1 ≡ t0 ++ (comma_if true ++ (quoted name.headers ++ 58 ∷ []))
    → t1 ≡ n1 ++ compact_text (heads_value q.headers)
    → t2 ≡ t1 ++ (comma_if true ++ (quoted name.internal ++ 58 ∷ compact_text (boolean q.internal)))
    → t3 ≡ t2 ++ (comma_if true ++ (quoted name.method ++ 58 ∷ quoted q.method))
    → t4 ≡ t3 ++ (comma_if true ++ (quoted name.path ++ 58 ∷ quoted q.target))
    → n5 ≡ t4 ++ (comma_if true ++ (quoted name.random_value ++ 58 ∷ []))
    → t5 ≡ n5 ++ decimal q.random
    → t6 ≡ t5 ++ (comma_if true ++ (quoted name.runtime ++ 58 ∷ quoted q.runtime))
    → t7 ≡ t6 ++ (comma_if true ++ (quoted name.ssl ++ 58 ∷ compact_text (boolean q.https)))
    → new ≡ cond (is_ok r) (t7 ++ 125 ∷ []) t7
    → OnOk r (new ≡ out ++ compact_text (request_value q))
request_written q r out s t0 n1 t1 t2 t3 t4 n5 t5 t6 t7 new h0 h1 g2 h2 h3 h4 h5 g6 h6 h7 h8 last =
    let m7 : Members = member name.ssl (boolean q.https) no_members in
    let m6 : Members = member name.runtime (string q.runtime) m7 in
    let m5 : Members = member name.random_value (whole_value q.random) m6 in
    let m4 : Members = member name.path (string q.target) m5 in
    let m3 : Members = member name.method (string q.method) m4 in
    let m2 : Members = member name.internal (boolean q.internal) m3 in
    let m1 : Members = member name.headers (heads_value q.headers) m2 in
    let m0 : Members = member name.authority (string q.authority) m1 in
    let w0 = object_opened m0 out s h0 in
    let w1 = member_written name.authority (string q.authority) m1 false s t0 _ h1 w0 in
    let w2 = named_member_written name.headers (heads_value q.headers) m2 true t0 n1 t1 _ g2 h2 w1 in
    let w3 = member_written name.internal (boolean q.internal) m3 true t1 t2 _ h3 w2 in
    let w4 = member_written name.method (string q.method) m4 true t2 t3 _ h4 w3 in
    let w5 = member_written name.path (string q.target) m5 true t3 t4 _ h5 w4 in
    let w6 = named_member_written name.random_value (whole_value q.random) m6 true t4 n5 t5 _ g6 h6 w5 in
    let w7 = member_written name.runtime (string q.runtime) m7 true t5 t6 _ h7 w6 in
    let w8 = member_written name.ssl (boolean q.https) no_members true t6 t7 _ h8 w7 in
    object_closed r t7 new _ last w8

pub reached_written : {T E : Type 0} (place : Bytes) (q : Asked) (r : Result T E) (out s n0 t0 n1 t1 n2 t2 new : Bytes)
    → s ≡ out ++ 123 ∷ []
    → n0 ≡ s ++ (comma_if false ++ (quoted name.request ++ 58 ∷ []))
    → t0 ≡ n0 ++ compact_text (request_value q)
    → n1 ≡ t0 ++ (comma_if true ++ (quoted name.route ++ 58 ∷ []))
    → t1 ≡ n1 ++ quoted place
    → n2 ≡ t1 ++ (comma_if true ++ (quoted name.verdict ++ 58 ∷ []))
    → t2 ≡ n2 ++ quoted (codes "reached")
    → new ≡ cond (is_ok r) (t2 ++ 125 ∷ []) t2
    → OnOk r (new ≡ out ++ compact_text (body_value place (row.Reached q)))
reached_written place q r out s n0 t0 n1 t1 n2 t2 new h0 g1 h1 g2 h2 g3 h3 last =
    let m2 : Members = member name.verdict (string (codes "reached")) no_members in
    let m1 : Members = member name.route (string place) m2 in
    let m0 : Members = member name.request (request_value q) m1 in
    let w0 = object_opened m0 out s h0 in
    let w1 = named_member_written name.request (request_value q) m1 false s n0 t0 _ g1 h1 w0 in
    let w2 = named_member_written name.route (string place) m2 true t0 n1 t1 _ g2 h2 w1 in
    let w3 = named_member_written name.verdict (string (codes "reached")) no_members true t1 n2 t2 _ g3 h3 w2 in
    object_closed r t2 new _ last w3

pub refuted_written : {T E : Type 0} (place : Bytes) (nodes : List Node) (r : Result T E) (out s n0 t0 n1 t1 n2 t2 new : Bytes)
    → s ≡ out ++ 123 ∷ []
    → n0 ≡ s ++ (comma_if false ++ (quoted name.nodes ++ 58 ∷ []))
    → t0 ≡ n0 ++ compact_text (nodes_value nodes)
    → n1 ≡ t0 ++ (comma_if true ++ (quoted name.route ++ 58 ∷ []))
    → t1 ≡ n1 ++ quoted place
    → n2 ≡ t1 ++ (comma_if true ++ (quoted name.verdict ++ 58 ∷ []))
    → t2 ≡ n2 ++ quoted (codes "refuted")
    → new ≡ cond (is_ok r) (t2 ++ 125 ∷ []) t2
    → OnOk r (new ≡ out ++ compact_text (body_value place (row.Refuted nodes)))
refuted_written place nodes r out s n0 t0 n1 t1 n2 t2 new h0 g1 h1 g2 h2 g3 h3 last =
    let m2 : Members = member name.verdict (string (codes "refuted")) no_members in
    let m1 : Members = member name.route (string place) m2 in
    let m0 : Members = member name.nodes (nodes_value nodes) m1 in
    let w0 = object_opened m0 out s h0 in
    let w1 = named_member_written name.nodes (nodes_value nodes) m1 false s n0 t0 _ g1 h1 w0 in
    let w2 = named_member_written name.route (string place) m2 true t0 n1 t1 _ g2 h2 w1 in
    let w3 = named_member_written name.verdict (string (codes "refuted")) no_members true t1 n2 t2 _ g3 h3 w2 in
    object_closed r t2 new _ last w3

pub undecided_written : {T E : Type 0} (place : Bytes) (nodes : List Node) (splits : ℕ) (states : ℕ) (r : Result T E) (out s n0 t0 n1 t1 n2 t2 n3 t3 n4 t4 new : Bytes)
    → s ≡ out ++ 123 ∷ []
    → n0 ≡ s ++ (comma_if false ++ (quoted name.nodes ++ 58 ∷ []))
    → t0 ≡ n0 ++ compact_text (nodes_value nodes)
    → n1 ≡ t0 ++ (comma_if true ++ (quoted name.route ++ 58 ∷ []))
    → t1 ≡ n1 ++ quoted place
    → n2 ≡ t1 ++ (comma_if true ++ (quoted name.splits ++ 58 ∷ []))
    → t2 ≡ n2 ++ decimal splits
    → n3 ≡ t2 ++ (comma_if true ++ (quoted name.states ++ 58 ∷ []))
    → t3 ≡ n3 ++ decimal states
    → n4 ≡ t3 ++ (comma_if true ++ (quoted name.verdict ++ 58 ∷ []))
    → t4 ≡ n4 ++ quoted (codes "undecided")
    → new ≡ cond (is_ok r) (t4 ++ 125 ∷ []) t4
    → OnOk r (new ≡ out ++ compact_text (body_value place (row.Undecided nodes splits states)))
undecided_written place nodes splits states r out s n0 t0 n1 t1 n2 t2 n3 t3 n4 t4 new h0 g1 h1 g2 h2 g3 h3 g4 h4 g5 h5 last =
    let m4 : Members = member name.verdict (string (codes "undecided")) no_members in
    let m3 : Members = member name.states (whole_value states) m4 in
    let m2 : Members = member name.splits (whole_value splits) m3 in
    let m1 : Members = member name.route (string place) m2 in
    let m0 : Members = member name.nodes (nodes_value nodes) m1 in
    let w0 = object_opened m0 out s h0 in
    let w1 = named_member_written name.nodes (nodes_value nodes) m1 false s n0 t0 _ g1 h1 w0 in
    let w2 = named_member_written name.route (string place) m2 true t0 n1 t1 _ g2 h2 w1 in
    let w3 = named_member_written name.splits (whole_value splits) m3 true t1 n2 t2 _ g3 h3 w2 in
    let w4 = named_member_written name.states (whole_value states) m4 true t2 n3 t3 _ g4 h4 w3 in
    let w5 = named_member_written name.verdict (string (codes "undecided")) no_members true t3 n4 t4 _ g5 h5 w4 in
    object_closed r t4 new _ last w5
