-- What is written of a row is read as the row.
use Rattle.std.proofs.Common.{◌≡◌, ℕ, ◌<◌, ◌≤◌, ◌^◌, true, ◌&&◌, List, Ok, refl, arith}
use Rattle.std.specs.Prelude.{All, nat_le}
use Rattle.std.specs.List.{list_all}
use Rattle.std.proofs.lemmas.Bool.{and_parts}
use Rattle.std.proofs.lemmas.Bool.Decides.{nat_tests}
use Rattle.json_tables.specs.Names.{authority, headers, internal, method, path, random_value, runtime, ssl, request, route, verdict, nodes, splits, states}
use Rattle.json_tables.specs.declared.message.Message.TheVariants.{RowRequest, ReachedRow, RefutedRow, UndecidedRow}
use Rattle.json_walk.specs.Members.{members_at, scan_object, scan, judge, allowed, known, once, names_of, is_object}
use Rattle.json_walk.specs.Fields.{required, field}
use Rattle.json_walk.specs.Leaves.{text, truth}
use Rattle.text_base.specs.Alphabets.{between}
use Rattle.text_base.specs.Asked.{Asked}
use Rattle.text_base.specs.Requests.{is_valid}
use Rattle.text_base.proofs.Valid.{valid_without_bad_part}
use Rattle.goal_form.specs.declared.goal.Node.{Node}
use Rattle.goal_form.specs.declared.goal.RowBody.{RowBody}
use Rattle.goal_form.specs.declared.goal.RowBody.TheVariants as row
use Rattle.cert_rows.specs.Shapes.{is_node, is_body, IsTypedNode, IsTypedBody}
use Rattle.cert_rows.specs.Values.{request_value, body_value}
use Rattle.cert_rows.specs.Requests as asked
use Rattle.cert_rows.specs.Rows as rows
use Rattle.cert_rows.specs.Rows.{reached, refuted, undecided, verdict_of, verdict_named, by_verdict, row_of}
use Rattle.cert_rows.specs.Requests.{parts, random}
use Rattle.cert_rows.proofs.WordSteps.{counted}
use Rattle.cert_rows.proofs.ReadsBack.{heads_again, nodes_again}

-- ---- requests

request_members : (p : List ℕ) (q : Asked) → members_at RowRequest p (request_value q) ≡ Ok (names_of RowRequest (request_value q))
unfolding members_at scan_object scan judge allowed known once authority headers internal method path random_value runtime ssl
request_members p q = refl

parts_again : (p : List ℕ) (q : Asked) → q.random < 2 ^ 64 → parts p (request_value q) ≡ Ok q
unfolding parts required field text truth random authority headers internal method path random_value runtime ssl
parts_again p q h = rw (heads_again _ q.headers, counted 0 18446744073709551615 q.random _ (omega arith) (omega arith)) refl

pub request_again : (p : List ℕ) (q : Asked) → is_valid q ≡ true → q.random < 2 ^ 64 → asked.request p (request_value q) ≡ Ok q
unfolding asked.request
request_again p q valid h = rw (request_members p q, parts_again p q h, (valid_without_bad_part q).1 valid) refl

-- ---- rows

reached_members : (p place : List ℕ) (q : Asked) → members_at ReachedRow p (body_value place (row.Reached q)) ≡ Ok (names_of ReachedRow (body_value place (row.Reached q)))
unfolding members_at scan_object scan judge allowed known once request route verdict
reached_members p place q = refl

reached_again : (p place : List ℕ) (q : Asked) → is_valid q ≡ true → q.random < 2 ^ 64 → reached p (body_value place (row.Reached q)) ≡ Ok (record { route = place; body = row.Reached q })
unfolding reached required field text request route verdict
reached_again p place q valid h = rw (reached_members p place q, request_again _ q valid h) refl

refuted_members : (p place : List ℕ) (ns : List Node) → members_at RefutedRow p (body_value place (row.Refuted ns)) ≡ Ok (names_of RefutedRow (body_value place (row.Refuted ns)))
unfolding members_at scan_object scan judge allowed known once nodes route verdict
refuted_members p place ns = refl

refuted_again : (p place : List ℕ) (ns : List Node) → list_all is_node ns ≡ true → All IsTypedNode ns → refuted p (body_value place (row.Refuted ns)) ≡ Ok (record { route = place; body = row.Refuted ns })
unfolding refuted required field text nodes route verdict
refuted_again p place ns e h = rw (refuted_members p place ns, nodes_again _ ns e h) refl

undecided_members : (p place : List ℕ) (ns : List Node) (a b : ℕ) → members_at UndecidedRow p (body_value place (row.Undecided ns a b)) ≡ Ok (names_of UndecidedRow (body_value place (row.Undecided ns a b)))
unfolding members_at scan_object scan judge allowed known once nodes route splits states verdict
undecided_members p place ns a b = refl

undecided_again : (p place : List ℕ) (ns : List Node) (a b : ℕ) → list_all is_node ns ≡ true → All IsTypedNode ns → 1 ≤ a → a ≤ 65536 → 16 ≤ b → b ≤ 4096
    → undecided p (body_value place (row.Undecided ns a b)) ≡ Ok (record { route = place; body = row.Undecided ns a b })
unfolding undecided required field text nodes route splits states verdict rows.splits rows.states
undecided_again p place ns a b e h a1 a2 b1 b2 = rw (undecided_members p place ns a b, nodes_again _ ns e h, counted 1 65536 a _ a1 a2, counted 16 4096 b _ b1 b2) refl

pub body_again : (p place : List ℕ) (body : RowBody) → is_body body ≡ true → IsTypedBody body → row_of p (body_value place body) ≡ Ok (record { route = place; body = body })
unfolding row_of is_object verdict_of verdict_named by_verdict request nodes route splits states verdict
body_again p place (row.Reached q) e h = reached_again p place q h.0 h.1
body_again p place (row.Refuted ns) e h = refuted_again p place ns e h
body_again p place (row.Undecided ns a b) e h =
    let both = and_parts (list_all is_node ns && between 1 65536 a) (between 16 4096 b) e in
    let left = and_parts (list_all is_node ns) (between 1 65536 a) both.0 in
    let first = and_parts (nat_le 1 a) (nat_le a 65536) left.1 in
    let second = and_parts (nat_le 16 b) (nat_le b 4096) both.1 in
    undecided_again p place ns a b left.0 h (grind (arith, nat_tests, first.0)) (grind (arith, nat_tests, first.1)) (grind (arith, nat_tests, second.0)) (grind (arith, nat_tests, second.1))
