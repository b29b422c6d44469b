-- The input of a test, as its row of the table: the fields in order, then the rules of requests.
use Rattle.std.specs.Prelude.{ℕ, List, [], Bool, false, not, if◌then◌else◌, codes, unwrap_or, Ok}
use Rattle.text_base.specs.Asked.{Asked}
use Rattle.text_base.specs.Requests.{is_authority, is_target, is_method, is_runtime}
use Rattle.text_base.specs.declared.request.Heads.{Heads}
use Rattle.json_tables.specs.declared.message.Message.TheVariants.{TestInput}
use Rattle.json_tables.specs.Names as name
use Rattle.json_walk.specs.declared.refusal.Kind.TheVariants.{BadText}
use Rattle.json_walk.specs.Outcome.{Outcome, offence, ◌>>=◌}
use Rattle.json_walk.specs.Places.{under}
use Rattle.json_walk.specs.Members.{members_at}
use Rattle.json_walk.specs.Fields.{Reading, optional, required}
use Rattle.json_walk.specs.Leaves.{text, truth}
use Rattle.json_walk.specs.Numbers.{count}
use Rattle.test_read.specs.Headers.{headers}

-- the method that a request has where none is named
unfoldable pub default_method : List ℕ
default_method = codes "GET"

-- authority, target and method
unfoldable pub asked_line : Reading (List ℕ × List ℕ × List ℕ)
asked_line p d = do
  authority ← required p d name.authority text
  target ← required p d name.path text
  method ← optional p d name.method text
  Ok (authority, target, unwrap_or method default_method)

-- internal, ssl and random_value
unfoldable pub asked_flags : Reading (Bool × Bool × ℕ)
asked_flags p d = do
  internal ← optional p d name.internal truth
  https ← optional p d name.ssl truth
  random ← optional p d name.random_value (count 0 18446744073709551615)
  Ok (unwrap_or internal false, unwrap_or https false, unwrap_or random 0)

-- the parts of the request, which may break its rules
unfoldable pub asked_parts : Reading Asked
asked_parts p d = do
  line ← asked_line p d
  flags ← asked_flags p d
  runtime ← optional p d name.runtime text
  heads ← optional p d name.additional_request_headers headers
  Ok (record {
    authority = line.0;
    target = line.1;
    method = line.2;
    https = flags.1;
    internal = flags.0;
    headers = unwrap_or heads [];
    runtime = unwrap_or runtime [];
    random = flags.2;
  })

-- the first of authority, path, method and runtime that breaks the rules of requests is an offence at its member
unfoldable pub valid_request : List ℕ → Asked → Outcome Asked
valid_request p q =
    if not (is_authority q.authority) then offence (under p name.authority) BadText
    else if not (is_target q.target) then offence (under p name.path) BadText
    else if not (is_method q.method) then offence (under p name.method) BadText
    else if not (is_runtime q.runtime) then offence (under p name.runtime) BadText
    else Ok q

-- the request, and the headers of the response
unfoldable pub input : Reading (Asked × Heads)
input p d = do
  _ ← members_at TestInput p d
  parts ← asked_parts p d
  response ← optional p d name.additional_response_headers headers
  request ← valid_request p parts
  Ok (request, record { list = unwrap_or response [] })
