-- The request of a row, and the place of its first bad part.
use Rattle.std.specs.Prelude.{ℕ, List, Ok, Option, Some, None}
use Rattle.json_tables.specs.Names as name
use Rattle.json_tables.specs.declared.message.Message.TheVariants.{RowRequest}
use Rattle.json_walk.specs.declared.refusal.Kind.TheVariants.{BadText}
use Rattle.json_walk.specs.Outcome.{Outcome, offence, ◌>>=◌}
use Rattle.json_walk.specs.Places.{under, at_index}
use Rattle.json_walk.specs.Members.{members_at}
use Rattle.json_walk.specs.Fields.{Reading, required}
use Rattle.json_walk.specs.Leaves.{text, truth, list_of}
use Rattle.json_walk.specs.Numbers.{count}
use Rattle.text_base.specs.Asked.{Head, Asked}
use Rattle.text_base.specs.Requests.{first_bad_part}
use Rattle.text_base.specs.declared.request.BadRequest.{BadRequest}
use Rattle.text_base.specs.declared.request.BadRequest.TheVariants as bad
use Rattle.cert_rows.specs.Leaves.{head}

unfoldable pub heads : Reading (List Head)
heads = list_of None head

unfoldable pub random : Reading ℕ
random = count 0 18446744073709551615

-- the parts of the request at p, valid or not
unfoldable pub parts : Reading Asked
parts p d = do
  authority ← required p d name.authority text
  hs ← required p d name.headers heads
  internal ← required p d name.internal truth
  method ← required p d name.method text
  target ← required p d name.path text
  random ← required p d name.random_value random
  runtime ← required p d name.runtime text
  https ← required p d name.ssl truth
  Ok (record {
    authority = authority;
    target = target;
    method = method;
    https = https;
    internal = internal;
    headers = hs;
    runtime = runtime;
    random = random;
  })

-- the place of a bad part of the request at p
unfoldable pub part_place : List ℕ → BadRequest → List ℕ
part_place p bad.Authority = under p name.authority
part_place p bad.Target = under p name.path
part_place p bad.Method = under p name.method
part_place p bad.Runtime = under p name.runtime
part_place p (bad.Header index) = at_index (under p name.headers) index
part_place p bad.OutOfMemory = p

abbrev pub where_valid : List ℕ → Asked → Option BadRequest → Outcome Asked
where_valid p q None = Ok q
where_valid p q (Some part) = offence (part_place p part) BadText

unfoldable pub request : Reading Asked
request p d = do
  _ ← members_at RowRequest p d
  q ← parts p d
  where_valid p q (first_bad_part q)
