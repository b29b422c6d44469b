-- A header of a test, as its row of the table: the fields in order, each with its rule.
use Rattle.std.specs.Prelude.{ℕ, List, [], unwrap_or, Ok, Some, if◌then◌else◌, bytes_eq}
use Rattle.std.specs.List.{list_any}
use Rattle.text_base.specs.Asked.{Head}
use Rattle.text_base.specs.Requests.{reserved_names, is_header_value}
use Rattle.json_tables.specs.declared.message.Message.TheVariants.{TestHeader}
use Rattle.json_tables.specs.Names as name
use Rattle.json_walk.specs.declared.refusal.Kind.TheVariants.{BadText}
use Rattle.json_walk.specs.Outcome.{offence, ◌>>=◌}
use Rattle.json_walk.specs.Members.{members_at}
use Rattle.json_walk.specs.Fields.{Reading, optional, required}
use Rattle.json_walk.specs.Leaves.{text, list_of}
use Rattle.read_match.specs.Kinds.{header_name}

-- a header's name in lower case, which stands for no part of a request
unfoldable pub header_key : Reading (List ℕ)
header_key p d = do
  n ← header_name p d
  if list_any (bytes_eq n) reserved_names then offence p BadText else Ok n

-- printed bytes without a space at either end, or none
unfoldable pub header_value : Reading (List ℕ)
header_value p d = do
  t ← text p d
  if is_header_value t then Ok t else offence p BadText

unfoldable pub header : Reading Head
header p d = do
  _ ← members_at TestHeader p d
  key ← required p d name.key header_key
  value ← optional p d name.value header_value
  Ok (key, unwrap_or value [])

-- at most 1,000 headers
unfoldable pub headers : Reading (List Head)
headers = list_of (Some 1000) header
