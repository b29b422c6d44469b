-- Inputs: an extension whose typed_config is a header or a query parameter.
use Rattle.std.specs.Prelude.{ℕ, List, bytes_eq, if◌then◌else◌, Ok}
use Rattle.json_tables.specs.declared.message.Message.TheVariants as messages
use Rattle.json_tables.specs.Names as name
use Rattle.json_walk.specs.declared.refusal.Kind.TheVariants.{NotInProfile}
use Rattle.json_walk.specs.Outcome.{offence, ◌>>=◌}
use Rattle.json_walk.specs.Places.{under}
use Rattle.json_walk.specs.Members.{members_at}
use Rattle.json_walk.specs.Fields.{Reading, optional, required}
use Rattle.json_walk.specs.Leaves.{text}
use Rattle.cfg_types.specs.declared.trees.InputRule.{InputRule}
use Rattle.cfg_types.specs.declared.trees.InputRule.TheVariants as inputs
use Rattle.read_match.specs.Kinds.{field_name, query_name}
use Rattle.read_tree.specs.Types.{type_at, header_input_type, query_input_type}

unfoldable pub header_input : Reading InputRule
header_input p d = do
  _ ← members_at messages.HeaderInput p d
  called ← required p d name.header_name field_name
  Ok (inputs.Header called)

unfoldable pub query_input : Reading InputRule
query_input p d = do
  _ ← members_at messages.QueryInput p d
  called ← required p d name.query_param query_name
  Ok (inputs.Query called)

unfoldable pub input_of_type : List ℕ → Reading InputRule
input_of_type t p d =
    if bytes_eq t header_input_type then header_input p d
    else if bytes_eq t query_input_type then query_input p d
    else offence (under p name.type_url) NotInProfile

unfoldable pub input_config : Reading InputRule
input_config p d = do
  t ← type_at p d
  input_of_type t p d

unfoldable pub input : Reading InputRule
input p d = do
  _ ← members_at messages.Extension p d
  _ ← optional p d name.name text
  required p d name.typed_config input_config
