-- Actions: an extension whose typed_config is a route or a list of routes.
use Rattle.std.specs.Prelude.{ℕ, List, [], ◌∷◌, bytes_eq, if◌then◌else◌, None, Ok}
use Rattle.json_tables.specs.declared.message.Message.TheVariants as messages
use Rattle.json_tables.specs.Names as name
use Rattle.json_walk.specs.declared.refusal.Kind.TheVariants.{NotInProfile}
use Rattle.json_walk.specs.Outcome.{offence, ◌>>=◌}
use Rattle.json_walk.specs.Places.{under}
use Rattle.json_walk.specs.Members.{members_at}
use Rattle.json_walk.specs.Fields.{Reading, optional, required}
use Rattle.json_walk.specs.Leaves.{text, list_of}
use Rattle.cfg_types.specs.declared.routes.Route.{Route}
use Rattle.read_action.specs.Routes.{route, typed_route}
use Rattle.read_tree.specs.Types.{type_at, route_type, route_list_type}

unfoldable pub one_route : Reading (List Route)
one_route p d = do
  r ← typed_route p d
  Ok (r ∷ [])

unfoldable pub route_list : Reading (List Route)
route_list p d = do
  _ ← members_at messages.RouteList p d
  required p d name.routes (list_of None route)

unfoldable pub action_of_type : List ℕ → Reading (List Route)
action_of_type t p d =
    if bytes_eq t route_type then one_route p d
    else if bytes_eq t route_list_type then route_list p d
    else offence (under p name.type_url) NotInProfile

unfoldable pub action_config : Reading (List Route)
action_config p d = do
  t ← type_at p d
  action_of_type t p d

unfoldable pub action : Reading (List Route)
action p d = do
  _ ← members_at messages.Extension p d
  _ ← optional p d name.name text
  required p d name.typed_config action_config
