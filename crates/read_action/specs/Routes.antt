-- Route, as its row of the table: the fields in order, then the rules.
use Rattle.std.specs.Prelude.{ℕ, [], ◌∷◌, Bool, if◌then◌else◌, Option, Some, None, unwrap_or, Ok}
use Rattle.json_tables.specs.declared.message.Message.TheVariants as messages
use Rattle.json_tables.specs.Names as name
use Rattle.json_walk.specs.Outcome.{◌>>=◌}
use Rattle.json_walk.specs.Members.{members_at}
use Rattle.json_walk.specs.Fields.{Reading, optional, required, alone, must}
use Rattle.json_walk.specs.Leaves.{text}
use Rattle.cfg_types.specs.declared.changes.EditPair.{EditPair}
use Rattle.cfg_types.specs.declared.routes.Route.{Route}
use Rattle.cfg_types.specs.declared.actions.Act.{Act}
use Rattle.cfg_types.specs.declared.actions.Act.TheVariants as act
use Rattle.cfg_types.specs.declared.actions.Forward.{Forward}
use Rattle.cfg_types.specs.declared.actions.Redirect.{Redirect}
use Rattle.read_match.specs.Routes.{route_match}
use Rattle.read_action.specs.Edits.{edits}
use Rattle.read_action.specs.Forwards.{route_action}
use Rattle.read_action.specs.Redirects.{redirect_action, direct_response_action}

-- the first that is there
unfoldable pub act_form : Option Forward → Option Redirect → Option ℕ → Option Act
act_form (Some f) redirect direct = Some (act.Forward f)
act_form None (Some r) direct = Some (act.Redirect r)
act_form None None (Some status) = Some (act.Direct status)
act_form None None None = None

-- route | redirect | direct_response
unfoldable pub acts : Reading (Option Act)
acts p d = do
  forward ← optional p d name.route route_action
  redirect ← optional p d name.redirect redirect_action
  direct ← optional p d name.direct_response direct_response_action
  Ok (act_form forward redirect direct)

-- the rules on their group
unfoldable pub one_act : Option Act → Reading Act
one_act found p d = do
  _ ← alone p d (name.route ∷ name.redirect ∷ name.direct_response ∷ [])
  must p found

-- what a route does, by the rules on the group, and the header lists
unfoldable pub act_and_edits : Reading (Act × EditPair)
act_and_edits p d = do
  found ← acts p d
  changes ← edits p d
  does ← one_act found p d
  Ok (does, changes)

-- the fields and the rules
unfoldable pub route_fields : Reading Route
route_fields p d = do
  called ← optional p d name.name text
  rule ← required p d name.route_match route_match
  rest ← act_and_edits p d
  Ok (record { place = p; name = unwrap_or called []; rule = rule; act = rest.0; edits = rest.1 })

-- a route of a list
unfoldable pub route : Reading Route
route p d = do
  _ ← members_at messages.Route p d
  route_fields p d

-- a route that is a `typed_config`, whose `@type` has been judged
unfoldable pub typed_route : Reading Route
typed_route p d = do
  _ ← members_at messages.TypedRoute p d
  route_fields p d

abbrev pub route_as : Bool → Reading Route
route_as typed p d = if typed then typed_route p d else route p d
