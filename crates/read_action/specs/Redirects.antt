-- RedirectAction and DirectResponseAction, each as its row of the table: the fields in order, then the rules.
use Rattle.std.specs.Prelude.{ℕ, List, [], ◌∷◌, Bool, true, false, ◌==◌, if◌then◌else◌, codes, Option, Some, None, unwrap_or, Ok, ⊤}
use Rattle.json_tables.specs.declared.message.Message.TheVariants.{RedirectAction, DirectResponseAction}
use Rattle.json_tables.specs.Names as name
use Rattle.json_walk.specs.Outcome.{◌>>=◌}
use Rattle.json_walk.specs.Members.{members_at}
use Rattle.json_walk.specs.Fields.{Reading, optional, required, alone}
use Rattle.json_walk.specs.Leaves.{truth, choice}
use Rattle.json_walk.specs.Numbers.{count}
use Rattle.cfg_types.specs.declared.actions.Redirect.{Redirect}
use Rattle.cfg_types.specs.declared.actions.PathTo.{PathTo}
use Rattle.cfg_types.specs.declared.actions.PathTo.TheVariants as path
use Rattle.read_match.specs.Kinds.{matcher_text, target_text}

-- the first that is there; `https_redirect` stands as the scheme `https`, and its `false` as the empty one
unfoldable pub scheme : Option Bool → Option (List ℕ) → List ℕ
scheme (Some true) other = codes "https"
scheme (Some false) other = []
scheme None (Some t) = t
scheme None None = []

-- https_redirect | scheme_redirect
unfoldable pub schemes : Reading (List ℕ)
schemes p d = do
  https ← optional p d name.https_redirect truth
  other ← optional p d name.scheme_redirect matcher_text
  Ok (scheme https other)

-- the scheme, the host and the port
unfoldable pub origin : Reading (List ℕ × List ℕ × ℕ)
origin p d = do
  scheme ← schemes p d
  host ← optional p d name.host_redirect matcher_text
  port ← optional p d name.port_redirect (count 0 65535)
  Ok (scheme, unwrap_or host [], unwrap_or port 0)

-- the first that is there
unfoldable pub path_to : Option (List ℕ) → Option (List ℕ) → PathTo
path_to (Some t) prefix = path.Whole t
path_to None (Some t) = path.Prefix t
path_to None None = path.Keep

-- path_redirect | prefix_rewrite
unfoldable pub paths_to : Reading PathTo
paths_to p d = do
  whole ← optional p d name.path_redirect target_text
  prefix ← optional p d name.prefix_rewrite target_text
  Ok (path_to whole prefix)

unfoldable pub response_codes : List (List ℕ)
response_codes = codes "MOVED_PERMANENTLY" ∷ codes "FOUND" ∷ codes "SEE_OTHER" ∷ codes "TEMPORARY_REDIRECT" ∷ codes "PERMANENT_REDIRECT" ∷ []

-- the status that each of the five names stands for
abbrev pub code_of : ℕ → ℕ
code_of k = if k == 0 then 301 else if k == 1 then 302 else if k == 2 then 303 else if k == 3 then 307 else 308

unfoldable pub response_code : Reading ℕ
response_code p d = do
  k ← choice response_codes p d
  Ok (code_of k)

-- the rules on the two groups
unfoldable pub one_of_each : Reading ⊤
one_of_each p d = do
  _ ← alone p d (name.https_redirect ∷ name.scheme_redirect ∷ [])
  alone p d (name.path_redirect ∷ name.prefix_rewrite ∷ [])

unfoldable pub redirect_action : Reading Redirect
redirect_action p d = do
  _ ← members_at RedirectAction p d
  start ← origin p d
  goal ← paths_to p d
  code ← optional p d name.response_code response_code
  strip ← optional p d name.strip_query truth
  _ ← one_of_each p d
  Ok (record { scheme = start.0; host = start.1; port = start.2; path = goal; code = unwrap_or code 301; strip = unwrap_or strip false })

unfoldable pub direct_response_action : Reading ℕ
direct_response_action p d = do
  _ ← members_at DirectResponseAction p d
  required p d name.status (count 200 599)
