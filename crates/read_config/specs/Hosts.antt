-- VirtualCluster and VirtualHost, each as its row of the table: the fields in order, then the rules.
use Rattle.std.specs.Prelude.{ℕ, List, [], ◌∷◌, ◌==◌, if◌then◌else◌, codes, length, nat_le, Option, Some, None, unwrap_or, Ok, ⊤}
use Rattle.json_tables.specs.declared.message.Message.TheVariants as messages
use Rattle.json_tables.specs.Names as name
use Rattle.json_walk.specs.declared.refusal.Kind.TheVariants.{Missing, Conflict, TooMany}
use Rattle.json_walk.specs.Outcome.{Outcome, offence, ◌>>=◌}
use Rattle.json_walk.specs.Places.{under}
use Rattle.json_walk.specs.Members.{members_at}
use Rattle.json_walk.specs.Fields.{Reading, optional, required}
use Rattle.json_walk.specs.Leaves.{choice, list_of}
use Rattle.cfg_types.specs.Order.{tree_routes}
use Rattle.cfg_types.specs.declared.configs.Host.{Host}
use Rattle.cfg_types.specs.declared.configs.Body.{Body}
use Rattle.cfg_types.specs.declared.configs.Body.TheVariants as body
use Rattle.cfg_types.specs.declared.configs.Domain.{Domain}
use Rattle.cfg_types.specs.declared.configs.Tls.{Tls}
use Rattle.cfg_types.specs.declared.configs.Tls.TheVariants as tls
use Rattle.cfg_types.specs.declared.configs.VirtualCluster.{VirtualCluster}
use Rattle.cfg_types.specs.declared.changes.EditPair.{EditPair}
use Rattle.cfg_types.specs.declared.routes.Route.{Route}
use Rattle.cfg_types.specs.declared.trees.Tree.{Tree}
use Rattle.read_match.specs.Kinds.{some_name}
use Rattle.read_match.specs.Headers.{header_matcher}
use Rattle.read_action.specs.Routes.{route}
use Rattle.read_action.specs.Edits.{edits}
use Rattle.read_tree.specs.Trees.{matcher}
use Rattle.read_config.specs.Domains.{domain}

unfoldable pub virtual_cluster : Reading VirtualCluster
virtual_cluster p d = do
  _ ← members_at messages.VirtualCluster p d
  called ← required p d name.name some_name
  rules ← required p d name.headers (list_of None header_matcher)
  Ok (record { name = called; headers = rules })

unfoldable pub tls_names : List (List ℕ)
tls_names = codes "NONE" ∷ codes "EXTERNAL_ONLY" ∷ codes "ALL" ∷ []

-- what each of the three names stands for
abbrev pub tls_of : ℕ → Tls
tls_of k = if k == 0 then tls.No else if k == 1 then tls.External else tls.All

unfoldable pub require_tls : Reading Tls
require_tls p d = do
  k ← choice tls_names p d
  Ok (tls_of k)

-- what a host has beside its name and its domains
pub record Beside : Type 0 where
  pub routes : List Route
  pub tree : Option Tree
  pub tls : Tls
  pub clusters : List VirtualCluster
  pub edits : EditPair

unfoldable pub beside_domains : Reading Beside
beside_domains p d = do
  routes ← optional p d name.routes (list_of (Some 1000) route)
  tree ← optional p d name.matcher (matcher 12)
  first ← optional p d name.require_tls require_tls
  clusters ← optional p d name.virtual_clusters (list_of None virtual_cluster)
  changes ← edits p d
  Ok (record { routes = unwrap_or routes []; tree = tree; tls = unwrap_or first tls.No; clusters = unwrap_or clusters []; edits = changes })

-- a tree of at most 1,000 routes
unfoldable pub few_in_tree : List ℕ → Tree → Outcome Body
few_in_tree p t = if nat_le (length (tree_routes t)) 1000 then Ok (body.Tree t) else offence (under p name.matcher) TooMany

-- routes in a list or in a tree, not in both
unfoldable pub body_form : List ℕ → List Route → Option Tree → Outcome Body
body_form p rs None = Ok (body.List rs)
body_form p [] (Some t) = few_in_tree p t
body_form p (r ∷ rs) (Some t) = offence (under p name.matcher) Conflict

-- a host has one domain or more
unfoldable pub some_domain : List ℕ → List Domain → Outcome ⊤
some_domain p [] = offence (under p name.domains) Missing
some_domain p (x ∷ xs) = Ok tt

unfoldable pub virtual_host : Reading Host
virtual_host p d = do
  _ ← members_at messages.VirtualHost p d
  called ← required p d name.name some_name
  names ← required p d name.domains (list_of None domain)
  rest ← beside_domains p d
  _ ← some_domain p names
  own ← body_form p rest.routes rest.tree
  Ok (record { name = called; domains = names; body = own; tls = rest.tls; clusters = rest.clusters; edits = rest.edits })
