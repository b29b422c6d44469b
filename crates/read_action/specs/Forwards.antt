-- RouteAction, as its row of the table: the fields in order, then the rules.
use Rattle.std.specs.Prelude.{ℕ, List, [], ◌∷◌, Option, Some, None, unwrap_or, Ok}
use Rattle.json_tables.specs.declared.message.Message.TheVariants.{RouteAction}
use Rattle.json_tables.specs.Names as name
use Rattle.json_walk.specs.Outcome.{◌>>=◌}
use Rattle.json_walk.specs.Members.{members_at}
use Rattle.json_walk.specs.Fields.{Reading, optional, alone, must}
use Rattle.cfg_types.specs.declared.actions.Forward.{Forward}
use Rattle.cfg_types.specs.declared.actions.Share.{Share}
use Rattle.cfg_types.specs.declared.actions.Target.{Target}
use Rattle.cfg_types.specs.declared.actions.Target.TheVariants as to
use Rattle.cfg_types.specs.declared.actions.HostChange.{HostChange}
use Rattle.cfg_types.specs.declared.actions.HostChange.TheVariants as change
use Rattle.read_match.specs.Kinds.{some_name, field_name, target_text, matcher_text}
use Rattle.read_action.specs.Clusters.{weighted_cluster}

-- the first target that is there
unfoldable pub target : Option (List ℕ) → Option (List ℕ) → Option (List Share) → Option Target
target (Some t) header weighted = Some (to.Cluster t)
target None (Some t) weighted = Some (to.FromHeader t)
target None None (Some shares) = Some (to.Weighted shares)
target None None None = None

-- cluster | cluster_header | weighted_clusters
unfoldable pub targets : Reading (Option Target)
targets p d = do
  cluster ← optional p d name.cluster some_name
  header ← optional p d name.cluster_header field_name
  weighted ← optional p d name.weighted_clusters weighted_cluster
  Ok (target cluster header weighted)

-- the first change of the host that is there
unfoldable pub host_change : Option (List ℕ) → Option (List ℕ) → HostChange
host_change (Some t) header = change.Literal t
host_change None (Some t) = change.FromHeader t
host_change None None = change.Keep

-- host_rewrite_literal | host_rewrite_header
unfoldable pub host_changes : Reading HostChange
host_changes p d = do
  literal ← optional p d name.host_rewrite_literal matcher_text
  header ← optional p d name.host_rewrite_header field_name
  Ok (host_change literal header)

-- the rules on the group of targets
unfoldable pub one_target : Option Target → Reading Target
one_target found p d = do
  _ ← alone p d (name.cluster ∷ name.cluster_header ∷ name.weighted_clusters ∷ [])
  must p found

-- what the path and the host are changed to
unfoldable pub changes : Reading (List ℕ × HostChange)
changes p d = do
  rewrite ← optional p d name.prefix_rewrite target_text
  host ← host_changes p d
  Ok (unwrap_or rewrite [], host)

unfoldable pub route_action : Reading Forward
route_action p d = do
  _ ← members_at RouteAction p d
  found ← targets p d
  changed ← changes p d
  goal ← one_target found p d
  _ ← alone p d (name.host_rewrite_literal ∷ name.host_rewrite_header ∷ [])
  Ok (record { to = goal; prefix_rewrite = changed.0; host = changed.1 })
