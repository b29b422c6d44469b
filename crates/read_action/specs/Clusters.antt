-- ClusterWeight and WeightedCluster, each as its row of the table: the fields in order, then the rules.
use Rattle.std.specs.Prelude.{ℕ, List, ◌&&◌, ◌||◌, ◌==◌, nat_le, if◌then◌else◌, None, unwrap_or, Ok, ⊤}
use Rattle.json_tables.specs.declared.message.Message.TheVariants.{ClusterWeight, WeightedCluster}
use Rattle.json_tables.specs.Names as name
use Rattle.json_walk.specs.declared.refusal.Kind.TheVariants.{OutOfRange, Conflict}
use Rattle.json_walk.specs.Outcome.{Outcome, offence, ◌>>=◌}
use Rattle.json_walk.specs.Places.{under}
use Rattle.json_walk.specs.Members.{members_at}
use Rattle.json_walk.specs.Fields.{Reading, optional, required}
use Rattle.json_walk.specs.Leaves.{list_of}
use Rattle.json_walk.specs.Numbers.{count}
use Rattle.cfg_types.specs.Shares.{weight_of}
use Rattle.cfg_types.specs.declared.actions.Share.{Share}
use Rattle.read_match.specs.Kinds.{some_name}
use Rattle.read_action.specs.Edits.{edits}

unfoldable pub cluster_weight : Reading Share
cluster_weight p d = do
  _ ← members_at ClusterWeight p d
  called ← required p d name.name some_name
  weight ← required p d name.weight (count 0 4294967295)
  changes ← edits p d
  Ok (record { name = called; weight = weight; edits = changes })

-- the sum of the weights, which is a number of 32 bits other than 0
unfoldable pub fit_sum : List ℕ → List Share → Outcome ℕ
fit_sum p shares = if nat_le 1 (weight_of shares) && nat_le (weight_of shares) 4294967295 then Ok (weight_of shares) else offence (under p name.clusters) OutOfRange

-- a total that is there and not 0 is the sum
unfoldable pub same_total : List ℕ → ℕ → ℕ → Outcome ⊤
same_total p total sum = if total == 0 || total == sum then Ok tt else offence (under p name.total_weight) Conflict

unfoldable pub weighted_cluster : Reading (List Share)
weighted_cluster p d = do
  _ ← members_at WeightedCluster p d
  shares ← required p d name.clusters (list_of None cluster_weight)
  total ← optional p d name.total_weight (count 0 4294967295)
  sum ← fit_sum p shares
  _ ← same_total p (unwrap_or total 0) sum
  Ok shares
