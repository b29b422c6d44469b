use Rattle.std.proofs.Common.{◌≡◌, drop}
use Rattle.cfg_types.specs.VirtualClusters.{virtual_cluster_of}
use Rattle.route_answer.proofs.clusters.virtual_cluster.Given as goal

abbrev pub invariant-loop-cluster : goal.invariant-loop-cluster
invariant-loop-cluster l = virtual_cluster_of l.clusters l.request ≡ virtual_cluster_of (drop l.cluster-index l.clusters) l.request
