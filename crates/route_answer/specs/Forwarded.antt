-- A forwarded request, by the levels of its header edits.
use Rattle.std.specs.Prelude.{◌≡◌, ℕ, List}
use Rattle.text_base.specs.Asked.{Asked}
use Rattle.text_base.specs.Heads.{heads, SameHeads}
use Rattle.text_base.specs.declared.request.Heads.{Heads}
use Rattle.cfg_types.specs.Targets.{new_target}
use Rattle.cfg_types.specs.HeaderEdits.{edited_request}
use Rattle.cfg_types.specs.VirtualClusters.{virtual_cluster_of}
use Rattle.cfg_types.specs.Answers.{cluster_of, authority_of}
use Rattle.cfg_types.specs.declared.configs.Host.{Host}
use Rattle.cfg_types.specs.declared.routes.Route.{Route}
use Rattle.cfg_types.specs.declared.changes.EditPair.{EditPair}
use Rattle.cfg_types.specs.declared.actions.Forward.{Forward}
use Rattle.cfg_types.specs.declared.answers.Reply.{Reply}
use Rattle.cfg_types.specs.declared.answers.Reply.TheVariants as reply

-- a request that route n forwards with the edits of these levels, where the response has these headers
pub record IsSentOn (levels : List EditPair) (host : Host) (route : Route) (n : ℕ) (f : Forward) (q : Asked) (answered : Heads) (r : Reply) : Type 0 where
  pub sent : Heads
  pub edits : SameHeads sent.list (edited_request levels (heads q))
  pub is : r ≡ reply.Forward n (cluster_of f.to q) (virtual_cluster_of host.clusters q) (new_target route q)
      (authority_of f.host q (new_target route q) (edited_request levels (heads q))) sent answered
