-- The sample configuration. Host i is named `s` and i in decimal, and has the one domain `h`, i in decimal and `.test`, and
-- five routes, each to the cluster `c`. What a file of it would leave out is empty or `false`, and each route has the place
-- that it would have there.
use Rattle.std.specs.Prelude.{ℕ, false, List, [], ◌∷◌, ◌++◌, None, map, codes, decimal}
use Rattle.std.specs.List.{range_with_len}
use Rattle.text_base.specs.Asked.{Bytes}
use Rattle.cfg_types.specs.Places.{element, member}
use Rattle.cfg_types.specs.declared.configs.Config.{Config}
use Rattle.cfg_types.specs.declared.configs.Host.{Host}
use Rattle.cfg_types.specs.declared.configs.Domain.{Domain}
use Rattle.cfg_types.specs.declared.configs.Domain.TheVariants as domain
use Rattle.cfg_types.specs.declared.configs.Body.TheVariants as body
use Rattle.cfg_types.specs.declared.configs.Tls.TheVariants as tls
use Rattle.cfg_types.specs.declared.routes.Route.{Route}
use Rattle.cfg_types.specs.declared.rules.PathRule.{PathRule}
use Rattle.cfg_types.specs.declared.rules.PathRule.TheVariants as path
use Rattle.cfg_types.specs.declared.rules.HeaderRule.{HeaderRule}
use Rattle.cfg_types.specs.declared.rules.HeaderForm.TheVariants as header
use Rattle.cfg_types.specs.declared.rules.TextForm.TheVariants as form
use Rattle.cfg_types.specs.declared.actions.Act.{Act}
use Rattle.cfg_types.specs.declared.actions.Act.TheVariants as act
use Rattle.cfg_types.specs.declared.actions.Target.TheVariants as to
use Rattle.cfg_types.specs.declared.actions.HostChange.TheVariants as change
use Rattle.cfg_types.specs.declared.changes.EditPair.{EditPair}

abbrev pub without_edits : EditPair
without_edits = record { request = record { remove = []; add = [] }; response = record { remove = []; add = [] } }

-- forwarding to the cluster `c`, with nothing changed
abbrev pub sample_act : Act
sample_act = act.Forward (record { to = to.Cluster (codes "c"); prefix_rewrite = []; host = change.Keep })

-- where route k of host i stands
abbrev pub sample_place : ℕ → ℕ → Bytes
sample_place i k = element (member (element (codes "/virtual_hosts") i) (codes "routes")) k

-- route k of host i, with this path rule and these header rules
abbrev pub sample_route : ℕ → ℕ → PathRule → List HeaderRule → Route
sample_route i k path headers = record {
  place = sample_place i k;
  name = [];
  rule = record { path = path; fold = false; headers = headers; queries = []; grpc = false; fraction = None };
  act = sample_act;
  edits = without_edits;
}

-- the header `x-k` is the number of the host in decimal
abbrev pub sample_rule : ℕ → HeaderRule
sample_rule i = record { name = codes "x-k"; form = header.Value (record { form = form.Exact (decimal i); fold = false }); invert = false; missing_empty = false }

abbrev pub sample_routes : ℕ → List Route
sample_routes i =
    sample_route i 0 (path.Prefix (codes "/a")) []
    ∷ sample_route i 1 (path.Exact (codes "/a/x")) []
    ∷ sample_route i 2 (path.Prefix (codes "/")) (sample_rule i ∷ [])
    ∷ sample_route i 3 (path.Separated (codes "/s")) []
    ∷ sample_route i 4 (path.Prefix (codes "/")) []
    ∷ []

abbrev pub sample_domain : ℕ → Domain
sample_domain i = domain.Exact (codes "h" ++ decimal i ++ codes ".test")

abbrev pub sample_host : ℕ → Host
sample_host i = record {
  name = codes "s" ++ decimal i;
  domains = sample_domain i ∷ [];
  body = body.List (sample_routes i);
  tls = tls.No;
  clusters = [];
  edits = without_edits;
}

-- the hosts 0 to n - 1
abbrev pub sample_hosts : ℕ → List Host
sample_hosts n = map sample_host (range_with_len 0 n)

-- the configuration of n hosts
abbrev pub made : ℕ → Config
made n = record { name = []; hosts = sample_hosts n; edits = without_edits; specific_wins = false; ignore_port = false; ignore_params = false }
