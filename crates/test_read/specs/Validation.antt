-- What a test expects, as its row of the table: the fields in order, then that there is one.
use Rattle.std.specs.Prelude.{ℕ, List, [], length, Bool, ◌&&◌, ◌==◌, is_none, if◌then◌else◌, unwrap_or, None, Ok}
use Rattle.json_tables.specs.declared.message.Message.TheVariants.{Validate}
use Rattle.json_tables.specs.Names as name
use Rattle.json_walk.specs.declared.refusal.Kind.TheVariants.{Missing}
use Rattle.json_walk.specs.Outcome.{Outcome, offence, ◌>>=◌}
use Rattle.json_walk.specs.Members.{members_at}
use Rattle.json_walk.specs.Fields.{Reading, optional}
use Rattle.json_walk.specs.Leaves.{text, list_of}
use Rattle.cfg_types.specs.declared.rules.HeaderRule.{HeaderRule}
use Rattle.read_match.specs.Headers.{header_matcher}
use Rattle.test_read.specs.declared.test.Expect.{Expect}

-- neither a text nor a rule on a header is expected
unfoldable pub expects_nothing : Expect → Bool
expects_nothing e =
    is_none e.cluster_name && is_none e.virtual_cluster_name && is_none e.virtual_host_name && is_none e.host_rewrite && is_none e.path_rewrite && is_none e.path_redirect
    && length e.request_header_matches == 0 && length e.response_header_matches == 0

-- something has to be expected
unfoldable pub expecting : List ℕ → Expect → Outcome Expect
expecting p e = if expects_nothing e then offence p Missing else Ok e

-- the rules on headers that are expected of the request, and of the response
unfoldable pub both_header_rules : Reading (List HeaderRule × List HeaderRule)
both_header_rules p d = do
  request ← optional p d name.request_header_matches (list_of None header_matcher)
  response ← optional p d name.response_header_matches (list_of None header_matcher)
  Ok (unwrap_or request [], unwrap_or response [])

unfoldable pub validate : Reading Expect
validate p d = do
  _ ← members_at Validate p d
  cluster ← optional p d name.cluster_name text
  virtual_cluster ← optional p d name.virtual_cluster_name text
  host ← optional p d name.virtual_host_name text
  authority ← optional p d name.host_rewrite text
  target ← optional p d name.path_rewrite text
  url ← optional p d name.path_redirect text
  rules ← both_header_rules p d
  expecting p (record {
    cluster_name = cluster;
    virtual_cluster_name = virtual_cluster;
    virtual_host_name = host;
    host_rewrite = authority;
    path_rewrite = target;
    path_redirect = url;
    request_header_matches = rules.0;
    response_header_matches = rules.1;
  })
