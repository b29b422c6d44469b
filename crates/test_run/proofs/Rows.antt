-- Cases of verdicts and lines, by computation.
use Rattle.std.proofs.Common.{◌≡◌, ℕ, true, false, List, [], ◌∷◌, ◌++◌, Option, Some, None, refl}
use Rattle.std.specs.Prelude.{codes, flat_map}
use Rattle.serde_json.specs.Data.{Data, Items, null, number, string, array, object, no_items, item, no_members, member, unsigned}
use Rattle.text_base.specs.Asked.{Bytes, plain_request}
use Rattle.text_base.specs.Seen.{seen}
use Rattle.text_base.specs.declared.request.Heads.{Heads}
use Rattle.cfg_types.specs.Choices.{choice_of}
use Rattle.cfg_types.specs.declared.configs.Config.{Config}
use Rattle.cfg_types.specs.declared.configs.Body.TheVariants as body
use Rattle.cfg_types.specs.declared.configs.Domain.TheVariants as domain
use Rattle.cfg_types.specs.declared.configs.Tls.TheVariants as tls
use Rattle.cfg_types.specs.declared.routes.Route.{Route}
use Rattle.cfg_types.specs.declared.rules.PathRule.TheVariants as path
use Rattle.cfg_types.specs.declared.rules.HeaderRule.{HeaderRule}
use Rattle.cfg_types.specs.declared.rules.HeaderForm.TheVariants as header
use Rattle.cfg_types.specs.declared.rules.TextForm.TheVariants as form
use Rattle.cfg_types.specs.declared.actions.Act.TheVariants as act
use Rattle.cfg_types.specs.declared.actions.HostChange.TheVariants as change
use Rattle.cfg_types.specs.declared.actions.Target.TheVariants as to
use Rattle.cfg_types.specs.declared.changes.EditPair.{EditPair}
use Rattle.cfg_types.specs.declared.answers.Choice.TheVariants as choice
use Rattle.cfg_types.specs.declared.answers.Reply.{Reply}
use Rattle.cfg_types.specs.declared.answers.Reply.TheVariants as reply
use Rattle.test_read.specs.declared.test.Test.{Test}
use Rattle.test_run.specs.Verdicts.{cluster_in, virtual_cluster_in, host_in, authority_in, target_in, url_in, failures_of, failed}
use Rattle.test_run.specs.Coverage.{covered, covered_among}
use Rattle.test_run.specs.Lines.{line_of, field_names, field_name, verdict_line, sum_line, check_text}
use Rattle.test_run.specs.declared.verdicts.Failure.TheVariants as failure

-- ---- lines

abbrev text : Bytes → Data
text t = string t

abbrev whole : ℕ → Data
whole n = number (unsigned n)

line_feed_behind : line_of null ≡ codes "null\n"
line_feed_behind = refl

-- the verdict on `t`, told by its failures and its word
abbrev verdict_on_t : Items → Bytes → Data
verdict_on_t fs word = object (member (codes "failures") (array fs) (member (codes "test") (text (codes "t")) (member (codes "verdict") (text word) no_members)))

passing_line : verdict_line (codes "t") [] ≡ line_of (verdict_on_t no_items (codes "pass"))
unfolding verdict_line
passing_line = refl

-- the line of a test that fails in the text of a field
abbrev text_line : Bytes → Bytes
text_line field = line_of (verdict_on_t (item (object (member (codes "actual") (text (codes "is")) (member (codes "expected") (text (codes "want")) (member (codes "field") (text field) no_members)))) no_items) (codes "fail"))

-- the line of a test that fails in a header rule of a field
abbrev header_line : Bytes → Bytes
header_line field = line_of (verdict_on_t (item (object (member (codes "field") (text field) (member (codes "index") (whole 12) no_members))) no_items) (codes "fail"))

cluster_line : verdict_line (codes "t") (failure.Text 0 (codes "want") (codes "is") ∷ []) ≡ text_line (codes "cluster_name")
unfolding verdict_line field_name field_names
cluster_line = refl

virtual_cluster_line : verdict_line (codes "t") (failure.Text 1 (codes "want") (codes "is") ∷ []) ≡ text_line (codes "virtual_cluster_name")
unfolding verdict_line field_name field_names
virtual_cluster_line = refl

virtual_host_line : verdict_line (codes "t") (failure.Text 2 (codes "want") (codes "is") ∷ []) ≡ text_line (codes "virtual_host_name")
unfolding verdict_line field_name field_names
virtual_host_line = refl

host_line : verdict_line (codes "t") (failure.Text 3 (codes "want") (codes "is") ∷ []) ≡ text_line (codes "host_rewrite")
unfolding verdict_line field_name field_names
host_line = refl

path_line : verdict_line (codes "t") (failure.Text 4 (codes "want") (codes "is") ∷ []) ≡ text_line (codes "path_rewrite")
unfolding verdict_line field_name field_names
path_line = refl

redirect_line : verdict_line (codes "t") (failure.Text 5 (codes "want") (codes "is") ∷ []) ≡ text_line (codes "path_redirect")
unfolding verdict_line field_name field_names
redirect_line = refl

request_header_line : verdict_line (codes "t") (failure.Header 6 12 ∷ []) ≡ header_line (codes "request_header_matches")
unfolding verdict_line field_name field_names
request_header_line = refl

response_header_line : verdict_line (codes "t") (failure.Header 7 12 ∷ []) ≡ header_line (codes "response_header_matches")
unfolding verdict_line field_name field_names
response_header_line = refl

abbrev sums : ℕ → ℕ → ℕ → ℕ → Bytes
sums covered failed routes tests = line_of (object (member (codes "covered") (whole covered) (member (codes "failed") (whole failed) (member (codes "routes") (whole routes) (member (codes "tests") (whole tests) no_members)))))

line_of_sums : sum_line 1 2 3 40 ≡ sums 1 2 3 40
unfolding sum_line
line_of_sums = refl

-- ---- the texts of replies

abbrev no_heads : Heads
no_heads = record { list = [] }

abbrev forward : Reply
forward = reply.Forward 0 (codes "c") (codes "v") (codes "/t") (codes "a") no_heads no_heads

abbrev redirect : Reply
redirect = reply.Redirect 0 301 (codes "u") no_heads

abbrev direct : Reply
direct = reply.Direct 0 200 no_heads

-- the cluster, the virtual cluster, the final host, the final target and the URL of a reply
abbrev texts : Reply → List Bytes
texts r = cluster_in r ∷ virtual_cluster_in r ∷ authority_in r ∷ target_in r ∷ url_in r ∷ []

texts_of_a_forward : texts forward ≡ codes "c" ∷ codes "v" ∷ codes "a" ∷ codes "/t" ∷ [] ∷ []
texts_of_a_forward = refl

texts_of_a_redirect : texts redirect ≡ [] ∷ [] ∷ [] ∷ [] ∷ codes "u" ∷ []
texts_of_a_redirect = refl

texts_of_a_redirect_to_https : texts (reply.Tls 0 (codes "u")) ≡ [] ∷ [] ∷ [] ∷ [] ∷ codes "u" ∷ []
texts_of_a_redirect_to_https = refl

texts_of_a_direct_response : texts direct ≡ [] ∷ [] ∷ [] ∷ [] ∷ [] ∷ []
texts_of_a_direct_response = refl

texts_without_a_route : texts (reply.NoRoute 0) ≡ [] ∷ [] ∷ [] ∷ [] ∷ [] ∷ []
texts_without_a_route = refl

texts_without_a_host : texts reply.NoHost ≡ [] ∷ [] ∷ [] ∷ [] ∷ [] ∷ []
texts_without_a_host = refl

-- ---- verdicts

abbrev no_edits : EditPair
no_edits = record { request = record { remove = []; add = [] }; response = record { remove = []; add = [] } }

-- the path that forwards to this cluster
abbrev route : Bytes → Bytes → Route
route p cluster = record {
  place = [];
  name = [];
  rule = record { path = path.Exact p; fold = false; headers = []; queries = []; grpc = false; fraction = None };
  act = act.Forward (record { to = to.Cluster cluster; prefix_rewrite = []; host = change.Keep });
  edits = no_edits;
}

-- the host `h` of all domains, with `/a` to the cluster `a` and `/b` to `b`
abbrev table : Config
table = record {
  name = [];
  hosts = record { name = codes "h"; domains = domain.Any ∷ []; body = body.List (route (codes "/a") (codes "a") ∷ route (codes "/b") (codes "b") ∷ []); tls = tls.No; clusters = []; edits = no_edits } ∷ [];
  edits = no_edits;
  specific_wins = false;
  ignore_port = false;
  ignore_params = false;
}

abbrev expecting : Option Bytes → Option Bytes → Option Bytes → Option Bytes → Option Bytes → Option Bytes → Test
expecting cluster virtual_cluster host authority target url = record {
  name = codes "t";
  request = plain_request (codes "x") (codes "/a");
  response = no_heads;
  expect = record {
    cluster_name = cluster;
    virtual_cluster_name = virtual_cluster;
    virtual_host_name = host;
    host_rewrite = authority;
    path_rewrite = target;
    path_redirect = url;
    request_header_matches = [];
    response_header_matches = [];
  };
}

-- a test that asks for other texts of the reply fails in each of them
abbrev all_wrong : Test
all_wrong = expecting (Some (codes "0")) (Some (codes "1")) (Some (codes "2")) (Some (codes "3")) (Some (codes "4")) (Some (codes "5"))

all_fail : failures_of table forward all_wrong
    ≡ failure.Text 0 (codes "0") (codes "c") ∷ failure.Text 1 (codes "1") (codes "v") ∷ failure.Text 2 (codes "2") (codes "h") ∷ failure.Text 3 (codes "3") (codes "a")
    ∷ failure.Text 4 (codes "4") (codes "/t") ∷ failure.Text 5 (codes "5") [] ∷ []
all_fail = refl

all_agree : failures_of table forward (expecting (Some (codes "c")) (Some (codes "v")) (Some (codes "h")) (Some (codes "a")) (Some (codes "/t")) (Some [])) ≡ []
all_agree = refl

url_agrees : failures_of table redirect (expecting (Some []) (Some []) (Some (codes "h")) (Some []) (Some []) (Some (codes "u"))) ≡ []
url_agrees = refl

no_host_is_named : host_in table (reply.NoRoute 0) ≡ []
no_host_is_named = refl

-- ---- rules on headers

-- the header of this name is there, and is this text
abbrev is : Bytes → Bytes → HeaderRule
is name text = record { name = name; form = header.Value (record { form = form.Exact text; fold = false }); invert = false; missing_empty = false }

-- the header isn't there
abbrev is_missing : Bytes → HeaderRule
is_missing name = record { name = name; form = header.Present false; invert = false; missing_empty = false }

-- a test on `/a` of `x` with a header, and with a header of the response, that expects rules of both
abbrev rules : List HeaderRule → List HeaderRule → Test
rules request response = record {
  name = codes "t";
  request = record (plain_request (codes "x") (codes "/a")) { headers = (codes "n", codes "1") ∷ [] };
  response = record { list = (codes "s", codes "0") ∷ [] };
  expect = record {
    cluster_name = None;
    virtual_cluster_name = None;
    virtual_host_name = None;
    host_rewrite = None;
    path_rewrite = None;
    path_redirect = None;
    request_header_matches = request;
    response_header_matches = response;
  };
}

-- a forward with other headers, and with two values of one
abbrev edited : Reply
edited = reply.Forward 0 (codes "c") (codes "v") (codes "/t") (codes "a") (record { list = (codes "n", codes "2") ∷ (codes "m", codes "k") ∷ (codes "n", codes "3") ∷ [] }) (record { list = (codes "s", codes "9") ∷ [] })

request_as_it_is_sent : failures_of table edited (rules (is (codes ":authority") (codes "a") ∷ is (codes ":path") (codes "/t") ∷ is (codes ":method") (codes "GET") ∷ is (codes "n") (codes "2,3") ∷ is_missing (codes "x-forwarded-proto") ∷ []) []) ≡ []
request_as_it_is_sent = refl

request_as_received : failures_of table redirect (rules (is (codes ":authority") (codes "x") ∷ is (codes ":path") (codes "/a") ∷ is (codes "n") (codes "1") ∷ is (codes "x-forwarded-proto") (codes "http") ∷ is_missing (codes "x-envoy-internal") ∷ []) []) ≡ []
unfolding seen
request_as_received = refl

-- each failing rule is told by its index, from 0 on
failing_rules : failures_of table edited (rules (is (codes "n") (codes "1") ∷ is (codes "m") (codes "k") ∷ is (codes "q") [] ∷ []) (is (codes "s") (codes "9") ∷ is_missing (codes "s") ∷ []))
    ≡ failure.Header 6 0 ∷ failure.Header 6 2 ∷ failure.Header 7 1 ∷ []
failing_rules = refl

-- a response has no authority, path or method
response_has_no_parts : failures_of table edited (rules [] (is_missing (codes ":authority") ∷ is_missing (codes ":path") ∷ is_missing (codes ":method") ∷ [])) ≡ []
response_has_no_parts = refl

response_without_a_route : failures_of table reply.NoHost (rules [] (is (codes "s") (codes "0") ∷ [])) ≡ []
response_without_a_route = refl

-- ---- coverage and the whole text

route_counts_once : covered_among (choice.Chosen 0 ∷ choice.NoRoute 1 ∷ choice.Chosen 2 ∷ choice.Chosen 0 ∷ choice.Tls 1 ∷ choice.NoHost ∷ []) 3 ≡ 2
route_counts_once = refl

-- a test that asks for the cluster `a`, and one that asks for `b`
abbrev two_tests : List Test
two_tests = expecting (Some (codes "a")) None None None None None ∷ expecting (Some (codes "b")) None None None None None ∷ []

-- a line for each test, in order, and then the sums
whole_text : check_text false table two_tests
    ≡ flat_map line_of (
    verdict_on_t no_items (codes "pass")
    ∷ verdict_on_t (item (object (member (codes "actual") (text (codes "a")) (member (codes "expected") (text (codes "b")) (member (codes "field") (text (codes "cluster_name")) no_members)))) no_items) (codes "fail")
    ∷ [])
    ++ sums 1 1 2 2
unfolding check_text verdict_line sum_line failed covered field_name field_names choice_of
whole_text = refl

-- only the failing test is told, and the sums are of both
failures_alone : check_text true table two_tests
    ≡ flat_map line_of (verdict_on_t (item (object (member (codes "actual") (text (codes "a")) (member (codes "expected") (text (codes "b")) (member (codes "field") (text (codes "cluster_name")) no_members)))) no_items) (codes "fail") ∷ [])
    ++ sums 1 1 2 2
unfolding check_text verdict_line sum_line failed covered field_name field_names choice_of
failures_alone = refl
