-- What the request of a test gets, and in what that differs from what the test expects.
use Rattle.std.specs.Prelude.{ℕ, Bool, true, false, not, ◌||◌, List, [], ◌∷◌, ◌++◌, Option, Some, None, option_map, unwrap_or, bytes_eq, if◌then◌else◌, codes, count_by, map, flat_map}
use Rattle.std.specs.List.{enumerate_from}
use Rattle.std.specs.Str.{IsUtf8}
use Rattle.text_base.specs.Asked.{Bytes, Head, Asked}
use Rattle.text_base.specs.Seen.{seen, field_named, values, joined_values}
use Rattle.cfg_types.specs.Choices.{choice_for}
use Rattle.cfg_types.specs.HeaderRules.{header_agrees}
use Rattle.cfg_types.specs.declared.rules.HeaderRule.{HeaderRule}
use Rattle.cfg_types.specs.Answers.{host_of_route, reply_of}
use Rattle.cfg_types.specs.declared.configs.Config.{Config}
use Rattle.cfg_types.specs.declared.configs.Host.{Host}
use Rattle.cfg_types.specs.declared.answers.Choice.{Choice}
use Rattle.cfg_types.specs.declared.answers.Reply.{Reply}
use Rattle.cfg_types.specs.declared.answers.Reply.TheVariants as reply
use Rattle.test_read.specs.declared.test.Test.{Test}
use Rattle.test_run.specs.declared.verdicts.Failure.{Failure}
use Rattle.test_run.specs.declared.verdicts.Failure.TheVariants as failure

-- ---- what a reply gives for each thing that a test expects

-- the cluster where the request is forwarded, else the empty text
abbrev pub cluster_in : Reply → Bytes
cluster_in (reply.Forward n cluster vc target authority sent answered) = cluster
cluster_in _ = []

-- the virtual cluster where the request is forwarded, else the empty text
abbrev pub virtual_cluster_in : Reply → Bytes
virtual_cluster_in (reply.Forward n cluster vc target authority sent answered) = vc
virtual_cluster_in _ = []

-- the number of the route where one is chosen
abbrev pub route_in : Reply → Option ℕ
route_in reply.NoHost = None
route_in (reply.NoRoute h) = None
route_in (reply.Tls h url) = None
route_in (reply.Forward n cluster vc target authority sent answered) = Some n
route_in (reply.Redirect n code url answered) = Some n
route_in (reply.Direct n status answered) = Some n

abbrev pub host_name : Config → Option ℕ → Bytes
host_name c None = []
host_name c (Some n) = unwrap_or (option_map (λ (h : Host). h.name) (host_of_route c n)) []

-- the name of the chosen host where a route is chosen, else the empty text
abbrev pub host_in : Config → Reply → Bytes
host_in c r = host_name c (route_in r)

-- the final host where the request is forwarded, else the empty text
abbrev pub authority_in : Reply → Bytes
authority_in (reply.Forward n cluster vc target authority sent answered) = authority
authority_in _ = []

-- the final target where the request is forwarded, else the empty text
abbrev pub target_in : Reply → Bytes
target_in (reply.Forward n cluster vc target authority sent answered) = target
target_in _ = []

-- the whole URL of a redirect, one to https too, else the empty text
abbrev pub url_in : Reply → Bytes
url_in (reply.Tls h url) = url
url_in (reply.Redirect n code url answered) = url
url_in _ = []

-- what a header rule of this name looks at among headers that are edited: the joined values of the name; `:authority`,
-- `:path` and `:method` name parts of the request
abbrev pub text_among : Asked → List Head → Bytes → Option Bytes
text_among q hs name =
    if bytes_eq name (codes ":authority") then Some q.authority
    else if bytes_eq name (codes ":path") then Some q.target
    else if bytes_eq name (codes ":method") then Some q.method
    else joined_values (values name hs)

-- on the request: with its final host, final target and edited headers where it is forwarded, else as received
abbrev pub request_text : Asked → Reply → Bytes → Option Bytes
request_text q (reply.Forward n cluster vc target authority sent answered) name = text_among (record q { authority = authority; target = target }) sent.list name
request_text q _ name = seen q (field_named name)

-- the headers of the response after edits; without a route nothing is edited
abbrev pub response_heads : Reply → List Head → List Head
response_heads (reply.Forward n cluster vc target authority sent answered) received = answered.list
response_heads (reply.Redirect n code url answered) received = answered.list
response_heads (reply.Direct n status answered) received = answered.list
response_heads _ received = received

abbrev pub names_a_part : Bytes → Bool
names_a_part name = bytes_eq name (codes ":authority") || bytes_eq name (codes ":path") || bytes_eq name (codes ":method")

-- on the response: the joined values of the name; it has no parts of a request
abbrev pub response_text : List Head → Bytes → Option Bytes
response_text hs name = if names_a_part name then None else joined_values (values name hs)

-- what is told as bytes is text
pub record AreTexts (r : Reply) : Type 0 where
  pub authority : IsUtf8 (authority_in r)
  pub target : IsUtf8 (target_in r)
  pub url : IsUtf8 (url_in r)

-- ---- failures

-- an expected text is compared with the actual one; an absent one isn't
abbrev pub text_failure : ℕ → Option Bytes → Bytes → List Failure
text_failure field None actual = []
text_failure field (Some expected) actual = if bytes_eq actual expected then [] else failure.Text field expected actual ∷ []

-- a failure for each rule on a header that doesn't hold on its text, by the rule's index
abbrev pub header_failures : ℕ → (Bytes → Option Bytes) → List HeaderRule → List Failure
header_failures field text rules = flat_map (λ r. if header_agrees r.1 (text r.1.name) then [] else failure.Header field r.0 ∷ []) (enumerate_from 0 rules)

-- in which texts a test fails whose request gets this reply
abbrev pub text_failures : Config → Reply → Test → List Failure
text_failures c r t =
    text_failure 0 t.expect.cluster_name (cluster_in r)
    ++ text_failure 1 t.expect.virtual_cluster_name (virtual_cluster_in r)
    ++ text_failure 2 t.expect.virtual_host_name (host_in c r)
    ++ text_failure 3 t.expect.host_rewrite (authority_in r)
    ++ text_failure 4 t.expect.path_rewrite (target_in r)
    ++ text_failure 5 t.expect.path_redirect (url_in r)

-- in what a test fails whose request gets this reply, by the numbers of the fields, then by index
abbrev pub failures_of : Config → Reply → Test → List Failure
failures_of c r t =
    text_failures c r t
    ++ header_failures 6 (request_text t.request r) t.expect.request_header_matches
    ++ header_failures 7 (response_text (response_heads r t.response.list)) t.expect.response_header_matches

-- where the request of a test is sent
abbrev pub choice_at : Config → Test → Choice
choice_at c t = choice_for c t.request

abbrev pub choices : Config → List Test → List Choice
choices c ts = map (choice_at c) ts

-- the reply to the request of a test
abbrev pub reply_to : Config → Test → Reply
reply_to c t = reply_of c (choice_at c t) t.request t.response.list

-- in what a test fails
abbrev pub failures : Config → Test → List Failure
failures c t = failures_of c (reply_to c t) t

abbrev pub is_none : List Failure → Bool
is_none [] = true
is_none (f ∷ fs) = false

abbrev pub passes : Config → Test → Bool
passes c t = is_none (failures c t)

-- how many tests fail
unfoldable pub failed : Config → List Test → ℕ
failed c ts = count_by (λ t. not (passes c t)) ts
