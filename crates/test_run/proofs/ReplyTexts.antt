-- The texts that a reply tells of are text, and replies that are the same but for the order of headers tell the same.
use Rattle.std.proofs.Common.{◌≡◌, ℕ, ◌<◌, Bool, true, false, not, if◌then◌else◌, List, [], ◌∷◌, ◌++◌, Option, Some, None, length, take, drop, slice_get, refl, sym, ap, ◌∙◌, subst, arith}
use Rattle.std.specs.Prelude.{◌&&◌, ◌==◌, ◌-◌, All, IfSome, codes, bytes_eq, nat_le, decimal, option_and_then, unwrap_or, IsTrue}
use Rattle.std.specs.Str.{IsUtf8}
use Rattle.std.proofs.lemmas.List.Elements.{All-head}
use Rattle.std.proofs.lemmas.Option.{slice_get_within}
use Rattle.std.proofs.lemmas.Bool.{and_parts}
use Rattle.text_base.specs.Asked.{Bytes, Head, Asked}
use Rattle.std.specs.List.{list_all}
use Rattle.text_base.specs.Alphabets.{is_printed}
use Rattle.text_base.specs.Forms.{ends}
use Rattle.text_base.specs.Hosts.{host_text}
use Rattle.text_base.specs.Requests.{is_valid}
use Rattle.text_base.specs.Heads.{heads}
use Rattle.text_base.specs.Seen.{values, joined_values, not_empty, path_of, query_part, has_byte}
use Rattle.cfg_types.specs.Order.{routes}
use Rattle.cfg_types.specs.Targets.{swapped, rewritten, target_for, new_target}
use Rattle.cfg_types.specs.Redirects.{or_text, proto, scheme_of, port_part, without_ending, own_port, kept_host, host_part, with_query, target_part, url_of, redirect_url}
use Rattle.cfg_types.specs.Answers.{first_value, share_of, share_in, levels, forwarded_heads, authority_of, host_of_route, reply_by, reply_at, reply_of, IsSameReply, IsReply}
use Rattle.cfg_types.specs.Lawful.{IsLawful, IsLawfulAct, IsLawfulHostChange, IsLawfulPathTo, IsLawfulPair, IsLawfulRedirect}
use Rattle.cfg_types.specs.declared.configs.Config.{Config}
use Rattle.cfg_types.specs.declared.configs.Host.{Host}
use Rattle.cfg_types.specs.declared.routes.Route.{Route}
use Rattle.cfg_types.specs.declared.rules.PathRule.{PathRule}
use Rattle.cfg_types.specs.declared.rules.PathRule.TheVariants as path
use Rattle.cfg_types.specs.declared.actions.Act.{Act}
use Rattle.cfg_types.specs.declared.actions.Act.TheVariants as act
use Rattle.cfg_types.specs.declared.actions.Forward.{Forward}
use Rattle.cfg_types.specs.declared.actions.Redirect.{Redirect}
use Rattle.cfg_types.specs.declared.actions.HostChange.{HostChange}
use Rattle.cfg_types.specs.declared.actions.HostChange.TheVariants as change
use Rattle.cfg_types.specs.declared.actions.PathTo.{PathTo}
use Rattle.cfg_types.specs.declared.actions.PathTo.TheVariants as to
use Rattle.cfg_types.specs.declared.answers.Choice.{Choice}
use Rattle.cfg_types.specs.declared.answers.Choice.TheVariants as choice
use Rattle.cfg_types.specs.declared.answers.Reply.{Reply}
use Rattle.cfg_types.specs.declared.answers.Reply.TheVariants as reply
use Rattle.cfg_types.proofs.LawfulLevels.{route_lawful, levels_lawful}
use Rattle.test_read.specs.declared.test.Test.{Test}
use Rattle.test_run.specs.Verdicts.{cluster_in, virtual_cluster_in, route_in, authority_in, target_in, url_in, AreTexts, request_text, response_heads, response_text, names_a_part, text_failures, failures_of}
use Rattle.test_run.proofs.HeaderFailures.{fail_alike}
use Rattle.test_run.proofs.Ascii.{Ascii, HasAscii, IsPlain, plain, nothing, in_front, joined, front, rest, either, of_printed, of_visible, of_decimal, is_text, path_ascii, query_ascii, host_ascii, heads_ascii, values_ascii, proto_ascii}
use Rattle.test_run.proofs.AsciiEdits.{levels_ascii}

-- ---- targets

swapped_ascii : (r : PathRule) (p s : Bytes) → Ascii p → Ascii s → Ascii (swapped r p s)
swapped_ascii (path.Prefix v) p s a b = joined s (drop (length v) p) b (rest (length v) p a)
swapped_ascii (path.Separated v) p s a b = joined s (drop (length v) p) b (rest (length v) p a)
swapped_ascii (path.Exact v) p s a b = b
swapped_ascii (path.Pattern x) p s a b = b

rewritten_ascii : (r : PathRule) (s target : Bytes) → Ascii s → Ascii target → Ascii (rewritten r s target)
rewritten_ascii r [] target a t = t
rewritten_ascii r (b ∷ s) target a t =
    joined (swapped r (path_of target) (b ∷ s)) (query_part target) (swapped_ascii r (path_of target) (b ∷ s) (path_ascii target t) a) (query_ascii target t)

target_for_ascii : (r : PathRule) (a : Act) (target : Bytes) → IsLawfulAct a → Ascii target → Ascii (target_for r a target)
target_for_ascii r (act.Forward f) target l t = rewritten_ascii r f.prefix_rewrite target (of_visible f.prefix_rewrite l.prefix_rewrite) t
target_for_ascii r (act.Redirect x) target l t = t
target_for_ascii r (act.Direct status) target l t = t

-- ---- hosts

first_ascii : (vs : List Bytes) (other : Bytes) → All Ascii vs → Ascii other → Ascii (unwrap_or (option_and_then not_empty (slice_get vs 0)) other)
first_ascii [] other a o = o
first_ascii ([] ∷ vs) other a o = o
first_ascii ((b ∷ v) ∷ vs) other a o = All-head Ascii (b ∷ v) vs a

kept_ascii : (v other : Bytes) → Ascii v → Ascii other → Ascii (unwrap_or (option_and_then not_empty (Some v)) other)
kept_ascii [] other a o = o
kept_ascii (b ∷ v) other a o = a

named_ascii : (q : Asked) (hs : List Head) (name : Bytes) → IsPlain q → All HasAscii hs → Ascii (unwrap_or (option_and_then not_empty (first_value q hs name)) q.authority)
named_ascii q hs name p a = by (bytes_eq name (codes ":authority")) (bytes_eq name (codes ":path")) (bytes_eq name (codes ":method"))
  where
    by : (x y z : Bool) → Ascii (unwrap_or (option_and_then not_empty (if x then Some q.authority else if y then Some q.target else if z then Some q.method else slice_get (values name hs) 0)) q.authority)
    by true y z = kept_ascii q.authority q.authority p.authority p.authority
    by false true z = kept_ascii q.target q.authority p.target p.authority
    by false false true = kept_ascii q.method q.authority p.method p.authority
    by false false false = first_ascii (values name hs) q.authority (values_ascii name hs a) p.authority

printed_part : (t : Bytes) → IsTrue (nat_le (length t) 4096 && list_all is_printed t) → Ascii t
printed_part t e = of_printed t (and_parts (nat_le (length t) 4096) (list_all is_printed t) e).1

authority_ascii : (h : HostChange) (q : Asked) (target : Bytes) (hs : List Head) → IsLawfulHostChange h → IsPlain q → Ascii target → All HasAscii hs → Ascii (authority_of h q target hs)
authority_ascii change.Keep q target hs l p t a = p.authority
authority_ascii (change.Literal host) q target hs l p t a = printed_part host l
authority_ascii (change.FromHeader name) q target hs l p t a =
    named_ascii (record q { target = target }) hs name (record { authority = p.authority; target = t; method = p.method; headers = p.headers }) a

-- ---- URLs

or_ascii : (t other : Bytes) → Ascii t → Ascii other → Ascii (or_text t other)
or_ascii [] other a o = o
or_ascii (b ∷ t) other a o = a

port_ascii : (port : ℕ) → Ascii (port_part port)
port_ascii port = either (port == 0) [] (58 ∷ decimal port) nothing (in_front 58 (decimal port) (omega arith) (of_decimal port))

without_ascii : (ending t : Bytes) → Ascii t → Ascii (without_ending ending t)
without_ascii ending t a = either (ends t ending) (take (length t - length ending) t) t (front (length t - length ending) t a) a

kept_host_ascii : (r : Redirect) (q : Asked) → IsPlain q → Ascii (kept_host r q)
kept_host_ascii r q p =
    let host = host_text (not (r.port == 0)) q.authority in
    let a = host_ascii (not (r.port == 0)) q.authority p.authority in
    either (bytes_eq (scheme_of r q) (proto q.https)) host (without_ending (own_port q.https) host) a (without_ascii (own_port q.https) host a)

with_query_ascii : (strip : Bool) (target p : Bytes) → Ascii target → Ascii p → Ascii (with_query strip target p)
with_query_ascii strip target p t a = joined p (if strip then [] else query_part target) a (either strip [] (query_part target) nothing (query_ascii target t))

target_part_ascii : (rule : PathRule) (x : PathTo) (strip : Bool) (target : Bytes) → IsLawfulPathTo x → Ascii target → Ascii (target_part rule x strip target)
target_part_ascii rule to.Keep strip target l t = with_query_ascii strip target (path_of target) t (path_ascii target t)
target_part_ascii rule (to.Whole []) strip target l t = with_query_ascii strip target (path_of target) t (path_ascii target t)
target_part_ascii rule (to.Whole (b ∷ p)) strip target l t =
    either (has_byte 63 (b ∷ p)) (b ∷ p) (with_query strip target (b ∷ p)) (of_visible (b ∷ p) l) (with_query_ascii strip target (b ∷ p) t (of_visible (b ∷ p) l))
target_part_ascii rule (to.Prefix []) strip target l t = with_query_ascii strip target (path_of target) t (path_ascii target t)
target_part_ascii rule (to.Prefix (b ∷ s)) strip target l t =
    with_query_ascii strip target (swapped rule (path_of target) (b ∷ s)) t (swapped_ascii rule (path_of target) (b ∷ s) (path_ascii target t) (of_visible (b ∷ s) l))

url_ascii : (scheme host port target : Bytes) → Ascii scheme → Ascii host → Ascii port → Ascii target → Ascii (url_of scheme host port target)
url_ascii scheme host port target a b c d =
    joined (scheme ++ codes "://" ++ host ++ port) target
    (joined (scheme ++ codes "://" ++ host) port (joined (scheme ++ codes "://") host (joined scheme (codes "://") a (of_printed (codes "://") refl)) b) c) d

redirect_ascii : (route : Route) (r : Redirect) (q : Asked) → IsLawfulRedirect r → IsPlain q → Ascii (redirect_url route r q)
redirect_ascii route r q l p =
    url_ascii (scheme_of r q) (host_part r q) (port_part r.port) (target_part route.rule.path r.path r.strip q.target)
    (or_ascii r.scheme (proto q.https) (printed_part r.scheme l.scheme) (proto_ascii q.https))
    (or_ascii r.host (kept_host r q) (printed_part r.host l.host) (kept_host_ascii r q p))
    (port_ascii r.port) (target_part_ascii route.rule.path r.path r.strip q.target l.path p.target)

-- ---- replies

without_text : AreTexts reply.NoHost
without_text = record { authority = is_text [] nothing; target = is_text [] nothing; url = is_text [] nothing }

by_texts : (c : Config) (host : Host) (route : Route) (n : ℕ) (a : Act) (q : Asked) (response : List Head) → route.act ≡ a → IsLawfulAct a → IsPlain q →
    ((f : Forward) → a ≡ act.Forward f → All IsLawfulPair (levels c host route (share_of f.to q))) → AreTexts (reply_by c host route n a q response)
by_texts c host route n (act.Forward f) q response e l p pairs =
    let target : Ascii (new_target route q) = target_for_ascii route.rule.path route.act q.target (subst IsLawfulAct (sym e) l) p.target in
    let sent : All HasAscii (forwarded_heads c host route f q) = levels_ascii (levels c host route (share_of f.to q)) (heads q) (pairs f refl) (heads_ascii q p) in
    record {
      authority = is_text _ (authority_ascii f.host q (new_target route q) (forwarded_heads c host route f q) l.host p target sent);
      target = is_text _ target;
      url = is_text [] nothing;
    }
by_texts c host route n (act.Redirect x) q response e l p pairs =
    record { authority = is_text [] nothing; target = is_text [] nothing; url = is_text _ (redirect_ascii route x q l p) }
by_texts c host route n (act.Direct status) q response e l p pairs =
    record { authority = is_text [] nothing; target = is_text [] nothing; url = is_text [] nothing }

at_texts : (c : Config) (h : Option Host) (r : Option Route) (n : ℕ) (q : Asked) (response : List Head) → host_of_route c n ≡ h → slice_get (routes c) n ≡ r → IsLawful c → IsPlain q →
    AreTexts (reply_at c h r n q response)
at_texts c None r n q response eh er l p = without_text
at_texts c (Some host) None n q response eh er l p = without_text
at_texts c (Some host) (Some route) n q response eh er l p =
    by_texts c host route n route.act q response refl (route_lawful c n route l er).act p
    (λ f e. levels_lawful c n q host route (share_of f.to q) l er eh (sym (ap (λ a. share_in a q) e)))

-- the texts of the reply to a valid request by a lawful configuration
reply_texts : (c : Config) (k : Choice) (q : Asked) (response : List Head) → IsLawful c → is_valid q ≡ true → AreTexts (reply_of c k q response)
reply_texts c choice.NoHost q response l v = without_text
reply_texts c (choice.NoRoute h) q response l v = record { authority = is_text [] nothing; target = is_text [] nothing; url = is_text [] nothing }
reply_texts c (choice.Tls h) q response l v =
    let p = plain q v in
    record { authority = is_text [] nothing; target = is_text [] nothing; url = is_text _ (url_ascii (codes "https") q.authority [] q.target (of_printed (codes "https") refl) p.authority nothing p.target) }
reply_texts c (choice.Chosen n) q response l v = at_texts c (host_of_route c n) (slice_get (routes c) n) n q response refl refl l (plain q v)

-- what is told of two replies that are the same but for the order of headers
pub record TellSame (r s : Reply) : Type 0 where
  pub cluster : cluster_in r ≡ cluster_in s
  pub virtual_cluster : virtual_cluster_in r ≡ virtual_cluster_in s
  pub route : route_in r ≡ route_in s
  pub authority : authority_in r ≡ authority_in s
  pub target : target_in r ≡ target_in s
  pub url : url_in r ≡ url_in s

tell_equal : (r s : Reply) → r ≡ s → TellSame r s
tell_equal r s e = record { cluster = ap cluster_in e; virtual_cluster = ap virtual_cluster_in e; route = ap route_in e; authority = ap authority_in e; target = ap target_in e; url = ap url_in e }

pub tell_same : (r s : Reply) → IsSameReply r s → TellSame r s
tell_same r reply.NoHost e = tell_equal r reply.NoHost e
tell_same r (reply.NoRoute h) e = tell_equal r (reply.NoRoute h) e
tell_same r (reply.Tls h url) e = tell_equal r (reply.Tls h url) e
tell_same r (reply.Forward n cluster vc target authority sent answered) e =
    let t = tell_equal r (reply.Forward n cluster vc target authority e.request e.response) e.is in
    record { cluster = t.cluster; virtual_cluster = t.virtual_cluster; route = t.route; authority = t.authority; target = t.target; url = t.url }
tell_same r (reply.Redirect n code url answered) e =
    let t = tell_equal r (reply.Redirect n code url e.response) e.is in
    record { cluster = t.cluster; virtual_cluster = t.virtual_cluster; route = t.route; authority = t.authority; target = t.target; url = t.url }
tell_same r (reply.Direct n status answered) e =
    let t = tell_equal r (reply.Direct n status e.response) e.is in
    record { cluster = t.cluster; virtual_cluster = t.virtual_cluster; route = t.route; authority = t.authority; target = t.target; url = t.url }

-- ---- the reply to a test

route_within : (c : Config) (h : Option Host) (r : Option Route) (n : ℕ) (q : Asked) (response : List Head) → slice_get (routes c) n ≡ r →
    IfSome (route_in (reply_at c h r n q response)) (λ k. k < length (routes c))
route_within c None r n q response e = tt
route_within c (Some host) None n q response e = tt
route_within c (Some host) (Some route) n q response e = by route.act
  where
    there : n < length (routes c)
    there = slice_get_within (routes c) n route e

    by : (a : Act) → IfSome (route_in (reply_by c host route n a q response)) (λ k. k < length (routes c))
    by (act.Forward f) = there
    by (act.Redirect x) = there
    by (act.Direct status) = there

told_within : (c : Config) (k : Choice) (q : Asked) (response : List Head) → IfSome (route_in (reply_of c k q response)) (λ n. n < length (routes c))
told_within c choice.NoHost q response = tt
told_within c (choice.NoRoute h) q response = tt
told_within c (choice.Tls h) q response = tt
told_within c (choice.Chosen n) q response = route_within c (host_of_route c n) (slice_get (routes c) n) n q response refl

pub within_of_reply : (c : Config) (k : Choice) (q : Asked) (response : List Head) (r : Reply) → IsReply c k q response r → IfSome (route_in r) (λ n. n < length (routes c))
within_of_reply c k q response r i =
    subst (λ (o : Option ℕ). IfSome o (λ n. n < length (routes c))) (sym (tell_same r (reply_of c k q response) i).route) (told_within c k q response)

texts_same : (c : Config) (r s : Reply) (t : Test) → IsSameReply r s → text_failures c r t ≡ text_failures c s t
texts_same c r s t i =
    let e = tell_same r s i in
    rw (e.cluster, e.virtual_cluster, e.route, e.authority, e.target, e.url) refl

request_alike : (q : Asked) (r s : Reply) → IsSameReply r s → (name : Bytes) → request_text q r name ≡ request_text q s name
request_alike q r reply.NoHost i name = ap (λ x. request_text q x name) i
request_alike q r (reply.NoRoute h) i name = ap (λ x. request_text q x name) i
request_alike q r (reply.Tls h url) i name = ap (λ x. request_text q x name) i
request_alike q r (reply.Forward n cluster vc target authority sent answered) i name =
    ap (λ x. request_text q x name) i.is
    ∙ ap (λ vs. if bytes_eq name (codes ":authority") then Some authority else if bytes_eq name (codes ":path") then Some target else if bytes_eq name (codes ":method") then Some q.method else joined_values vs) (i.same_request name)
request_alike q r (reply.Redirect n code url answered) i name = ap (λ x. request_text q x name) i.is
request_alike q r (reply.Direct n status answered) i name = ap (λ x. request_text q x name) i.is

-- the texts of a name among headers with the same values
heads_alike : (a b : List Head) (name : Bytes) → values name a ≡ values name b → response_text a name ≡ response_text b name
heads_alike a b name e = ap (λ vs. if names_a_part name then None else joined_values vs) e

response_alike : (received : List Head) (r s : Reply) → IsSameReply r s → (name : Bytes) → response_text (response_heads r received) name ≡ response_text (response_heads s received) name
response_alike received r reply.NoHost i name = ap (λ x. response_text (response_heads x received) name) i
response_alike received r (reply.NoRoute h) i name = ap (λ x. response_text (response_heads x received) name) i
response_alike received r (reply.Tls h url) i name = ap (λ x. response_text (response_heads x received) name) i
response_alike received r (reply.Forward n cluster vc target authority sent answered) i name =
    ap (λ x. response_text (response_heads x received) name) i.is ∙ heads_alike i.response.list answered.list name (i.same_response name)
response_alike received r (reply.Redirect n code url answered) i name =
    ap (λ x. response_text (response_heads x received) name) i.is ∙ heads_alike i.response.list answered.list name (i.same_response name)
response_alike received r (reply.Direct n status answered) i name =
    ap (λ x. response_text (response_heads x received) name) i.is ∙ heads_alike i.response.list answered.list name (i.same_response name)

pub failures_same : (c : Config) (r s : Reply) (t : Test) → IsSameReply r s → failures_of c r t ≡ failures_of c s t
failures_same c r s t i =
    rw (
      texts_same c r s t i,
      fail_alike 6 (request_text t.request r) (request_text t.request s) t.expect.request_header_matches (request_alike t.request r s i),
      fail_alike 7 (response_text (response_heads r t.response.list)) (response_text (response_heads s t.response.list)) t.expect.response_header_matches (response_alike t.response.list r s i),
    ) refl

pub texts_of_reply : (c : Config) (k : Choice) (q : Asked) (response : List Head) (r : Reply) → IsLawful c → is_valid q ≡ true → IsReply c k q response r → AreTexts r
texts_of_reply c k q response r l v i =
    let same = tell_same r (reply_of c k q response) i in
    let texts = reply_texts c k q response l v in
    record {
      authority = subst IsUtf8 (sym same.authority) texts.authority;
      target = subst IsUtf8 (sym same.target) texts.target;
      url = subst IsUtf8 (sym same.url) texts.url;
    }
