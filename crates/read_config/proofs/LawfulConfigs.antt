-- A configuration that is read is lawful.
use Rattle.std.proofs.Common.{◌≡◌, ◌≤◌, ℕ, ◌+◌, List, [], ◌∷◌, length, Bool, true, false, Option, Some, None, Result, Ok, Err, IfOk, IfSome, refl, subst, arith, nat_le}
use Rattle.std.proofs.lemmas.Bool.Decides.{nat_tests}
use Rattle.std.proofs.lemmas.List.Concat.{length-flat_map}
use Rattle.std.proofs.lemmas.List.Elements.{All-nil}
use Rattle.std.specs.List.{enumerate_from}
use Rattle.std.specs.Prelude.{All, flat_map, unwrap_or, codes}
use Rattle.serde_json.specs.Data.{Data, Items, no_items, item}
use Rattle.json_tables.specs.declared.message.Message.TheVariants as messages
use Rattle.json_tables.specs.Names as name
use Rattle.json_walk.specs.declared.refusal.Kind.TheVariants.{TooMany}
use Rattle.json_walk.specs.declared.refusal.ReadFail.{ReadFail}
use Rattle.json_walk.specs.Bytes.{value_at}
use Rattle.json_walk.specs.Outcome.{Outcome, Gives, ◌>>=◌}
use Rattle.json_walk.specs.Places.{under, at_index}
use Rattle.json_walk.specs.Members.{members_at}
use Rattle.json_walk.specs.Fields.{Reading, field, optional, required}
use Rattle.json_walk.specs.Leaves.{text, list, items, list_of}
use Rattle.json_walk.proofs.ReadFacts.{after, whatever, where_true, weaker, of_outcome, of_list}
use Rattle.cfg_types.specs.Lawful.{IsLawful, IsLawfulHost, IsLawfulPair}
use Rattle.cfg_types.specs.Order.{routes_of_hosts, host_routes, body_routes, tree_routes}
use Rattle.cfg_types.specs.Places.{Places, element, member, list_places, body_places, tree_places}
use Rattle.cfg_types.specs.declared.configs.Config.{Config}
use Rattle.cfg_types.specs.declared.configs.Body.{Body}
use Rattle.cfg_types.specs.declared.configs.Body.TheVariants as body
use Rattle.cfg_types.specs.declared.trees.Tree.{Tree}
use Rattle.read_tree.specs.Trees.{matcher}
use Rattle.cfg_types.specs.declared.configs.Host.{Host}
use Rattle.cfg_types.specs.declared.routes.Route.{Route}
use Rattle.read_match.specs.Kinds.{some_name}
use Rattle.read_action.specs.Routes.{route}
use Rattle.read_action.specs.Edits.{edits}
use Rattle.read_action.proofs.LawfulRoutes.{of_edits}
use Rattle.read_tree.proofs.LawfulTrees.{tree_placed}
use Rattle.read_tree.proofs.PlacedRoutes.{Placed, placed_both, list_placed}
use Rattle.read_tree.proofs.ReadAt.{of_maybe_at}
use Rattle.read_config.specs.Domains.{domain}
use Rattle.read_config.specs.Hosts.{require_tls, virtual_cluster, Beside, beside_domains, some_domain, few_in_tree, body_form, virtual_host}
use Rattle.read_config.specs.Repeats.{first_repeat}
use Rattle.read_config.specs.Rules.{is_own, domain_count, few_domains, few_routes, is_once, keeps_parameters, whole_rules}
use Rattle.read_config.specs.Configs.{switches, route_configuration, config_of}
use Rattle.read_config.specs.declared.repeats.Written.{Written}
use Rattle.read_config.proofs.Apart.{are_apart}
use Rattle.read_config.proofs.LawfulHosts.{of_host}

-- ---- places

abbrev may_be : {A : Type 0} → List ℕ → Reading A → Option Data → Outcome (Option A)
may_be at read None = Ok None
may_be at read (Some e) = read at e >>= λ x. Ok (Some x)

or_default : {A : Type 0} (at : List ℕ) (read : Reading A) (o : Option Data) (x : A) (Q : A → Type 0) → Q x → ((e : Data) → IfOk (read at e) Q) → IfOk (may_be at read o) (λ v. Q (unwrap_or v x))
or_default at read None x Q q h = q
or_default at read (Some e) x Q q h = after (read at e) (λ y. Ok (Some y)) Q (λ v. Q (unwrap_or v x)) (h e) (λ y z. z)

-- a field that may be absent, by what is read at its place
optional_at : {A : Type 0} (p : List ℕ) (d : Data) (n : List ℕ) (read : Reading A) (x : A) (Q : A → Type 0) → Q x → ((e : Data) → IfOk (read (under p n) e) Q) → IfOk (optional p d n read) (λ v. Q (unwrap_or v x))
unfolding optional
optional_at p d n read x Q q h = or_default (under p n) read (field n d) x Q q h

routes_under : (p : List ℕ) → under p name.routes ≡ member p (codes "routes")
unfolding name.routes
routes_under p = refl

-- the routes of a host at a place
abbrev ListedAt : List ℕ → List Route → Type 0
ListedAt p rs = Placed rs (list_places (member p (codes "routes")) rs)

-- the routes of a tree at a place
abbrev GrownAt : List ℕ → Tree → Type 0
GrownAt p t = Placed (tree_routes t) (tree_places t p)

-- where the routes of what stands beside the domains are
pub record BesideAt (p : List ℕ) (b : Beside) : Type 0 where
  pub routes : ListedAt p b.routes
  pub tree : IfSome b.tree (GrownAt (member p (codes "matcher")))

grown_placed : (p : List ℕ) (d : Data) → IfOk (optional p d name.matcher (matcher 12)) (λ o. IfSome o (GrownAt (member p (codes "matcher"))))
unfolding name.matcher
grown_placed p d = of_maybe_at p d name.matcher (matcher 12) GrownAt tree_placed

beside_placed : (p : List ℕ) (d : Data) → IfOk (beside_domains p d) (BesideAt p)
unfolding beside_domains
beside_placed p d =
    after (optional p d name.routes (list_of (Some 1000) route)) _ (λ o. ListedAt p (unwrap_or o [])) (BesideAt p)
    (optional_at p d name.routes (list_of (Some 1000) route) [] (ListedAt p) tt (λ e. subst (λ (at : List ℕ). IfOk (list_of (Some 1000) route (under p name.routes) e) (λ rs. Placed rs (list_places at rs))) (routes_under p) (list_placed (Some 1000) (under p name.routes) e)))
    (λ routes placed. after (optional p d name.matcher (matcher 12)) _ (λ o. IfSome o (GrownAt (member p (codes "matcher")))) (BesideAt p) (grown_placed p d) (λ tree at. whatever (optional p d name.require_tls require_tls) _ (BesideAt p) (λ first. whatever (optional p d name.virtual_clusters (list_of None virtual_cluster)) _ (BesideAt p) (λ clusters. whatever (edits p d) _ (BesideAt p) (λ changes. record { routes = placed; tree = at })))))

abbrev BodyAt : List ℕ → Body → Type 0
BodyAt p b = Placed (body_routes b) (body_places b p)

few_placed : (p : List ℕ) (t : Tree) → GrownAt (member p (codes "matcher")) t → IfOk (few_in_tree p t) (BodyAt p)
unfolding few_in_tree
few_placed p t at = where_true (nat_le (length (tree_routes t)) 1000) (body.Tree t) (under p name.matcher) TooMany (BodyAt p) (λ e. at)

body_placed : (p : List ℕ) (rs : List Route) (o : Option Tree) → ListedAt p rs → IfSome o (GrownAt (member p (codes "matcher"))) → IfOk (body_form p rs o) (BodyAt p)
unfolding body_form
body_placed p [] None listed grown = listed
body_placed p (r ∷ rs) None listed grown = listed
body_placed p [] (Some t) listed grown = few_placed p t grown
body_placed p (r ∷ rs) (Some t) listed grown = tt

host_placed : (p : List ℕ) (d : Data) → IfOk (virtual_host p d) (λ h. Placed (host_routes h) (body_places h.body p))
unfolding virtual_host
host_placed p d =
    whatever (members_at messages.VirtualHost p d) _ _ (λ _. whatever (required p d name.name some_name) _ _ (λ called. whatever (required p d name.domains (list_of None domain)) _ _ (λ names.
    after (beside_domains p d) _ (BesideAt p) (λ h. Placed (host_routes h) (body_places h.body p)) (beside_placed p d) (λ rest b. whatever (some_domain p names) _ _ (λ _.
    after (body_form p rest.routes rest.tree) _ (BodyAt p) (λ h. Placed (host_routes h) (body_places h.body p)) (body_placed p rest.routes rest.tree b.routes b.tree) (λ own placed. placed))))))

-- the places of the routes of hosts, from number i on
abbrev host_places : List ℕ → ℕ → List Host → List Places
host_places at i hs = flat_map (λ h. body_places h.1.body (element at h.0)) (enumerate_from i hs)

hosts_placed : (p : List ℕ) (i : ℕ) (ds : Items) → IfOk (items p virtual_host i ds) (λ hs. Placed (routes_of_hosts hs) (host_places p i hs))
unfolding items
hosts_placed p i no_items = tt
hosts_placed p i (item d ds) =
    after (virtual_host (at_index p i) d) _ (λ h. Placed (host_routes h) (body_places h.body (at_index p i))) (λ hs. Placed (routes_of_hosts hs) (host_places p i hs)) (host_placed (at_index p i) d) (λ h one.
    after (items p virtual_host (i + 1) ds) _ (λ hs. Placed (routes_of_hosts hs) (host_places p (i + 1) hs)) (λ hs. Placed (routes_of_hosts hs) (host_places p i hs)) (hosts_placed p (i + 1) ds) (λ hs rest.
    placed_both (host_routes h) (routes_of_hosts hs) (body_places h.body (element p i)) (host_places p (i + 1) hs) one rest))

-- ---- all hosts together

abbrev AreHosts : List Host → Type 0
AreHosts hs = All IsLawfulHost hs × Placed (routes_of_hosts hs) (host_places (codes "/virtual_hosts") 0 hs)

top_hosts : under [] name.virtual_hosts ≡ codes "/virtual_hosts"
unfolding name.virtual_hosts
top_hosts = refl

both : {A : Type 0} (o : Outcome A) (P Q : A → Type 0) → IfOk o P → IfOk o Q → IfOk o (λ x. P x × Q x)
both (Ok x) P Q p q = (p, q)
both (Err r) P Q p q = tt

listed_hosts : (e : Data) → IfOk (list_of None virtual_host (under [] name.virtual_hosts) e) AreHosts
unfolding list_of
listed_hosts e =
    both (list_of None virtual_host (under [] name.virtual_hosts) e) (All IsLawfulHost) (λ hs. Placed (routes_of_hosts hs) (host_places (codes "/virtual_hosts") 0 hs))
    (of_list None virtual_host IsLawfulHost of_host (under [] name.virtual_hosts) e)
    (whatever (list None (under [] name.virtual_hosts) e) _ _ (λ ds. subst (λ (at : List ℕ). IfOk (items (under [] name.virtual_hosts) virtual_host 0 ds) (λ hs. Placed (routes_of_hosts hs) (host_places at 0 hs))) top_hosts (hosts_placed (under [] name.virtual_hosts) 0 ds)))

-- what the rules on a whole configuration leave
pub record IsWhole (hs : List Host) (ignored : Bool) : Type 0 where
  pub few_domains : domain_count hs ≤ 4000
  pub few_routes : length (routes_of_hosts hs) ≤ 10000
  pub once : first_repeat hs ≡ None
  pub kept : ignored ≡ false

domains_few : (p : List ℕ) (hs : List Host) → IfOk (few_domains p hs) (λ _. domain_count hs ≤ 4000)
unfolding few_domains
domains_few p hs = where_true (nat_le (domain_count hs) 4000) _ (under p name.virtual_hosts) TooMany (λ _. domain_count hs ≤ 4000) (λ e. grind (arith, nat_tests, e))

routes_few : (p : List ℕ) (hs : List Host) → IfOk (few_routes p hs) (λ _. length (routes_of_hosts hs) ≤ 10000)
unfolding few_routes
routes_few p hs = where_true (nat_le (length (routes_of_hosts hs)) 10000) _ (under p name.virtual_hosts) TooMany (λ _. length (routes_of_hosts hs) ≤ 10000) (λ e. grind (arith, nat_tests, e))

none_once : (p : List ℕ) (o : Option Written) → IfOk (is_once p o) (λ _. o ≡ None)
unfolding is_once
none_once p None = refl
none_once p (Some w) = tt

not_ignored : (p : List ℕ) (b : Bool) → IfOk (keeps_parameters p b) (λ _. b ≡ false)
unfolding keeps_parameters
not_ignored p true = tt
not_ignored p false = refl

whole_is : (p : List ℕ) (own : Option (List ℕ)) (hs : List Host) (ignored : Bool) → IfOk (whole_rules p own hs ignored) (λ _. IsWhole hs ignored)
unfolding whole_rules
whole_is p own hs ignored =
    whatever (is_own p own) _ (λ _. IsWhole hs ignored) (λ _.
    after (few_domains p hs) _ (λ _. domain_count hs ≤ 4000) (λ _. IsWhole hs ignored) (domains_few p hs) (λ _ d.
    after (few_routes p hs) _ (λ _. length (routes_of_hosts hs) ≤ 10000) (λ _. IsWhole hs ignored) (routes_few p hs) (λ _ r.
    after (is_once p (first_repeat hs)) _ (λ _. first_repeat hs ≡ None) (λ _. IsWhole hs ignored) (none_once p (first_repeat hs)) (λ _ o.
    weaker (keeps_parameters p ignored) (λ _. ignored ≡ false) (λ _. IsWhole hs ignored) (not_ignored p ignored) (λ _ k. record { few_domains = d; few_routes = r; once = o; kept = k })))))

lawful_from : (c : Config) → AreHosts c.hosts → IsLawfulPair c.edits → IsWhole c.hosts c.ignore_params → IsLawful c
lawful_from c hosts pair whole = record {
  hosts = hosts.0;
  edits = pair;
  few_routes = whole.few_routes;
  few_domains = rw (length-flat_map (λ (h : Host). h.domains) c.hosts) whole.few_domains;
  apart = are_apart c.hosts whole.once;
  places = hosts.1;
  parameters = whole.kept;
}

no_hosts : AreHosts []
no_hosts = (All-nil IsLawfulHost, tt)

of_top : (d : Data) → IfOk (route_configuration [] d) IsLawful
unfolding route_configuration
of_top d =
    whatever (members_at messages.RouteConfiguration [] d) _ IsLawful (λ _. whatever (optional [] d name.type_url text) _ IsLawful (λ own. whatever (optional [] d name.name text) _ IsLawful (λ called.
    after (optional [] d name.virtual_hosts (list_of None virtual_host)) _ (λ o. AreHosts (unwrap_or o [])) IsLawful (optional_at [] d name.virtual_hosts (list_of None virtual_host) [] AreHosts no_hosts listed_hosts) (λ hosts all.
    after (edits [] d) _ IsLawfulPair IsLawful (of_edits [] d) (λ changes pair.
    whatever (switches [] d) _ IsLawful (λ switched.
    after (whole_rules [] own (unwrap_or hosts []) switched.2) _ (λ _. IsWhole (unwrap_or hosts []) switched.2) IsLawful (whole_is [] own (unwrap_or hosts []) switched.2) (λ _ whole.
    lawful_from _ all pair whole)))))))

of_bytes : (bytes : List ℕ) → IfOk (config_of bytes) IsLawful
unfolding config_of
of_bytes bytes = whatever (value_at bytes) _ IsLawful of_top

-- what is read of bytes is lawful
pub gives_lawful : (r : Result Config ReadFail) (bytes : List ℕ) → Gives (λ c. c) r (config_of bytes) → IfOk r IsLawful
gives_lawful (Ok c) bytes e = of_outcome (config_of bytes) c IsLawful e (of_bytes bytes)
gives_lawful (Err e) bytes g = tt
