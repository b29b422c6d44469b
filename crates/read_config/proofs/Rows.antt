-- Cases of reading configurations, by computation.
use Rattle.std.proofs.Common.{◌≡◌, ℕ, zero, suc, List, [], ◌∷◌, true, false, Ok, Some, None, refl}
use Rattle.std.specs.Prelude.{codes, replicate}
use Rattle.serde_json.specs.Data.{Items, null, boolean, string, array, object, no_items, item, no_members, member}
use Rattle.json_tables.specs.Names.{type_url, name, virtual_hosts, request_headers_to_add, request_headers_to_remove, response_headers_to_add, response_headers_to_remove, most_specific_header_mutations_wins, ignore_port_in_host_matching, ignore_path_parameters_in_path_matching, vhds, cluster_specifier_plugins, domains, routes, matcher, require_tls as tls_name, virtual_clusters, headers}
use Rattle.json_walk.specs.declared.refusal.Kind.TheVariants.{WrongKind, Missing, Conflict, OutOfRange, Duplicate, TooMany, BadText, NotInProfile}
use Rattle.json_walk.specs.Outcome.{offence}
use Rattle.json_walk.specs.Places.{under, at_index}
use Rattle.json_walk.specs.Members.{members_at, scan_object, scan, judge, allowed, known, once}
use Rattle.json_walk.specs.Fields.{field, optional, required}
use Rattle.json_walk.specs.Leaves.{text, truth, choice, list, list_of, items}
use Rattle.cfg_types.specs.declared.changes.EditPair.{EditPair}
use Rattle.cfg_types.specs.declared.routes.Route.{Route}
use Rattle.cfg_types.specs.declared.trees.Tree.{Tree}
use Rattle.cfg_types.specs.declared.configs.Host.{Host}
use Rattle.cfg_types.specs.declared.configs.Body.TheVariants as body
use Rattle.cfg_types.specs.declared.configs.Domain.{Domain}
use Rattle.cfg_types.specs.declared.configs.Domain.TheVariants as form
use Rattle.cfg_types.specs.declared.configs.Tls.TheVariants as tls
use Rattle.read_match.specs.Kinds.{some_name}
use Rattle.read_action.specs.Edits.{edits, listed}
use Rattle.read_config.specs.Domains.{name as domain_name, any_or_suffix, prefix_or_exact, by_star, domain_from, domain}
use Rattle.read_config.specs.Hosts.{virtual_cluster, tls_names, require_tls, beside_domains, some_domain, virtual_host, body_form}
use Rattle.read_config.specs.Repeats.{repeat_after, first_repeat}
use Rattle.read_config.specs.Rules.{own_type, is_own, few_domains, few_routes, domain_place, is_once, keeps_parameters, whole_rules}
use Rattle.read_config.specs.Configs.{switches, route_configuration}

-- ---- domains

exact_domain : domain_from (codes "A.com:80") ≡ Some (form.Exact (codes "a.com:80"))
unfolding domain_from by_star prefix_or_exact domain_name
exact_domain = refl

domain_behind_a_star : domain_from (codes "*.Example.com") ≡ Some (form.Suffix (codes ".example.com"))
unfolding domain_from by_star any_or_suffix domain_name
domain_behind_a_star = refl

domain_before_a_star : domain_from (codes "Www.*") ≡ Some (form.Prefix (codes "www."))
unfolding domain_from by_star prefix_or_exact domain_name
domain_before_a_star = refl

star_alone : domain_from (codes "*") ≡ Some form.Any
unfolding domain_from by_star any_or_suffix
star_alone = refl

stars_at_both_ends : domain_from (codes "*a*") ≡ None
unfolding domain_from by_star any_or_suffix domain_name
stars_at_both_ends = refl

star_within : domain_from (codes "a*b") ≡ None
unfolding domain_from by_star prefix_or_exact domain_name
star_within = refl

no_domain : domain_from [] ≡ None
unfolding domain_from by_star prefix_or_exact domain_name
no_domain = refl

slash_in_a_domain : domain (codes "/d") (string (codes "a/b")) ≡ offence (codes "/d") BadText
unfolding domain domain_from by_star prefix_or_exact domain_name text
slash_in_a_domain = refl

longest_domain : domain (codes "/d") (string (42 ∷ replicate 1023 97)) ≡ Ok (form.Suffix (replicate 1023 97))
unfolding domain domain_from by_star any_or_suffix domain_name text
longest_domain = refl

-- the length is judged before the bytes
length_before_bytes : domain (codes "/d") (string (replicate 1025 32)) ≡ offence (codes "/d") TooMany
unfolding domain text
length_before_bytes = refl

-- ---- hosts

abbrev no_edits : EditPair
no_edits = record { request = record { remove = []; add = [] }; response = record { remove = []; add = [] } }

-- a host with these domains
abbrev host : List Domain → Host
host ds = record { name = codes "h"; domains = ds; body = body.List []; tls = tls.No; clusters = []; edits = no_edits }

-- a list of so many nulls
abbrev nulls : ℕ → Items
nulls zero = no_items
nulls (suc n) = item null (nulls n)

each_tls : require_tls [] (string (codes "EXTERNAL_ONLY")) ≡ Ok tls.External
unfolding require_tls tls_names choice text
each_tls = refl

last_tls : require_tls [] (string (codes "ALL")) ≡ Ok tls.All
unfolding require_tls tls_names choice text
last_tls = refl

other_tls : require_tls (codes "/t") (string (codes "SOME")) ≡ offence (codes "/t") OutOfRange
unfolding require_tls tls_names choice text
other_tls = refl

virtual_cluster_of_all : virtual_cluster [] (object (member (codes "headers") (array no_items) (member (codes "name") (string (codes "c")) no_members))) ≡ Ok (record { name = codes "c"; headers = [] })
unfolding virtual_cluster some_name text list list_of items members_at scan_object scan judge allowed known once field required name headers
virtual_cluster_of_all = refl

host_of_all : virtual_host [] (object (member (codes "domains") (array (item (string (codes "*")) no_items)) (member (codes "name") (string (codes "h")) (member (codes "requireTls") (string (codes "ALL")) no_members))))
    ≡ Ok (record { name = codes "h"; domains = form.Any ∷ []; body = body.List []; tls = tls.All; clusters = []; edits = no_edits })
unfolding virtual_host beside_domains body_form some_domain some_name domain domain_from by_star any_or_suffix require_tls tls_names choice edits listed text list list_of items members_at scan_object scan judge allowed known once field optional required name domains routes matcher tls_name virtual_clusters request_headers_to_add request_headers_to_remove response_headers_to_add response_headers_to_remove
host_of_all = refl

-- the fields go in the order of the table, and the rule comes behind them
name_before_domains : virtual_host (codes "/h") (object no_members) ≡ offence (codes "/h/name") Missing
unfolding virtual_host members_at scan_object scan field required name
name_before_domains = refl

routes_before_no_domain : virtual_host (codes "/h") (object (member (codes "domains") (array no_items) (member (codes "name") (string (codes "h")) (member (codes "routes") (boolean true) no_members)))) ≡ offence (codes "/h/routes") WrongKind
unfolding virtual_host beside_domains some_name text list list_of items members_at scan_object scan judge allowed known once field optional required name domains routes matcher tls_name virtual_clusters
routes_before_no_domain = refl

no_domain_at_all : virtual_host (codes "/h") (object (member (codes "domains") (array no_items) (member (codes "name") (string (codes "h")) no_members))) ≡ offence (codes "/h/domains") Missing
unfolding virtual_host beside_domains body_form some_domain some_name edits listed text list list_of items members_at scan_object scan judge allowed known once field optional required name domains routes matcher tls_name virtual_clusters request_headers_to_add request_headers_to_remove response_headers_to_add response_headers_to_remove
no_domain_at_all = refl

routes_past_a_thousand : virtual_host (codes "/h") (object (member (codes "domains") (array no_items) (member (codes "name") (string (codes "h")) (member (codes "routes") (array (nulls 1001)) no_members)))) ≡ offence (codes "/h/routes") TooMany
unfolding virtual_host beside_domains some_name text list list_of items members_at scan_object scan judge allowed known once field optional required name domains routes matcher tls_name virtual_clusters
routes_past_a_thousand = refl

-- routes stand in a list or in a tree, not in both
routes_beside_a_tree : (r : Route) (t : Tree) → body_form (codes "/h") (r ∷ []) (Some t) ≡ offence (codes "/h/matcher") Conflict
unfolding body_form matcher
routes_beside_a_tree r t = refl

-- ---- the first domain that stands twice

-- the later one is told, of all hosts, by the numbers of its host and among the domains of that host
repeat_in_another_host : first_repeat (host (form.Exact (codes "a") ∷ form.Exact (codes "b") ∷ []) ∷ host (form.Any ∷ form.Exact (codes "b") ∷ form.Exact (codes "a") ∷ []) ∷ [])
    ≡ Some (record { host = 1; domain = 1; text = codes "b" })
unfolding repeat_after
repeat_in_another_host = refl

repeat_in_one_host : first_repeat (host (form.Suffix (codes ".b") ∷ form.Any ∷ form.Suffix (codes ".b") ∷ []) ∷ host (form.Any ∷ []) ∷ []) ≡ Some (record { host = 0; domain = 2; text = codes "*.b" })
unfolding repeat_after
repeat_in_one_host = refl

-- one text in each kind of domain is no repeat
kinds_are_no_repeat : first_repeat (host (form.Exact (codes "b") ∷ form.Suffix (codes "b") ∷ form.Prefix (codes "b") ∷ form.Any ∷ []) ∷ []) ≡ None
unfolding repeat_after
kinds_are_no_repeat = refl

-- ---- the rules on a whole configuration

other_type : is_own (codes "/c") (Some (codes "type.googleapis.com/envoy.config.route.v3.VirtualHost")) ≡ offence (codes "/c/@type") NotInProfile
unfolding is_own own_type type_url
other_type = refl

own_type_is_taken : is_own [] (Some (codes "type.googleapis.com/envoy.config.route.v3.RouteConfiguration")) ≡ Ok tt
unfolding is_own own_type
own_type_is_taken = refl

-- the type is judged before all
type_before_parameters : whole_rules [] (Some []) [] true ≡ offence (codes "/@type") NotInProfile
unfolding whole_rules is_own own_type type_url
type_before_parameters = refl

-- the number of domains is judged before a repeat
most_domains : few_domains [] (host (replicate 4000 form.Any) ∷ []) ≡ Ok tt
unfolding few_domains
most_domains = refl

domains_before_a_repeat : whole_rules [] None (host (replicate 4000 form.Any) ∷ host (form.Any ∷ []) ∷ []) true ≡ offence (codes "/virtual_hosts") TooMany
unfolding whole_rules is_own few_domains virtual_hosts
domains_before_a_repeat = refl

-- a repeat is judged before path parameters
repeat_before_parameters : whole_rules (codes "/c") None (host (form.Exact (codes "a") ∷ []) ∷ host (form.Any ∷ form.Exact (codes "a") ∷ []) ∷ []) true ≡ offence (at_index (under (at_index (under (codes "/c") (codes "virtual_hosts")) 1) (codes "domains")) 1) Duplicate
unfolding whole_rules is_own few_domains few_routes repeat_after is_once domain_place virtual_hosts domains
repeat_before_parameters = refl

parameters_are_not_ignored : whole_rules [] None [] true ≡ offence (codes "/ignore_path_parameters_in_path_matching") NotInProfile
unfolding whole_rules is_own few_domains few_routes repeat_after is_once keeps_parameters ignore_path_parameters_in_path_matching
parameters_are_not_ignored = refl

-- ---- the configuration

nothing_configured : route_configuration [] (object no_members) ≡ Ok (record { name = []; hosts = []; edits = no_edits; specific_wins = false; ignore_port = false; ignore_params = false })
unfolding route_configuration switches whole_rules is_own few_domains few_routes repeat_after is_once keeps_parameters edits listed members_at scan_object scan field optional type_url name virtual_hosts request_headers_to_add request_headers_to_remove response_headers_to_add response_headers_to_remove most_specific_header_mutations_wins ignore_port_in_host_matching ignore_path_parameters_in_path_matching
nothing_configured = refl

name_and_port : route_configuration [] (object (member (codes "ignorePortInHostMatching") (boolean true) (member (codes "name") (string (codes "n")) no_members)))
    ≡ Ok (record { name = codes "n"; hosts = []; edits = no_edits; specific_wins = false; ignore_port = true; ignore_params = false })
unfolding route_configuration switches whole_rules is_own few_domains few_routes repeat_after is_once keeps_parameters edits listed text truth members_at scan_object scan judge allowed known once field optional type_url name virtual_hosts request_headers_to_add request_headers_to_remove response_headers_to_add response_headers_to_remove most_specific_header_mutations_wins ignore_port_in_host_matching ignore_path_parameters_in_path_matching vhds cluster_specifier_plugins
name_and_port = refl

specific_wins : route_configuration [] (object (member (codes "most_specific_header_mutations_wins") (boolean true) (member (codes "virtual_hosts") (array no_items) no_members)))
    ≡ Ok (record { name = []; hosts = []; edits = no_edits; specific_wins = true; ignore_port = false; ignore_params = false })
unfolding route_configuration switches whole_rules is_own few_domains few_routes repeat_after is_once keeps_parameters edits listed text truth list list_of items members_at scan_object scan judge allowed known once field optional type_url name virtual_hosts request_headers_to_add request_headers_to_remove response_headers_to_add response_headers_to_remove most_specific_header_mutations_wins ignore_port_in_host_matching ignore_path_parameters_in_path_matching vhds cluster_specifier_plugins
specific_wins = refl

-- the fields go in the order of the table
name_before_hosts : route_configuration [] (object (member (codes "@type") null (member (codes "name") (boolean true) (member (codes "virtual_hosts") (boolean true) no_members)))) ≡ offence (codes "/name") WrongKind
unfolding route_configuration text members_at scan_object scan judge allowed known once field optional type_url name virtual_hosts vhds cluster_specifier_plugins request_headers_to_add
name_before_hosts = refl
