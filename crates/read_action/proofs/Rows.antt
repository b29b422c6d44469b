-- Cases of reading routes, actions and edits, by computation.
use Rattle.std.proofs.Common.{◌≡◌, [], false, Ok, Some, None, refl}
use Rattle.std.specs.Prelude.{codes}
use Rattle.serde_json.specs.Data.{boolean, string, object, no_members, member}
use Rattle.json_tables.specs.Names.{key, value, raw_value, header, append, append_action, keep_empty_value, request_headers_to_add, request_headers_to_remove, response_headers_to_add, response_headers_to_remove, clusters, total_weight, https_redirect, scheme_redirect, host_redirect, port_redirect, path_redirect, prefix_rewrite, response_code, strip_query, regex_rewrite, status}
use Rattle.json_walk.specs.declared.refusal.Kind.TheVariants.{Missing, Conflict, OutOfRange}
use Rattle.json_walk.specs.Outcome.{offence}
use Rattle.json_walk.specs.Members.{members_at, scan_object, scan, judge, allowed, known, once}
use Rattle.json_walk.specs.Fields.{field, optional, required, alone_after}
use Rattle.json_walk.specs.Leaves.{text, truth, choice}
use Rattle.cfg_types.specs.declared.changes.How.TheVariants as how
use Rattle.cfg_types.specs.declared.actions.PathTo.TheVariants as path
use Rattle.cfg_types.specs.declared.actions.HostChange.TheVariants as change
use Rattle.read_match.specs.Kinds.{text_within, matcher_text, target_text, edit_name, header_name, lowered, host}
use Rattle.read_action.specs.Edits.{header_value, append_actions, append_action as action_read, how_form, way_of_adding, header_value_option, listed, edits}
use Rattle.read_action.specs.Clusters.{fit_sum, same_total}
use Rattle.read_action.specs.Forwards.{host_change}
use Rattle.read_action.specs.Redirects.{scheme, schemes, origin, path_to, paths_to, one_of_each, redirect_action, direct_response_action}

-- an empty object edits nothing
no_lists : edits [] (object no_members) ≡ Ok (record { request = record { remove = []; add = [] }; response = record { remove = []; add = [] } })
unfolding edits listed field optional request_headers_to_add request_headers_to_remove response_headers_to_add response_headers_to_remove
no_lists = refl

-- the value is empty by default, and the header is appended
added_by_default : header_value_option [] (object (member (codes "header") (object (member (codes "key") (string (codes "X")) no_members)) no_members)) ≡ Ok (record { name = codes "x"; value = []; how = how.Append; keep_empty = false })
unfolding header_value_option way_of_adding header_value how_form edit_name header_name lowered host text members_at scan_object scan judge allowed known once field optional required alone_after key value raw_value header append append_action keep_empty_value
added_by_default = refl

-- `append: false` is there, so an action is a second one
append_and_action : header_value_option [] (object (member (codes "append") (boolean false) (member (codes "append_action") (string (codes "ADD_IF_ABSENT")) (member (codes "header") (object (member (codes "key") (string (codes "x")) no_members)) no_members)))) ≡ offence (codes "/append_action") Conflict
unfolding header_value_option way_of_adding header_value how_form append_actions action_read choice truth edit_name header_name lowered host text members_at scan_object scan judge allowed known once field optional required alone_after key value raw_value header append append_action keep_empty_value
append_and_action = refl

-- no weight at all
weights_of_none : fit_sum (codes "/w") [] ≡ offence (codes "/w/clusters") OutOfRange
unfolding fit_sum clusters
weights_of_none = refl

-- a total of 0 is none, and another one than the sum is a conflict
total_of_zero : same_total [] 0 7 ≡ Ok tt
unfolding same_total
total_of_zero = refl

total_past_the_sum : same_total [] 8 7 ≡ offence (codes "/total_weight") Conflict
unfolding same_total total_weight
total_past_the_sum = refl

-- an empty literal host is a change all the same
empty_host : host_change (Some []) None ≡ change.Literal []
unfolding host_change
empty_host = refl

-- `https_redirect: false` stands beside no other scheme
false_conflicts : redirect_action [] (object (member (codes "httpsRedirect") (boolean false) (member (codes "scheme_redirect") (string (codes "s")) no_members))) ≡ offence (codes "/scheme_redirect") Conflict
unfolding redirect_action origin schemes scheme paths_to path_to one_of_each truth matcher_text text_within text members_at scan_object scan judge allowed known once field optional alone_after https_redirect scheme_redirect host_redirect port_redirect path_redirect prefix_rewrite response_code strip_query regex_rewrite
false_conflicts = refl

-- an empty path is another path
empty_path : redirect_action [] (object (member (codes "path_redirect") (string []) no_members)) ≡ Ok (record { scheme = []; host = []; port = 0; path = path.Whole []; code = 301; strip = false })
unfolding redirect_action origin schemes scheme paths_to path_to one_of_each target_text text members_at scan_object scan judge allowed known once field optional alone_after https_redirect scheme_redirect host_redirect port_redirect path_redirect prefix_rewrite response_code strip_query regex_rewrite
empty_path = refl

-- a status is needed
no_status : direct_response_action (codes "/d") (object no_members) ≡ offence (codes "/d/status") Missing
unfolding direct_response_action members_at scan_object scan field required status
no_status = refl
