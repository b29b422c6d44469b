-- Cases of reading tests, by computation.
use Rattle.std.proofs.Common.{◌≡◌, [], ◌∷◌, true, false, Ok, Some, None, refl}
use Rattle.std.specs.Prelude.{codes}
use Rattle.serde_json.specs.Data.{null, boolean, number, unsigned, string, array, object, no_items, item, no_members, member}
use Rattle.text_base.specs.Asked.{plain_request}
use Rattle.json_tables.specs.Names.{authority, path, method, internal, ssl, random_value, runtime, additional_request_headers, additional_response_headers, key, value, cluster_name, virtual_cluster_name, virtual_host_name, host_rewrite, path_rewrite, path_redirect, request_header_matches, response_header_matches, test_name, input as input_name, validate as validate_name, tests}
use Rattle.json_walk.specs.declared.refusal.Kind.TheVariants.{WrongKind, BadText, Missing}
use Rattle.json_walk.specs.Outcome.{offence}
use Rattle.json_walk.specs.Members.{members_at, scan_object, scan, judge, allowed, known, once}
use Rattle.json_walk.specs.Fields.{field, optional, required}
use Rattle.json_walk.specs.Leaves.{text, truth, list, list_of, items}
use Rattle.json_walk.specs.Numbers.{count, whole, number_said}
use Rattle.read_match.specs.Kinds.{header_name, lowered}
use Rattle.test_read.specs.Headers.{header_key, header_value, header, headers}
use Rattle.test_read.specs.Inputs.{default_method, asked_line, asked_flags, asked_parts, valid_request, input}
use Rattle.test_read.specs.Validation.{expects_nothing, expecting, both_header_rules, validate}
use Rattle.test_read.specs.Tests.{test_entry, test_file}

part_is_no_header : header (codes "/h/0") (object (member (codes "key") (string (codes ":path")) no_members)) ≡ offence (codes "/h/0/key") BadText
unfolding header header_key header_name lowered text members_at scan_object scan judge allowed known once field required key value
part_is_no_header = refl

reserved_in_any_case : header_key [] (string (codes "X-Envoy-Internal")) ≡ offence [] BadText
unfolding header_key header_name lowered text
reserved_in_any_case = refl

key_in_lower_case_without_a_value : header [] (object (member (codes "key") (string (codes "X-A")) no_members)) ≡ Ok (codes "x-a", [])
unfolding header header_key header_name lowered text members_at scan_object scan judge allowed known once field required optional key value
key_in_lower_case_without_a_value = refl

value_under_its_name : header [] (object (member (codes "key") (string (codes "a")) (member (codes "value") (string (codes "b c")) no_members))) ≡ Ok (codes "a", codes "b c")
unfolding header header_key header_value header_name lowered text members_at scan_object scan judge allowed known once field required optional key value
value_under_its_name = refl

space_at_the_end_of_a_value : header_value (codes "/v") (string (codes "a ")) ≡ offence (codes "/v") BadText
unfolding header_value text
space_at_the_end_of_a_value = refl

plain_by_default : input [] (object (member (codes "authority") (string (codes "x.com")) (member (codes "path") (string (codes "/")) no_members))) ≡ Ok (plain_request (codes "x.com") (codes "/"), record { list = [] })
unfolding input asked_line asked_flags asked_parts default_method valid_request text members_at scan_object scan judge allowed known once field optional required authority path method internal ssl random_value runtime additional_request_headers additional_response_headers
plain_by_default = refl

-- each part under the name of its field
every_part : input [] (object (member (codes "additional_request_headers") (array (item (object (member (codes "key") (string (codes "a")) no_members)) no_items))
    (member (codes "additional_response_headers") (array (item (object (member (codes "key") (string (codes "b")) no_members)) no_items))
    (member (codes "authority") (string (codes "x.com")) (member (codes "internal") (boolean true) (member (codes "method") (string (codes "PUT")) (member (codes "path") (string (codes "/p"))
    (member (codes "random_value") (number (unsigned 7)) (member (codes "runtime") (string (codes "k")) no_members)))))))))
    ≡ Ok (
      record {
        authority = codes "x.com";
        target = codes "/p";
        method = codes "PUT";
        https = false;
        internal = true;
        headers = (codes "a", []) ∷ [];
        runtime = codes "k";
        random = 7;
      },
      record { list = (codes "b", []) ∷ [] },
    )
unfolding input asked_line asked_flags asked_parts default_method valid_request header header_key headers header_name lowered text truth list list_of items count whole number_said members_at scan_object scan judge allowed known once field optional required authority path method internal ssl random_value runtime additional_request_headers additional_response_headers key value
every_part = refl

-- `ssl` makes it https
https_by_ssl : asked_parts [] (object (member (codes "authority") (string (codes "x.com")) (member (codes "path") (string (codes "/")) (member (codes "ssl") (boolean true) no_members))))
    ≡ Ok (record { authority = codes "x.com"; target = codes "/"; method = codes "GET"; https = true; internal = false; headers = []; runtime = []; random = 0 })
unfolding asked_line asked_flags asked_parts default_method text truth field optional required authority path method internal ssl random_value runtime additional_request_headers
https_by_ssl = refl

space_in_the_method : input (codes "/tests/0/input") (object (member (codes "authority") (string (codes "x.com")) (member (codes "method") (string (codes "G T")) (member (codes "path") (string (codes "/")) no_members)))) ≡ offence (codes "/tests/0/input/method") BadText
unfolding input asked_line asked_flags asked_parts default_method valid_request text members_at scan_object scan judge allowed known once field optional required authority path method internal ssl random_value runtime additional_request_headers additional_response_headers
space_in_the_method = refl

authority_before_path : valid_request (codes "/i") (plain_request [] []) ≡ offence (codes "/i/authority") BadText
unfolding valid_request authority
authority_before_path = refl

nothing_expected : validate (codes "/t") (object (member (codes "clusterName") null no_members)) ≡ offence (codes "/t") Missing
unfolding validate both_header_rules expecting expects_nothing members_at scan_object scan judge allowed known once field optional cluster_name virtual_cluster_name virtual_host_name host_rewrite path_rewrite path_redirect request_header_matches response_header_matches
nothing_expected = refl

-- each text under the name of its field
every_text : validate [] (object (member (codes "cluster_name") (string (codes "c")) (member (codes "host_rewrite") (string (codes "a")) (member (codes "path_redirect") (string (codes "u"))
    (member (codes "path_rewrite") (string (codes "p")) (member (codes "virtual_cluster_name") (string (codes "v")) (member (codes "virtual_host_name") (string (codes "h")) no_members)))))))
    ≡ Ok (record {
      cluster_name = Some (codes "c");
      virtual_cluster_name = Some (codes "v");
      virtual_host_name = Some (codes "h");
      host_rewrite = Some (codes "a");
      path_rewrite = Some (codes "p");
      path_redirect = Some (codes "u");
      request_header_matches = [];
      response_header_matches = [];
    })
unfolding validate both_header_rules expecting expects_nothing text members_at scan_object scan judge allowed known once field optional cluster_name virtual_cluster_name virtual_host_name host_rewrite path_rewrite path_redirect request_header_matches response_header_matches
every_text = refl

-- a list without rules expects nothing
no_rules_are_no_expectation : validate (codes "/tests/0/validate") (object (member (codes "request_header_matches") (array no_items) no_members)) ≡ offence (codes "/tests/0/validate") Missing
unfolding validate both_header_rules expecting expects_nothing list list_of items members_at scan_object scan judge allowed known once field optional cluster_name virtual_cluster_name virtual_host_name host_rewrite path_rewrite path_redirect request_header_matches response_header_matches
no_rules_are_no_expectation = refl

-- the rules on the request come before those on the response
request_rules_before_response_rules : both_header_rules [] (object (member (codes "request_header_matches") (boolean true) (member (codes "response_header_matches") (boolean true) no_members))) ≡ offence (codes "/request_header_matches") WrongKind
unfolding both_header_rules list list_of field optional request_header_matches response_header_matches
request_rules_before_response_rules = refl

no_tests : test_file [] (object no_members) ≡ offence (codes "/tests") Missing
unfolding test_file members_at scan_object scan field required tests
no_tests = refl

-- the fields of a test go in the order of the table
name_before_input : test_entry (codes "/t") (object (member (codes "input") (boolean true) (member (codes "validate") (boolean true) no_members))) ≡ offence (codes "/t/test_name") Missing
unfolding test_entry members_at scan_object scan judge allowed known once field required test_name input_name validate_name
name_before_input = refl

input_before_expectation : test_entry (codes "/t") (object (member (codes "input") (boolean true) (member (codes "test_name") (string (codes "n")) (member (codes "validate") (boolean true) no_members)))) ≡ offence (codes "/t/input") WrongKind
unfolding test_entry input text members_at scan_object scan judge allowed known once field required test_name input_name validate_name
input_before_expectation = refl

one_test : test_entry [] (object (member (codes "input") (object (member (codes "authority") (string (codes "x.com")) (member (codes "path") (string (codes "/")) no_members)))
    (member (codes "test_name") (string (codes "n")) (member (codes "validate") (object (member (codes "cluster_name") (string (codes "c")) no_members)) no_members))))
    ≡ Ok (record {
      name = codes "n";
      request = plain_request (codes "x.com") (codes "/");
      response = record { list = [] };
      expect = record {
        cluster_name = Some (codes "c");
        virtual_cluster_name = None;
        virtual_host_name = None;
        host_rewrite = None;
        path_rewrite = None;
        path_redirect = None;
        request_header_matches = [];
        response_header_matches = [];
      };
    })
unfolding test_entry input asked_line asked_flags asked_parts default_method valid_request validate both_header_rules expecting expects_nothing text members_at scan_object scan judge allowed known once field optional required authority path method internal ssl random_value runtime additional_request_headers additional_response_headers cluster_name virtual_cluster_name virtual_host_name host_rewrite path_rewrite path_redirect request_header_matches response_header_matches test_name input_name validate_name
one_test = refl
