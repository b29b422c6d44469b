-- Cases of what is seen, of hosts, numbers and valid requests, which compute.
use Rattle.std.proofs.Common.{◌≡◌, true, false, [], ◌∷◌, Some, None, take, pos, negsuc, refl}
use Rattle.std.specs.Prelude.{codes}
use Rattle.text_base.specs.Asked.{Asked}
use Rattle.text_base.specs.Seen.{seen, field_named, path_of, query_part, matched_path, query_of}
use Rattle.text_base.specs.Forms.{folded, begins, ends, occurs, signed_value, within}
use Rattle.text_base.specs.Hosts.{host_text, exact_matches, suffix_matches, prefix_matches, written_matches}
use Rattle.text_base.specs.Heads.{heads}
use Rattle.text_base.specs.Requests.{is_valid, is_header, first_bad_part}
use Rattle.text_base.specs.declared.request.BadRequest.TheVariants as bad
use Rattle.text_base.specs.declared.request.Field.TheVariants as field

-- GET over http, of `/p?x` on `x.com`, with the headers `x-a: 1`, `x-e` and `x-a: 2`
abbrev asked : Asked
asked = record {
  authority = codes "x.com";
  target = codes "/p?x";
  method = codes "GET";
  https = false;
  internal = false;
  headers = (codes "x-a", codes "1") ∷ (codes "x-e", []) ∷ (codes "x-a", codes "2") ∷ [];
  runtime = [];
  random = 3000024;
}

-- the host text of an authority
port_is_dropped : host_text true (codes "a.com:8080") ≡ codes "a.com"
port_is_dropped = refl

empty_port_is_dropped : host_text true (codes "a.com:") ≡ codes "a.com"
empty_port_is_dropped = refl

no_port_stays : host_text true (codes "a.com") ≡ codes "a.com"
no_port_stays = refl

colons_in_brackets_stay : host_text true (codes "[::1]") ≡ codes "[::1]"
colons_in_brackets_stay = refl

port_behind_brackets_is_dropped : host_text true (codes "[::1]:80") ≡ codes "[::1]"
port_behind_brackets_is_dropped = refl

port_alone_is_dropped : host_text true (codes ":80") ≡ []
port_alone_is_dropped = refl

last_of_two_colons_counts : host_text true (codes "a:1:2") ≡ codes "a:1"
last_of_two_colons_counts = refl

port_stays_where_ports_count : host_text false (codes "a.com:8080") ≡ codes "a.com:8080"
port_stays_where_ports_count = refl

-- domains against a host text
suffix_needs_one_byte_in_front : suffix_matches (codes "-bar.foo.com") (codes "-bar.foo.com") ≡ false
suffix_needs_one_byte_in_front = refl

suffix_with_one_byte_in_front : suffix_matches (codes "-bar.foo.com") (codes "z-bar.foo.com") ≡ true
suffix_with_one_byte_in_front = refl

longer_suffix_matches : suffix_matches (codes "-bar.foo.com") (codes "baz-bar.foo.com") ≡ true
longer_suffix_matches = refl

shorter_suffix_matches : suffix_matches (codes ".foo.com") (codes "baz-bar.foo.com") ≡ true
shorter_suffix_matches = refl

bare_suffix_has_a_shorter_one : suffix_matches (codes ".foo.com") (codes "-bar.foo.com") ≡ true
bare_suffix_has_a_shorter_one = refl

suffix_alone_does_not_match : suffix_matches (codes ".foo.com") (codes ".foo.com") ≡ false
suffix_alone_does_not_match = refl

prefix_ignores_case : prefix_matches (codes "foo.") (codes "FOO.com") ≡ true
prefix_ignores_case = refl

prefix_needs_its_text_in_front : prefix_matches (codes "foo.") (codes ".foo.com") ≡ false
prefix_needs_its_text_in_front = refl

prefix_needs_one_byte_behind : prefix_matches (codes "foo.") (codes "foo.") ≡ false
prefix_needs_one_byte_behind = refl

exact_ignores_case : exact_matches (codes "a.com") (codes "A.cOm") ≡ true
exact_ignores_case = refl

exact_is_whole : exact_matches (codes "a.com") (codes "a.com.") ≡ false
exact_is_whole = refl

exact_has_no_port : exact_matches (codes "a.com") (codes "[::1]") ≡ false
exact_has_no_port = refl

written_suffix : written_matches (codes "*.foo.com") (codes "a.foo.com") ≡ true
written_suffix = refl

written_prefix : written_matches (codes "foo.*") (codes "foo.com") ≡ true
written_prefix = refl

written_exact : written_matches (codes "a.com") (codes "b.com") ≡ false
written_exact = refl

written_star : written_matches (codes "*") [] ≡ true
written_star = refl

-- paths and queries of a target
path_ends_at_the_first_mark : path_of (codes "/a?b?c") ≡ codes "/a"
path_ends_at_the_first_mark = refl

path_without_query_is_the_target : path_of (codes "/a;b") ≡ codes "/a;b"
path_without_query_is_the_target = refl

query_keeps_its_mark : query_part (codes "/a?b?c") ≡ codes "?b?c"
query_keeps_its_mark = refl

no_query_is_nothing : query_part (codes "/a") ≡ []
no_query_is_nothing = refl

empty_query_is_its_mark : query_part (codes "/a?") ≡ codes "?"
empty_query_is_its_mark = refl

matched_path_keeps_parameters : matched_path false (codes "/a;v=1?x") ≡ codes "/a;v=1"
matched_path_keeps_parameters = refl

matched_path_without_parameters : matched_path true (codes "/a;v=1?x") ≡ codes "/a"
matched_path_without_parameters = refl

parameters_in_the_query_do_not_count : matched_path true (codes "/a?k=1;2") ≡ codes "/a"
parameters_in_the_query_do_not_count = refl

first_element_of_a_key_counts : query_of (codes "/?k=2&k=1") (codes "k") ≡ Some (codes "2")
first_element_of_a_key_counts = refl

later_element_does_not_count : query_of (codes "/?k=1&k=2") (codes "k") ≡ Some (codes "1")
later_element_does_not_count = refl

longer_key_is_another : query_of (codes "/?kk=1") (codes "k") ≡ None
longer_key_is_another = refl

key_without_value_is_empty : query_of (codes "/?k") (codes "k") ≡ Some []
key_without_value_is_empty = refl

value_may_hold_an_equal_sign : query_of (codes "/?k==1") (codes "k") ≡ Some (codes "=1")
value_may_hold_an_equal_sign = refl

value_keeps_a_semicolon : query_of (codes "/a?k=1;2") (codes "k") ≡ Some (codes "1;2")
value_keeps_a_semicolon = refl

empty_elements_are_passed : query_of (codes "/?&&k=1") (codes "k") ≡ Some (codes "1")
empty_elements_are_passed = refl

second_mark_is_a_byte_of_the_key : query_of (codes "/??k=1") (codes "k") ≡ None
second_mark_is_a_byte_of_the_key = refl

keys_mind_case : query_of (codes "/?K=1") (codes "k") ≡ None
keys_mind_case = refl

no_query_has_no_key : query_of (codes "/k=1") (codes "k") ≡ None
no_query_has_no_key = refl

-- forms of a text
folding_ignores_case : folded true (codes "aB-Z[") ≡ codes "ab-z["
folding_ignores_case = refl

no_folding_minds_case : folded false (codes "aB") ≡ codes "aB"
no_folding_minds_case = refl

begins_with_nothing : begins (codes "ab") [] ≡ true
begins_with_nothing = refl

begins_with_itself : begins (codes "ab") (codes "ab") ≡ true
begins_with_itself = refl

begins_not_with_more : begins (codes "ab") (codes "abc") ≡ false
begins_not_with_more = refl

ends_with_its_end : ends (codes "abc") (codes "bc") ≡ true
ends_with_its_end = refl

ends_not_with_more : ends (codes "bc") (codes "abc") ≡ false
ends_not_with_more = refl

occurs_inside : occurs (codes "abcd") (codes "bc") ≡ true
occurs_inside = refl

occurs_as_a_whole : occurs (codes "ab") (codes "ab") ≡ true
occurs_as_a_whole = refl

nothing_occurs_everywhere : occurs [] [] ≡ true
nothing_occurs_everywhere = refl

occurs_only_in_one_piece : occurs (codes "abxc") (codes "bc") ≡ false
occurs_only_in_one_piece = refl

-- decimal numbers with a sign
range_at_minus_one : within (negsuc 9) (pos 0) (signed_value (codes "-1")) ≡ true
range_at_minus_one = refl

range_at_zero : within (negsuc 9) (pos 0) (signed_value (codes "0")) ≡ false
range_at_zero = refl

range_at_leading_zeros : within (negsuc 9) (pos 0) (signed_value (codes "-010")) ≡ true
range_at_leading_zeros = refl

range_at_plus_one : within (negsuc 9) (pos 0) (signed_value (codes "+1")) ≡ false
range_at_plus_one = refl

range_at_start_is_included : within (negsuc 9) (pos 0) (signed_value (codes "-10")) ≡ true
range_at_start_is_included = refl

range_at_below_start : within (negsuc 9) (pos 0) (signed_value (codes "-11")) ≡ false
range_at_below_start = refl

range_at_empty_text : within (negsuc 9) (pos 0) (signed_value ([])) ≡ false
range_at_empty_text = refl

range_at_sign_alone : within (negsuc 9) (pos 0) (signed_value (codes "-")) ≡ false
range_at_sign_alone = refl

range_at_two_signs : within (negsuc 9) (pos 0) (signed_value (codes "+-1")) ≡ false
range_at_two_signs = refl

range_at_minus_zero : within (negsuc 9) (pos 0) (signed_value (codes "-0")) ≡ false
range_at_minus_zero = refl

range_at_trailing_byte : within (negsuc 9) (pos 0) (signed_value (codes "-1a")) ≡ false
range_at_trailing_byte = refl

range_at_space : within (negsuc 9) (pos 0) (signed_value (codes "-1 ")) ≡ false
range_at_space = refl

plus_sign_is_read : within (pos 1) (pos 2) (signed_value (codes "+001")) ≡ true
plus_sign_is_read = refl

-- what is seen of a request
random_is_six_digits_of_its_rest : seen asked field.Random ≡ Some (codes "000024")
unfolding seen
random_is_six_digits_of_its_rest = refl

values_of_a_name_are_joined : seen asked (field.Header (codes "x-a")) ≡ Some (codes "1,2")
unfolding seen
values_of_a_name_are_joined = refl

absent_header_is_not_seen : seen asked (field.Header (codes "x-b")) ≡ None
unfolding seen
absent_header_is_not_seen = refl

empty_value_is_seen : seen asked (field.Header (codes "x-e")) ≡ Some []
unfolding seen
empty_value_is_seen = refl

no_runtime_is_not_seen : seen asked field.Runtime ≡ None
unfolding seen
no_runtime_is_not_seen = refl

not_internal_is_not_seen : seen asked field.Internal ≡ None
unfolding seen
not_internal_is_not_seen = refl

proto_is_seen : seen asked field.Proto ≡ Some (codes "http")
unfolding seen
proto_is_seen = refl

path_is_the_whole_target : seen asked (field_named (codes ":path")) ≡ Some (codes "/p?x")
unfolding seen
path_is_the_whole_target = refl

proto_by_its_header_name : seen asked (field_named (codes "x-forwarded-proto")) ≡ Some (codes "http")
unfolding seen
proto_by_its_header_name = refl

-- valid requests
request_is_valid : is_valid asked ≡ true
request_is_valid = refl

request_has_no_bad_part : first_bad_part asked ≡ None
request_has_no_bad_part = refl

target_without_a_slash_is_bad : first_bad_part (record asked { target = codes "a" }) ≡ Some bad.Target
target_without_a_slash_is_bad = refl

authority_comes_before_target : first_bad_part (record asked { authority = []; target = codes "a" }) ≡ Some bad.Authority
authority_comes_before_target = refl

second_header_is_bad : first_bad_part (record asked { headers = (codes "x-a", []) ∷ (codes "X-A", []) ∷ [] }) ≡ Some (bad.Header 1)
second_header_is_bad = refl

bad_runtime : first_bad_part (record asked { runtime = 31 ∷ [] }) ≡ Some bad.Runtime
bad_runtime = refl

bad_method : first_bad_part (record asked { method = [] }) ≡ Some bad.Method
bad_method = refl

host_is_no_header : is_header (codes "host", codes "a") ≡ false
host_is_no_header = refl

proto_is_no_header : is_header (codes "x-forwarded-proto", codes "https") ≡ false
proto_is_no_header = refl

internal_is_no_header : is_header (codes "x-envoy-internal", codes "true") ≡ false
internal_is_no_header = refl

value_may_not_begin_with_a_space : is_header (codes "x-a", codes " a") ≡ false
value_may_not_begin_with_a_space = refl

value_may_not_end_with_a_space : is_header (codes "x-a", codes "a ") ≡ false
value_may_not_end_with_a_space = refl

space_is_no_value : is_header (codes "x-a", codes " ") ≡ false
space_is_no_value = refl

value_may_be_empty : is_header (codes "x-a", []) ≡ true
value_may_be_empty = refl

value_may_hold_a_space : is_header (codes "x-a", codes "a b") ≡ true
value_may_hold_a_space = refl

name_is_in_lower_case : is_header (codes "X-a", codes "a") ≡ false
name_is_in_lower_case = refl

name_is_not_empty : is_header ([], codes "a") ≡ false
name_is_not_empty = refl

-- the headers of a request from the start
proto_comes_first : heads asked ≡ (codes "x-forwarded-proto", codes "http") ∷ (codes "x-a", codes "1") ∷ (codes "x-e", []) ∷ (codes "x-a", codes "2") ∷ []
proto_comes_first = refl

internal_comes_second : take 2 (heads (record asked { https = true; internal = true })) ≡ (codes "x-forwarded-proto", codes "https") ∷ (codes "x-envoy-internal", codes "true") ∷ []
internal_comes_second = refl
