-- Cases of the rules of reading, by computation.
use Rattle.std.proofs.Common.{◌≡◌, [], ◌∷◌, true, false, Some, None, Ok, refl, pos, negsuc}
use Rattle.std.specs.Prelude.{codes, Float}
use Rattle.serde_json.specs.Data.{Data, null, boolean, number, unsigned, negative, float, string, array, object, no_items, item, no_members, member}
use Rattle.json_tables.specs.declared.message.Message.TheVariants.{StringMatcher, RegexMatcher, RouteMatch}
use Rattle.json_tables.specs.Names.{exact, prefix, suffix, contains, safe_regex, ignore_case, custom, regex, google_re2, path, path_separated_prefix, case_sensitive, runtime_fraction, headers, query_parameters, grpc, connect_matcher, path_match_policy, tls_context, dynamic_metadata, filter_state, cookies, name}
use Rattle.json_walk.specs.declared.refusal.Kind.TheVariants.{UnknownField, WrongKind, Missing, Conflict, OutOfRange, TooMany, NotInProfile}
use Rattle.json_walk.specs.Outcome.{offence}
use Rattle.json_walk.specs.Places.{at_index}
use Rattle.json_walk.specs.Members.{members_at, scan_object, scan, judge, allowed, known, once}
use Rattle.json_walk.specs.Fields.{field, optional, required, alone, alone_after}
use Rattle.json_walk.specs.Leaves.{text, truth, choice, list, list_of, items}
use Rattle.json_walk.specs.Numbers.{whole, number_said}

-- ---- steps 1 and 2

no_object : members_at StringMatcher (codes "/x") (array no_items) ≡ offence (codes "/x") WrongKind
unfolding members_at scan_object
no_object = refl

unknown_member : members_at StringMatcher (codes "/x") (object (member (codes "a/b~") null no_members)) ≡ offence (codes "/x/a~1b~0") UnknownField
unfolding members_at scan_object scan judge allowed known once exact prefix suffix contains safe_regex ignore_case custom
unknown_member = refl

unknown_member_as_spelled : members_at StringMatcher [] (object (member (codes "someField") null no_members)) ≡ offence (codes "/someField") UnknownField
unfolding members_at scan_object scan judge allowed known once exact prefix suffix contains safe_regex ignore_case custom
unknown_member_as_spelled = refl

members_in_byte_order : members_at StringMatcher [] (object (member (codes "B") null (member (codes "a") null no_members))) ≡ offence (codes "/B") UnknownField
unfolding members_at scan_object scan judge allowed known once exact prefix suffix contains safe_regex ignore_case custom
members_in_byte_order = refl

both_spellings_are_read : members_at StringMatcher [] (object (member (codes "exact") (string (codes "a")) (member (codes "ignoreCase") (boolean true) no_members)))
    ≡ Ok (Some (codes "exact") ∷ None ∷ None ∷ None ∷ None ∷ Some (codes "ignoreCase") ∷ [])
unfolding members_at scan_object scan judge allowed known once exact prefix suffix contains safe_regex ignore_case custom
both_spellings_are_read = refl

second_spelling_also_of_null : members_at StringMatcher [] (object (member (codes "ignoreCase") null (member (codes "ignore_case") null no_members))) ≡ offence (codes "/ignore_case") Conflict
unfolding members_at scan_object scan judge allowed known once exact prefix suffix contains safe_regex ignore_case custom
second_spelling_also_of_null = refl

second_spelling_of_a_carried_member : members_at RegexMatcher [] (object (member (codes "googleRe2") null (member (codes "google_re2") (boolean true) no_members))) ≡ offence (codes "/google_re2") Conflict
unfolding members_at scan_object scan judge allowed known once regex google_re2
second_spelling_of_a_carried_member = refl

null_is_absent : members_at StringMatcher [] (object (member (codes "exact") null no_members)) ≡ Ok (None ∷ None ∷ None ∷ None ∷ None ∷ None ∷ [])
unfolding members_at scan_object scan judge allowed known once exact prefix suffix contains safe_regex ignore_case custom
null_is_absent = refl

carried_member_is_passed_over : (d : Data) → members_at RegexMatcher [] (object (member (codes "googleRe2") d no_members)) ≡ Ok (None ∷ [])
unfolding members_at scan_object scan judge allowed known once regex google_re2
carried_member_is_passed_over d = refl

refused_member_by_its_snake_name : members_at StringMatcher (codes "/x") (object (member (codes "custom") (boolean false) no_members)) ≡ offence (codes "/x/custom") NotInProfile
unfolding members_at scan_object scan judge allowed known once exact prefix suffix contains safe_regex ignore_case custom
refused_member_by_its_snake_name = refl

refused_member_of_null : members_at StringMatcher [] (object (member (codes "custom") null no_members)) ≡ Ok (None ∷ None ∷ None ∷ None ∷ None ∷ None ∷ [])
unfolding members_at scan_object scan judge allowed known once exact prefix suffix contains safe_regex ignore_case custom
refused_member_of_null = refl

-- a refused member that isn't null is not in the profile also where its other spelling was met
refused_member_beside_its_other_spelling : members_at RouteMatch [] (object (member (codes "tlsContext") null (member (codes "tls_context") (boolean true) no_members))) ≡ offence (codes "/tls_context") NotInProfile
unfolding members_at scan_object scan judge allowed known once prefix path safe_regex path_separated_prefix case_sensitive runtime_fraction headers query_parameters grpc connect_matcher path_match_policy tls_context dynamic_metadata filter_state cookies
refused_member_beside_its_other_spelling = refl

-- ---- steps 3 and 4

missing_where_it_would_stand : required (codes "/virtual_hosts/0") (object (member (codes "name") null no_members)) name text ≡ offence (codes "/virtual_hosts/0/name") Missing
unfolding required field name
missing_where_it_would_stand = refl

read_in_the_other_spelling : optional [] (object (member (codes "ignoreCase") (boolean true) no_members)) ignore_case truth ≡ Ok (Some true)
unfolding optional field truth ignore_case
read_in_the_other_spelling = refl

offence_at_the_snake_name : optional (codes "/x") (object (member (codes "ignoreCase") (number (unsigned 1)) no_members)) ignore_case truth ≡ offence (codes "/x/ignore_case") WrongKind
unfolding optional field truth ignore_case
offence_at_the_snake_name = refl

second_of_a_group : alone (codes "/x") (object (member (codes "exact") (boolean true) (member (codes "prefix") (boolean true) (member (codes "suffix") (boolean true) no_members)))) (exact ∷ prefix ∷ suffix ∷ []) ≡ offence (codes "/x/prefix") Conflict
unfolding alone_after field exact prefix suffix
second_of_a_group = refl

one_of_a_group : alone [] (object (member (codes "exact") null (member (codes "suffix") (boolean true) no_members))) (exact ∷ prefix ∷ suffix ∷ []) ≡ Ok tt
unfolding alone_after field exact prefix suffix
one_of_a_group = refl

-- ---- values

element_at_its_index : list_of None text (codes "/l") (array (item (string (codes "a")) (item null no_items))) ≡ offence (at_index (codes "/l") 1) WrongKind
unfolding list_of list items text
element_at_its_index = refl

list_past_its_limit : list_of (Some 1) text (codes "/l") (array (item null (item null no_items))) ≡ offence (codes "/l") TooMany
unfolding list_of list items text
list_past_its_limit = refl

name_of_a_list : choice (codes "ALL" ∷ codes "NONE" ∷ []) [] (string (codes "NONE")) ≡ Ok 1
unfolding choice text
name_of_a_list = refl

name_of_no_list : choice (codes "ALL" ∷ codes "NONE" ∷ []) [] (string (codes "none")) ≡ offence [] OutOfRange
unfolding choice text
name_of_no_list = refl

number_as_digits : whole (negsuc 9) (pos 10) [] (string (codes "-10")) ≡ Ok (negsuc 9)
unfolding whole number_said
number_as_digits = refl

number_below_its_range : whole (negsuc 8) (pos 10) (codes "/n") (string (codes "-10")) ≡ offence (codes "/n") OutOfRange
unfolding whole number_said
number_below_its_range = refl

minus_zero_as_digits : whole (pos 0) (pos 10) [] (string (codes "-0")) ≡ Ok (pos 0)
unfolding whole number_said
minus_zero_as_digits = refl

plus_is_no_number : whole (pos 0) (pos 10) [] (string (codes "+5")) ≡ offence [] WrongKind
unfolding whole number_said
plus_is_no_number = refl

minus_alone_is_no_number : whole (pos 0) (pos 10) [] (string (codes "-")) ≡ offence [] WrongKind
unfolding whole number_said
minus_alone_is_no_number = refl

twenty_digits : whole (pos 0) (pos 10) [] (string (codes "00000000000000000007")) ≡ Ok (pos 7)
unfolding whole number_said
twenty_digits = refl

twenty_one_digits : whole (pos 0) (pos 10) [] (string (codes "000000000000000000007")) ≡ offence [] WrongKind
unfolding whole number_said
twenty_one_digits = refl

number_as_such : whole (negsuc 9) (pos 10) [] (number (negative (negsuc 9))) ≡ Ok (negsuc 9)
unfolding whole number_said
number_as_such = refl

float_is_no_whole_number : (x : Float) → whole (pos 0) (pos 10) [] (number (float x)) ≡ offence [] WrongKind
unfolding whole number_said
float_is_no_whole_number x = refl
