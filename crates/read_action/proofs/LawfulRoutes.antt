-- Routes and header edits that are read are lawful.
use Rattle.std.proofs.Common.{◌≡◌, ◌≤◌, ◌<◌, ℕ, List, [], ◌∷◌, length, Bool, true, false, ◌&&◌, ◌==◌, Option, Some, None, IfOk, IsTrue, refl, arith, nat_le, lit≤, ℤ, pos, negsuc}
use Rattle.std.specs.Prelude.{int_le}
use Rattle.std.proofs.lemmas.Bool.Decides.{nat_tests}
use Rattle.std.specs.List.{list_any}
use Rattle.std.specs.Prelude.{All, IfSome, unwrap_or}
use Rattle.std.proofs.lemmas.List.Elements.{All-nil}
use Rattle.serde_json.specs.Data.{Data}
use Rattle.json_tables.specs.declared.message.Message.TheVariants as messages
use Rattle.json_tables.specs.Names as name
use Rattle.json_walk.specs.declared.refusal.Kind.TheVariants.{WrongKind, OutOfRange}
use Rattle.json_walk.specs.Outcome.{or_offence}
use Rattle.json_walk.specs.Places.{under}
use Rattle.json_walk.specs.Members.{members_at}
use Rattle.json_walk.specs.Fields.{Reading, optional, required, alone}
use Rattle.json_walk.specs.Leaves.{text, truth, choice, list_of}
use Rattle.json_walk.specs.Numbers.{number_said, whole, count}
use Rattle.json_walk.proofs.ReadFacts.{Reads, after, whatever, where_true, of_required, of_optional, of_maybe, of_list, of_short_list}
use Rattle.cfg_types.specs.declared.changes.EditPair.{EditPair}
use Rattle.cfg_types.specs.declared.actions.HostChange.{HostChange}
use Rattle.cfg_types.specs.Lawful.{IsLawfulRule, IsLawfulAddition, IsLawfulPair, IsLawfulShare, AreLawfulShares, IsLawfulTarget, IsLawfulHostChange, IsLawfulForward, IsLawfulPathTo, IsLawfulRedirect, IsLawfulAct, IsLawfulRoute}
use Rattle.cfg_types.specs.Kinds.{is_target_text, is_value_text}
use Rattle.cfg_types.specs.Shares.{weight_of}
use Rattle.cfg_types.specs.declared.actions.Act.{Act}
use Rattle.cfg_types.specs.declared.actions.Forward.{Forward}
use Rattle.cfg_types.specs.declared.actions.Redirect.{Redirect}
use Rattle.cfg_types.specs.declared.actions.Share.{Share}
use Rattle.cfg_types.specs.declared.actions.Target.{Target}
use Rattle.read_match.specs.Kinds.{matcher_text, target_text, value_text, some_name, field_name, edit_name}
use Rattle.read_match.specs.Routes.{route_match}
use Rattle.read_match.proofs.LawfulTexts.{IsMatcher, of_matcher_text, of_target_text, of_value_text, IsSome, of_some_name, IsField, of_field_name, IsEdit, of_edit_name}
use Rattle.read_match.proofs.LawfulRules.{must_is, of_rule}
use Rattle.read_action.specs.Edits.{header_value, way_of_adding, header_value_option, listed, edits}
use Rattle.read_action.specs.Clusters.{cluster_weight, fit_sum, same_total, weighted_cluster}
use Rattle.read_action.specs.Forwards.{target, targets, host_change, host_changes, changes, one_target, route_action}
use Rattle.read_action.specs.Redirects.{scheme, schemes, origin, path_to, paths_to, response_codes, code_of, response_code, one_of_each, redirect_action, direct_response_action}
use Rattle.read_action.specs.Routes.{act_form, acts, one_act, act_and_edits, route_fields, route, typed_route}

-- ---- edits

-- a name and a value
abbrev IsHeader : List ℕ × List ℕ → Type 0
IsHeader h = IsEdit h.0 × IsTrue (is_value_text h.1)

of_header_value : Reads IsHeader header_value
unfolding header_value
of_header_value p d =
    whatever (members_at messages.HeaderValue p d) _ IsHeader (λ _.
    after (required p d name.key edit_name) _ IsEdit IsHeader (of_required p d name.key edit_name IsEdit of_edit_name) (λ called n.
    after (optional p d name.value value_text) _ (λ o. IsTrue (is_value_text (unwrap_or o []))) IsHeader (of_optional p d name.value value_text [] (λ t. IsTrue (is_value_text t)) refl of_value_text) (λ value v. (n, v))))

of_addition : Reads IsLawfulAddition header_value_option
unfolding header_value_option
of_addition p d =
    whatever (members_at messages.HeaderValueOption p d) _ IsLawfulAddition (λ _.
    after (required p d name.header header_value) _ IsHeader IsLawfulAddition (of_required p d name.header header_value IsHeader of_header_value) (λ header h.
    whatever (way_of_adding p d) _ IsLawfulAddition (λ way. record { name = h.0; value = h.1 })))

-- a list of at most 1,000 elements, each of which is so
abbrev Few : {A : Type 0} → (A → Type 0) → List A → Type 0
Few Q xs = All Q xs × (length xs ≤ 1000)

of_listed : {A : Type 0} (n : List ℕ) (element : Reading A) (Q : A → Type 0) → Reads Q element → Reads (Few Q) (listed n element)
unfolding listed
of_listed n element Q h p d =
    after (optional p d n (list_of (Some 1000) element)) _ (λ o. Few Q (unwrap_or o [])) (Few Q) (of_optional p d n (list_of (Some 1000) element) [] (Few Q) (All-nil Q, lit≤ tt) (of_short_list 1000 element Q h)) (λ found few. few)

pub of_edits : Reads IsLawfulPair edits
unfolding edits
of_edits p d =
    after (listed name.request_headers_to_add header_value_option p d) _ (Few IsLawfulAddition) IsLawfulPair (of_listed name.request_headers_to_add header_value_option IsLawfulAddition of_addition p d) (λ add a.
    after (listed name.request_headers_to_remove edit_name p d) _ (Few IsEdit) IsLawfulPair (of_listed name.request_headers_to_remove edit_name IsEdit of_edit_name p d) (λ remove r.
    after (listed name.response_headers_to_add header_value_option p d) _ (Few IsLawfulAddition) IsLawfulPair (of_listed name.response_headers_to_add header_value_option IsLawfulAddition of_addition p d) (λ add_back b.
    after (listed name.response_headers_to_remove edit_name p d) _ (Few IsEdit) IsLawfulPair (of_listed name.response_headers_to_remove edit_name IsEdit of_edit_name p d) (λ remove_back s.
    record {
      request = record { few_removed = r.1; few_added = a.1; removed = r.0; added = a.0 };
      response = record { few_removed = s.1; few_added = b.1; removed = s.0; added = b.0 };
    }))))

-- ---- targets

of_share : Reads IsLawfulShare cluster_weight
unfolding cluster_weight
of_share p d =
    whatever (members_at messages.ClusterWeight p d) _ IsLawfulShare (λ _.
    after (required p d name.name some_name) _ IsSome IsLawfulShare (of_required p d name.name some_name IsSome of_some_name) (λ called n.
    whatever (required p d name.weight (count 0 4294967295)) _ IsLawfulShare (λ weight.
    after (edits p d) _ IsLawfulPair IsLawfulShare (of_edits p d) (λ changes e. record { name = n; edits = e }))))

abbrev Fits : List Share → Type 0
Fits shares = (0 < weight_of shares) × (weight_of shares ≤ 4294967295)

sum_fits : (p : List ℕ) (shares : List Share) → IfOk (fit_sum p shares) (λ _. Fits shares)
unfolding fit_sum
sum_fits p shares =
    where_true (nat_le 1 (weight_of shares) && nat_le (weight_of shares) 4294967295) (weight_of shares) (under p name.clusters) OutOfRange (λ _. Fits shares) (λ e. both e)
  where
    both : (nat_le 1 (weight_of shares) && nat_le (weight_of shares) 4294967295) ≡ true → Fits shares
    both e = (grind (arith, nat_tests, e), grind (arith, nat_tests, e))

of_shares : Reads AreLawfulShares weighted_cluster
unfolding weighted_cluster
of_shares p d =
    whatever (members_at messages.WeightedCluster p d) _ AreLawfulShares (λ _.
    after (required p d name.clusters (list_of None cluster_weight)) _ (All IsLawfulShare) AreLawfulShares (of_required p d name.clusters _ _ (of_list None cluster_weight IsLawfulShare of_share)) (λ shares all.
    whatever (optional p d name.total_weight (count 0 4294967295)) _ AreLawfulShares (λ total.
    after (fit_sum p shares) _ (λ _. Fits shares) AreLawfulShares (sum_fits p shares) (λ sum f.
    whatever (same_total p (unwrap_or total 0) sum) _ AreLawfulShares (λ _. record { each = all; some = f.0; fit = f.1 })))))

target_is : (c h : Option (List ℕ)) (w : Option (List Share)) → IfSome c IsSome → IfSome h IsField → IfSome w AreLawfulShares → IfSome (target c h w) IsLawfulTarget
unfolding target
target_is (Some t) h w e f g = e
target_is None (Some t) w e f g = f
target_is None None (Some t) e f g = g
target_is None None None e f g = tt

of_targets : (p : List ℕ) (d : Data) → IfOk (targets p d) (λ o. IfSome o IsLawfulTarget)
unfolding targets
of_targets p d =
    after (optional p d name.cluster some_name) _ (λ o. IfSome o IsSome) (λ o. IfSome o IsLawfulTarget) (of_maybe p d name.cluster some_name IsSome of_some_name) (λ c e.
    after (optional p d name.cluster_header field_name) _ (λ o. IfSome o IsField) (λ o. IfSome o IsLawfulTarget) (of_maybe p d name.cluster_header field_name IsField of_field_name) (λ h f.
    after (optional p d name.weighted_clusters weighted_cluster) _ (λ o. IfSome o AreLawfulShares) (λ o. IfSome o IsLawfulTarget) (of_maybe p d name.weighted_clusters weighted_cluster AreLawfulShares of_shares) (λ w g.
    target_is c h w e f g)))

change_is : (l h : Option (List ℕ)) → IfSome l IsMatcher → IfSome h IsField → IsLawfulHostChange (host_change l h)
unfolding host_change
change_is (Some t) h e f = e
change_is None (Some t) e f = f
change_is None None e f = tt

of_changes : Reads IsLawfulHostChange host_changes
unfolding host_changes
of_changes p d =
    after (optional p d name.host_rewrite_literal matcher_text) _ (λ o. IfSome o IsMatcher) IsLawfulHostChange (of_maybe p d name.host_rewrite_literal matcher_text IsMatcher of_matcher_text) (λ l e.
    after (optional p d name.host_rewrite_header field_name) _ (λ o. IfSome o IsField) IsLawfulHostChange (of_maybe p d name.host_rewrite_header field_name IsField of_field_name) (λ h f. change_is l h e f))

one_target_is : (found : Option Target) → IfSome found IsLawfulTarget → Reads IsLawfulTarget (one_target found)
unfolding one_target
one_target_is found is p d = whatever (alone p d _) _ IsLawfulTarget (λ _. must_is p found IsLawfulTarget is)

abbrev IsTargetText : List ℕ → Type 0
IsTargetText t = IsTrue (is_target_text t)

of_forward : Reads IsLawfulForward route_action
unfolding route_action changes
of_forward p d =
    let Q : List ℕ × HostChange → Type 0 = λ c. IsTargetText c.0 × IsLawfulHostChange c.1 in
    let read : IfOk (changes p d) Q =
    after (optional p d name.prefix_rewrite target_text) _ (λ o. IsTargetText (unwrap_or o [])) Q (of_optional p d name.prefix_rewrite target_text [] IsTargetText refl of_target_text) (λ rewrite r.
    after (host_changes p d) _ IsLawfulHostChange Q (of_changes p d) (λ host h. (r, h))) in
    whatever (members_at messages.RouteAction p d) _ IsLawfulForward (λ _.
    after (targets p d) _ (λ o. IfSome o IsLawfulTarget) IsLawfulForward (of_targets p d) (λ found is.
    after (changes p d) _ Q IsLawfulForward read (λ changed c.
    after (one_target found p d) _ IsLawfulTarget IsLawfulForward (one_target_is found is p d) (λ goal g.
    whatever (alone p d _) _ IsLawfulForward (λ _. record { to = g; prefix_rewrite = c.0; host = c.1 })))))

-- ---- redirects and direct responses

scheme_is : (b : Option Bool) (o : Option (List ℕ)) → IfSome o IsMatcher → IsMatcher (scheme b o)
unfolding scheme
scheme_is (Some true) o e = refl
scheme_is (Some false) o e = refl
scheme_is None (Some t) e = e
scheme_is None None e = refl

of_schemes : Reads IsMatcher schemes
unfolding schemes
of_schemes p d =
    whatever (optional p d name.https_redirect truth) _ IsMatcher (λ https.
    after (optional p d name.scheme_redirect matcher_text) _ (λ o. IfSome o IsMatcher) IsMatcher (of_maybe p d name.scheme_redirect matcher_text IsMatcher of_matcher_text) (λ other e. scheme_is https other e))

-- the scheme and the host
abbrev IsOrigin : List ℕ × List ℕ × ℕ → Type 0
IsOrigin o = IsMatcher o.0 × IsMatcher o.1

of_origin : Reads IsOrigin origin
unfolding origin
of_origin p d =
    after (schemes p d) _ IsMatcher IsOrigin (of_schemes p d) (λ s e.
    after (optional p d name.host_redirect matcher_text) _ (λ o. IsMatcher (unwrap_or o [])) IsOrigin (of_optional p d name.host_redirect matcher_text [] IsMatcher refl of_matcher_text) (λ host h.
    whatever (optional p d name.port_redirect (count 0 65535)) _ IsOrigin (λ port. (e, h))))

path_to_is : (w x : Option (List ℕ)) → IfSome w IsTargetText → IfSome x IsTargetText → IsLawfulPathTo (path_to w x)
unfolding path_to
path_to_is (Some t) x e f = e
path_to_is None (Some t) e f = f
path_to_is None None e f = tt

of_paths_to : Reads IsLawfulPathTo paths_to
unfolding paths_to
of_paths_to p d =
    after (optional p d name.path_redirect target_text) _ (λ o. IfSome o IsTargetText) IsLawfulPathTo (of_maybe p d name.path_redirect target_text IsTargetText of_target_text) (λ w e.
    after (optional p d name.prefix_rewrite target_text) _ (λ o. IfSome o IsTargetText) IsLawfulPathTo (of_maybe p d name.prefix_rewrite target_text IsTargetText of_target_text) (λ x f. path_to_is w x e f))

abbrev IsCode : ℕ → Type 0
IsCode code = IsTrue (list_any (λ n. code == n) (301 ∷ 302 ∷ 303 ∷ 307 ∷ 308 ∷ []))

code_is : (k : ℕ) → IsCode (code_of k)
code_is k = step (k == 0) (k == 1) (k == 2) (k == 3) refl refl refl refl
  where
    step : (a b c d : Bool) → (k == 0) ≡ a → (k == 1) ≡ b → (k == 2) ≡ c → (k == 3) ≡ d → IsCode (code_of k)
    step true b c d e f g h = rw e refl
    step false true c d e f g h = rw (e, f) refl
    step false false true d e f g h = rw (e, f, g) refl
    step false false false true e f g h = rw (e, f, g, h) refl
    step false false false false e f g h = rw (e, f, g, h) refl

of_code : Reads IsCode response_code
unfolding response_code
of_code p d = whatever (choice response_codes p d) _ IsCode (λ k. code_is k)

of_redirect : Reads IsLawfulRedirect redirect_action
unfolding redirect_action
of_redirect p d =
    whatever (members_at messages.RedirectAction p d) _ IsLawfulRedirect (λ _.
    after (origin p d) _ IsOrigin IsLawfulRedirect (of_origin p d) (λ start o.
    after (paths_to p d) _ IsLawfulPathTo IsLawfulRedirect (of_paths_to p d) (λ goal g.
    after (optional p d name.response_code response_code) _ (λ x. IsCode (unwrap_or x 301)) IsLawfulRedirect (of_optional p d name.response_code response_code 301 IsCode refl of_code) (λ code c.
    whatever (optional p d name.strip_query truth) _ IsLawfulRedirect (λ strip.
    whatever (one_of_each p d) _ IsLawfulRedirect (λ _. record { scheme = o.0; host = o.1; path = g; code = c }))))))

abbrev IsStatus : ℕ → Type 0
IsStatus status = (200 ≤ status) × (status ≤ 599)

between : (least most : ℕ) (n : ℤ) → (int_le (pos least) n && int_le n (pos most)) ≡ true → (m : ℕ) × (n ≡ pos m) × (least ≤ m) × (m ≤ most)
between least most (pos m) e = (m, refl, grind (arith, nat_tests, e), grind (arith, nat_tests, e))
between least most (negsuc m) e = absurd (cc e)

whole_within : (least most : ℕ) (p : List ℕ) (d : Data) → IfOk (whole (pos least) (pos most) p d) (λ n. (m : ℕ) × (n ≡ pos m) × (least ≤ m) × (m ≤ most))
unfolding whole
whole_within least most p d = whatever (or_offence p WrongKind (number_said d)) _ _ (λ n. where_true (int_le (pos least) n && int_le n (pos most)) n p OutOfRange (λ x. (m : ℕ) × (x ≡ pos m) × (least ≤ m) × (m ≤ most)) (λ e. between least most n e))

count_within : (least most : ℕ) → Reads (λ m. (least ≤ m) × (m ≤ most)) (count least most)
unfolding count
count_within least most p d =
    after (whole (pos least) (pos most) p d) _ (λ n. (m : ℕ) × (n ≡ pos m) × (least ≤ m) × (m ≤ most)) (λ m. (least ≤ m) × (m ≤ most)) (whole_within least most p d) (λ n h. rw (h.1) (h.2, h.3))

of_status : Reads IsStatus direct_response_action
unfolding direct_response_action
of_status p d = whatever (members_at messages.DirectResponseAction p d) _ IsStatus (λ _. of_required p d name.status (count 200 599) IsStatus (count_within 200 599))

-- ---- routes

act_is : (f : Option Forward) (r : Option Redirect) (s : Option ℕ) → IfSome f IsLawfulForward → IfSome r IsLawfulRedirect → IfSome s IsStatus → IfSome (act_form f r s) IsLawfulAct
unfolding act_form
act_is (Some x) r s e f g = e
act_is None (Some x) s e f g = f
act_is None None (Some x) e f g = g
act_is None None None e f g = tt

of_acts : (p : List ℕ) (d : Data) → IfOk (acts p d) (λ o. IfSome o IsLawfulAct)
unfolding acts
of_acts p d =
    after (optional p d name.route route_action) _ (λ o. IfSome o IsLawfulForward) (λ o. IfSome o IsLawfulAct) (of_maybe p d name.route route_action IsLawfulForward of_forward) (λ f e.
    after (optional p d name.redirect redirect_action) _ (λ o. IfSome o IsLawfulRedirect) (λ o. IfSome o IsLawfulAct) (of_maybe p d name.redirect redirect_action IsLawfulRedirect of_redirect) (λ r g.
    after (optional p d name.direct_response direct_response_action) _ (λ o. IfSome o IsStatus) (λ o. IfSome o IsLawfulAct) (of_maybe p d name.direct_response direct_response_action IsStatus of_status) (λ s h.
    act_is f r s e g h)))

one_act_is : (found : Option Act) → IfSome found IsLawfulAct → Reads IsLawfulAct (one_act found)
unfolding one_act
one_act_is found is p d = whatever (alone p d _) _ IsLawfulAct (λ _. must_is p found IsLawfulAct is)

of_act_and_edits : Reads (λ r. IsLawfulAct r.0 × IsLawfulPair r.1) act_and_edits
unfolding act_and_edits
of_act_and_edits p d =
    let Q : Act × EditPair → Type 0 = λ r. IsLawfulAct r.0 × IsLawfulPair r.1 in
    after (acts p d) _ (λ o. IfSome o IsLawfulAct) Q (of_acts p d) (λ found is.
    after (edits p d) _ IsLawfulPair Q (of_edits p d) (λ changes e.
    after (one_act found p d) _ IsLawfulAct Q (one_act_is found is p d) (λ does a. (a, e))))

of_fields : Reads IsLawfulRoute route_fields
unfolding route_fields
of_fields p d =
    whatever (optional p d name.name text) _ IsLawfulRoute (λ called.
    after (required p d name.route_match route_match) _ IsLawfulRule IsLawfulRoute (of_required p d name.route_match route_match IsLawfulRule of_rule) (λ rule r.
    after (act_and_edits p d) _ (λ x. IsLawfulAct x.0 × IsLawfulPair x.1) IsLawfulRoute (of_act_and_edits p d) (λ rest x. record { rule = r; act = x.0; edits = x.1 })))

pub of_route : Reads IsLawfulRoute route
unfolding route
of_route p d = whatever (members_at messages.Route p d) (λ _. route_fields p d) IsLawfulRoute (λ _. of_fields p d)

pub of_typed_route : Reads IsLawfulRoute typed_route
unfolding typed_route
of_typed_route p d = whatever (members_at messages.TypedRoute p d) (λ _. route_fields p d) IsLawfulRoute (λ _. of_fields p d)

fields_placed : (p : List ℕ) (d : Data) → IfOk (route_fields p d) (λ r. r.place ≡ p)
unfolding route_fields
fields_placed p d =
    whatever (optional p d name.name text) _ (λ r. r.place ≡ p) (λ called. whatever (required p d name.route_match route_match) _ (λ r. r.place ≡ p) (λ rule.
    whatever (act_and_edits p d) _ (λ r. r.place ≡ p) (λ rest. refl)))

-- the place of a route is the one that it is read at
pub route_placed : (p : List ℕ) (d : Data) → IfOk (route p d) (λ r. r.place ≡ p)
unfolding route
route_placed p d = whatever (members_at messages.Route p d) (λ _. route_fields p d) (λ r. r.place ≡ p) (λ _. fields_placed p d)

pub typed_route_placed : (p : List ℕ) (d : Data) → IfOk (typed_route p d) (λ r. r.place ≡ p)
unfolding typed_route
typed_route_placed p d = whatever (members_at messages.TypedRoute p d) (λ _. route_fields p d) (λ r. r.place ≡ p) (λ _. fields_placed p d)
