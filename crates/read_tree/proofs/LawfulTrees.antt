-- Trees that are read are lawful, and their routes have their places.
use Rattle.std.proofs.Common.{◌≡◌, ◌≤◌, ◌+◌, ℕ, zero, suc, Bool, true, false, not, ◌&&◌, List, [], ◌∷◌, length, map, IfOk, IsTrue, Option, Some, None, Ok, Err, if◌then◌else◌, refl, sym, ap, subst, ◌∙◌, arith, bytes_eq, option_map}
use Rattle.std.specs.Prelude.{All, IfSome, flat_map, nat_le, codes}
use Rattle.std.specs.List.{list_all, enumerate_from}
use Rattle.std.proofs.lemmas.Bool.{and_from}
use Rattle.std.proofs.lemmas.List.Elements.{All-nil, All-cons, All-head, All-tail, All-map, All-same, All-weaker, All-append}
use Rattle.serde_json.specs.Data.{Data, Members, no_members, member as entry}
use Rattle.serde_json.specs.Find.{as_object}
use Rattle.json_tables.specs.declared.message.Message.TheVariants as messages
use Rattle.json_tables.specs.Names as name
use Rattle.json_walk.specs.declared.refusal.Kind.TheVariants.{NotInProfile, WrongKind, TooMany, BadText}
use Rattle.json_walk.specs.Outcome.{Outcome, offence, or_offence, ◌>>=◌}
use Rattle.json_walk.specs.Places.{under, at_index}
use Rattle.json_walk.specs.Members.{members_at, is_object}
use Rattle.json_walk.specs.Fields.{optional, required, alone, must}
use Rattle.json_walk.specs.Leaves.{text, truth, list_of}
use Rattle.json_walk.proofs.ReadFacts.{Reads, after, whatever, weaker, where_true, where_false, of_required, of_list}
use Rattle.text_base.specs.Alphabets.{is_printed}
use Rattle.cfg_types.specs.Kinds.{is_empty, is_matcher_text, byte_order, longer_first, are_ordered}
use Rattle.cfg_types.specs.Order.{joined, or_nothing, tree_routes, then_routes, branch_routes, entry_routes, key_routes}
use Rattle.cfg_types.specs.Lawful.{IsLawfulRoute, IsLawfulPredicate, greatest, or_zero, or_true, map_is_filled, tree_depth, then_depth, body_depth, entry_depth, key_depth, tree_is_filled, then_is_filled, body_is_filled, entry_is_filled, key_filled, tree_predicates, then_predicates, body_predicates, entry_predicates, key_predicates}
use Rattle.cfg_types.specs.Places.{element, member, list_places, action_places, keys_below, otherwise_below, tree_places}
use Rattle.cfg_types.specs.declared.routes.Route.{Route}
use Rattle.cfg_types.specs.declared.trees.InputRule.{InputRule}
use Rattle.cfg_types.specs.declared.trees.Tree.{Tree}
use Rattle.cfg_types.specs.declared.trees.Then.{Then, Inner, Routes}
use Rattle.cfg_types.specs.declared.trees.TreeBody.{TreeBody, Bare, List as Entries, Exact, Prefix}
use Rattle.cfg_types.specs.declared.trees.Entry.{Entry}
use Rattle.cfg_types.specs.declared.trees.KeyThen.{KeyThen}
use Rattle.cfg_types.proofs.Runs.{entry_routes-is, key_routes-is, tree_routes-is, list_routes-is, exact_routes-is, prefix_routes-is, joined-map}
use Rattle.read_match.proofs.LawfulRules.{must_is}
use Rattle.read_action.specs.Routes.{route, typed_route}
use Rattle.read_action.proofs.LawfulRoutes.{of_route, of_typed_route, typed_route_placed}
use Rattle.read_tree.specs.Types.{type_at, route_type, route_list_type}
use Rattle.read_tree.specs.Inputs.{input}
use Rattle.read_tree.specs.Predicates.{predicate}
use Rattle.read_tree.specs.Actions.{one_route, route_list, action_of_type, action_config, action}
use Rattle.read_tree.specs.Maps.{in_byte_order, key_text, longest_first}
use Rattle.read_tree.specs.Trees.{then_form, then_forms, keeps_matching, on_match, field_matcher, some_entry, matcher_list, key_then, keyed, map_entries, some_key, match_map, map_form, matcher_tree, body_form, matcher_by, matcher}
use Rattle.read_tree.proofs.ByteOrder.{names, rises}
use Rattle.read_tree.proofs.Layers as layers
use Rattle.read_tree.proofs.Layers.{then_below, body_below, entry_below, key_below}
use Rattle.read_tree.proofs.LawfulPredicates.{IsInput, of_input, greatest_within, all_true, all_joined, lawful_predicate}
use Rattle.read_tree.proofs.PlacedRoutes.{Placed, placed_both, list_placed, alone_placed, listed_placed, under_is}
use Rattle.read_tree.proofs.ReadAt.{ReadsAt, of_required_at, of_maybe_at, EachAt, of_list_at}
use Rattle.read_tree.proofs.LongestFirst.{keys_of, all_longest, ordered_longest, some_longest}

-- what is lawful of a tree at a place with so many levels left
pub record TreeGrown (left : ℕ) (at : List ℕ) (t : Tree) : Type 0 where
  pub depth : tree_depth t ≤ left
  pub filled : tree_is_filled t ≡ true
  pub predicates : All IsLawfulPredicate (tree_predicates t)
  pub routes : All IsLawfulRoute (tree_routes t)
  pub placed : Placed (tree_routes t) (tree_places t at)

pub record ThenGrown (left : ℕ) (at : List ℕ) (t : Then) : Type 0 where
  pub depth : then_depth t ≤ left
  pub filled : then_is_filled t ≡ true
  pub predicates : All IsLawfulPredicate (then_predicates t)
  pub routes : All IsLawfulRoute (then_routes t)
  pub placed : Placed (then_routes t) (then_below t at)

pub record BodyGrown (left : ℕ) (at : List ℕ) (b : TreeBody) : Type 0 where
  pub depth : body_depth b ≤ left
  pub filled : body_is_filled b ≡ true
  pub predicates : All IsLawfulPredicate (body_predicates b)
  pub routes : All IsLawfulRoute (branch_routes b)
  pub placed : Placed (branch_routes b) (body_below b at)

-- ---- actions

abbrev IsAction : List ℕ → List Route → Type 0
IsAction p rs = All IsLawfulRoute rs × Placed rs (action_places p rs)

both : {A : Type 0} (o : Outcome A) (P Q : A → Type 0) → IfOk o P → IfOk o Q → IfOk o (λ x. P x × Q x)
both (Ok x) P Q f g = (f, g)
both (Err r) P Q f g = tt

of_one_route : ReadsAt IsAction one_route
unfolding one_route
of_one_route p d =
    after (typed_route p d) _ (λ r. IsLawfulRoute r × (r.place ≡ p)) (IsAction p) (both (typed_route p d) IsLawfulRoute (λ r. r.place ≡ p) (of_typed_route p d) (typed_route_placed p d)) (λ r h.
    (All-cons IsLawfulRoute r [] h.0 (All-nil IsLawfulRoute), alone_placed p r h.1))

-- the routes of a list at their places
abbrev AreListed : List ℕ → List Route → Type 0
AreListed p rs = All IsLawfulRoute rs × Placed rs (list_places p rs)

of_list_of_routes : ReadsAt AreListed (list_of None route)
of_list_of_routes p d =
    both (list_of None route p d) (All IsLawfulRoute) (λ rs. Placed rs (list_places p rs)) (of_list None route IsLawfulRoute of_route p d) (list_placed None p d)

of_route_list : ReadsAt IsAction route_list
unfolding route_list name.routes
of_route_list p d =
    whatever (members_at messages.RouteList p d) _ (IsAction p) (λ _.
    weaker (required p d name.routes (list_of None route)) (AreListed (member p (codes "routes"))) (IsAction p)
    (of_required_at p d name.routes (list_of None route) AreListed of_list_of_routes)
    (λ rs h. (h.0, listed_placed p rs h.1)))

of_action_of_type : (t p : List ℕ) (d : Data) → IfOk (action_of_type t p d) (IsAction p)
unfolding action_of_type
of_action_of_type t p d = by (bytes_eq t route_type) (bytes_eq t route_list_type)
  where
    by : (r l : Bool) → IfOk (if r then one_route p d else if l then route_list p d else offence (under p name.type_url) NotInProfile) (IsAction p)
    by true l = of_one_route p d
    by false true = of_route_list p d
    by false false = tt

of_action_config : ReadsAt IsAction action_config
unfolding action_config
of_action_config p d = whatever (type_at p d) _ (IsAction p) (λ t. of_action_of_type t p d)

of_action : ReadsAt (λ p. IsAction (member p (codes "typed_config"))) action
unfolding action name.typed_config
of_action p d =
    whatever (members_at messages.Extension p d) _ (IsAction (member p (codes "typed_config"))) (λ _.
    whatever (optional p d name.name text) _ (IsAction (member p (codes "typed_config"))) (λ _.
    of_required_at p d name.typed_config action_config IsAction of_action_config))

-- ---- what a match leads to

inner_grown : (left : ℕ) (at : List ℕ) (t : Tree) → TreeGrown left (member at (codes "matcher")) t → ThenGrown left at (Inner t)
inner_grown left at t g = record {
  depth = (let e = layers.depth-Inner t in let l = g.depth in omega (arith, e, l));
  filled = layers.filled-Inner t ∙ g.filled;
  predicates = rw (layers.predicates-Inner t) g.predicates;
  routes = rw (layers.routes-Inner t) g.routes;
  placed = rw (layers.routes-Inner t, layers.below-Inner t) g.placed;
}

routes_grown : (left : ℕ) (at : List ℕ) (rs : List Route) → IsAction (member (member at (codes "action")) (codes "typed_config")) rs → ThenGrown left at (Routes rs)
routes_grown left at rs is = record {
  depth = (let e = layers.depth-Routes rs in omega (arith, e));
  filled = layers.filled-Routes rs;
  predicates = rw (layers.predicates-Routes rs) (All-nil IsLawfulPredicate);
  routes = rw (layers.routes-Routes rs) is.0;
  placed = rw (layers.routes-Routes rs, layers.below-Routes rs) is.1;
}

form_grown : (left : ℕ) (at : List ℕ) (tree : Option Tree) (routes : Option (List Route)) → IfSome tree (TreeGrown left (member at (codes "matcher"))) →
    IfSome routes (IsAction (member (member at (codes "action")) (codes "typed_config"))) → IfSome (then_form tree routes) (ThenGrown left at)
unfolding then_form
form_grown left at (Some t) routes g is = inner_grown left at t g
form_grown left at None (Some rs) g is = routes_grown left at rs is
form_grown left at None None g is = tt

of_forms : (left : ℕ) → ReadsAt (TreeGrown left) (matcher left) → ReadsAt (λ p o. IfSome o (ThenGrown left p)) (then_forms (matcher left))
unfolding then_forms name.matcher name.action
of_forms left inner p d =
    after (optional p d name.matcher (matcher left)) _ (λ o. IfSome o (TreeGrown left (member p (codes "matcher")))) (λ o. IfSome o (ThenGrown left p)) (of_maybe_at p d name.matcher (matcher left) (TreeGrown left) inner) (λ tree g.
    after (optional p d name.action action) _ (λ o. IfSome o (IsAction (member (member p (codes "action")) (codes "typed_config")))) (λ o. IfSome o (ThenGrown left p)) (of_maybe_at p d name.action action (λ q. IsAction (member q (codes "typed_config"))) of_action) (λ routes is.
    form_grown left p tree routes g is))

of_on_match : (left : ℕ) → ReadsAt (TreeGrown left) (matcher left) → ReadsAt (ThenGrown left) (on_match (matcher left))
unfolding on_match
of_on_match left inner p d =
    whatever (members_at messages.OnMatch p d) _ (ThenGrown left p) (λ _.
    after (then_forms (matcher left) p d) _ (λ o. IfSome o (ThenGrown left p)) (ThenGrown left p) (of_forms left inner p d) (λ found is.
    whatever (optional p d name.keep_matching truth) _ (ThenGrown left p) (λ keep.
    whatever (alone p d _) _ (ThenGrown left p) (λ _.
    after (must p found) _ (ThenGrown left p) (ThenGrown left p) (must_is p found (ThenGrown left p) is) (λ next g.
    whatever (keeps_matching p keep) _ (ThenGrown left p) (λ _. g))))))

-- ---- lists

abbrev EntryGrown : ℕ → List ℕ → Entry → Type 0
EntryGrown left at e = IsLawfulPredicate e.test × ThenGrown left (member at (codes "on_match")) e.next

of_field_matcher : (left : ℕ) → ReadsAt (TreeGrown left) (matcher left) → ReadsAt (EntryGrown left) (field_matcher (matcher left))
unfolding field_matcher name.on_match
of_field_matcher left inner p d =
    whatever (members_at messages.FieldMatcher p d) _ (EntryGrown left p) (λ _.
    after (required p d name.predicate (predicate 8)) _ IsLawfulPredicate (EntryGrown left p) (of_required p d name.predicate (predicate 8) IsLawfulPredicate lawful_predicate) (λ test lawful.
    after (required p d name.on_match (on_match (matcher left))) _ (ThenGrown left (member p (codes "on_match"))) (EntryGrown left p) (of_required_at p d name.on_match (on_match (matcher left)) (ThenGrown left) (of_on_match left inner)) (λ next g.
    (lawful, g))))

abbrev ListGrown : ℕ → List ℕ → List Entry → Type 0
ListGrown left at es = EachAt (EntryGrown left) (member at (codes "matchers")) 0 es × (is_empty es ≡ false)

some_are : (left : ℕ) (at p : List ℕ) (es : List Entry) → EachAt (EntryGrown left) (member at (codes "matchers")) 0 es → IfOk (some_entry p es) (ListGrown left at)
unfolding some_entry
some_are left at p [] all = tt
some_are left at p (e ∷ es) all = (all, refl)

of_matcher_list : (left : ℕ) → ReadsAt (TreeGrown left) (matcher left) → ReadsAt (ListGrown left) (matcher_list (matcher left))
unfolding matcher_list name.matchers
of_matcher_list left inner p d =
    whatever (members_at messages.MatcherList p d) _ (ListGrown left p) (λ _.
    after (required p d name.matchers (list_of None (field_matcher (matcher left)))) _ (EachAt (EntryGrown left) (member p (codes "matchers")) 0) (ListGrown left p)
    (of_required_at p d name.matchers (list_of None (field_matcher (matcher left))) (λ q. EachAt (EntryGrown left) q 0) (of_list_at None (field_matcher (matcher left)) (EntryGrown left) (of_field_matcher left inner))) (λ es all.
    some_are left p (under p name.matchers) es all))

each_entry : (left : ℕ) (P : Entry → Type 0) → ((at : List ℕ) (e : Entry) → EntryGrown left at e → P e) → (p : List ℕ) (i : ℕ) (es : List Entry) → EachAt (EntryGrown left) p i es → All P es
each_entry left P h p i [] all = All-nil P
each_entry left P h p i (e ∷ es) all = All-cons P e es (h (at_index p i) e all.0) (each_entry left P h p (i + 1) es all.1)

entries_placed : (left : ℕ) (p : List ℕ) (i : ℕ) (es : List Entry) → EachAt (EntryGrown left) p i es →
    Placed (flat_map entry_routes es) (flat_map (λ e. e.1 (member (element p e.0) (codes "on_match"))) (enumerate_from i (map entry_below es)))
entries_placed left p i [] all = tt
entries_placed left p i (e ∷ es) all =
    placed_both (entry_routes e) (flat_map entry_routes es) (entry_below e (member (element p i) (codes "on_match"))) _
    (rw (entry_routes-is e, layers.below-entry e) (all.0.1.placed)) (entries_placed left p (i + 1) es all.1)

list_grown : (left : ℕ) (at : List ℕ) (es : List Entry) → ListGrown left (member at (codes "matcher_list")) es → BodyGrown left at (Entries es)
list_grown left at es (all, some) = record {
  depth =
      let e = layers.depth-List es in
      let l = greatest_within left (map entry_depth es) (All-map (λ k. k ≤ left) entry_depth es (each_entry left (λ x. entry_depth x ≤ left) (λ q x g. (let f = layers.depth-entry x in let m = g.1.depth in omega (arith, f, m))) _ 0 es all)) in
      omega (arith, e, l);
  filled =
      layers.filled-List es
      ∙ and_from (not (is_empty (map entry_is_filled es))) (list_all (λ b. b) (map entry_is_filled es)) (some_mapped es some)
      (all_true (map entry_is_filled es) (All-map IsTrue entry_is_filled es (each_entry left (λ x. IsTrue (entry_is_filled x)) (λ q x g. layers.filled-entry x ∙ g.1.filled) _ 0 es all)));
  predicates =
      All-same IsLawfulPredicate (body_predicates (Entries es)) (flat_map entry_predicates es) (layers.predicates-List es ∙ joined-map entry_predicates es) (all_joined IsLawfulPredicate entry_predicates es (each_entry left (λ x. All IsLawfulPredicate (entry_predicates x))
      (λ q x g. rw (layers.predicates-entry x) (All-cons IsLawfulPredicate x.test (then_predicates x.next) g.0 g.1.predicates)) _ 0 es all));
  routes =
      rw (list_routes-is es) (all_joined IsLawfulRoute entry_routes es (each_entry left (λ x. All IsLawfulRoute (entry_routes x)) (λ q x g. rw (entry_routes-is x) g.1.routes) _ 0 es all));
  placed = rw (list_routes-is es, layers.below-List es) (entries_placed left _ 0 es all);
}
  where
    some_mapped : (xs : List Entry) → is_empty xs ≡ false → not (is_empty (map entry_is_filled xs)) ≡ true
    some_mapped [] e = absurd (cc e)
    some_mapped (x ∷ xs) e = refl

-- ---- maps

abbrev KeyGrown : ℕ → List ℕ → KeyThen → Type 0
KeyGrown left at k = (is_matcher_text k.key ≡ true) × ThenGrown left (member at k.key) k.next

-- the entries of a map, whose keys rise in an order
pub record MapGrown (left : ℕ) (order : List ℕ → List ℕ → Bool) (at : List ℕ) (ks : List KeyThen) : Type 0 where
  pub each : All (KeyGrown left at) ks
  pub some : is_empty ks ≡ false
  pub ordered : are_ordered order (keys_of ks) ≡ true

key_is : (p k : List ℕ) → IfOk (key_text p k) (λ t. (t ≡ k) × (is_matcher_text t ≡ true))
unfolding key_text
key_is p k =
    where_false (not (nat_le (length k) 4096)) (if list_all is_printed k then Ok k else offence p BadText) p TooMany _ (λ short.
    where_true (list_all is_printed k) k p BadText (λ t. (t ≡ k) × (is_matcher_text t ≡ true)) (λ all. (refl, and_from (nat_le (length k) 4096) (list_all is_printed k) (not_false _ short) all)))
  where
    not_false : (b : Bool) → not b ≡ false → b ≡ true
    not_false true e = refl
    not_false false e = absurd (cc e)

abbrev NamedKey : ℕ → List ℕ → List ℕ → KeyThen → Type 0
NamedKey left at k x = KeyGrown left at x × (x.key ≡ k)

key_grown : (left : ℕ) (at k : List ℕ) (x : KeyThen) → x.key ≡ k → is_matcher_text x.key ≡ true → ThenGrown left (under at k) x.next → NamedKey left at k x
key_grown left at k x e is g = ((is, subst (λ q. ThenGrown left q x.next) (ap (under at) (sym e) ∙ under_is at x.key) g), e)

of_key_then : (left : ℕ) → ReadsAt (TreeGrown left) (matcher left) → (p k : List ℕ) (d : Data) → IfOk (key_then (matcher left) p k d) (NamedKey left p k)
unfolding key_then
of_key_then left inner p k d =
    after (key_text (under p k) k) _ (λ t. (t ≡ k) × (is_matcher_text t ≡ true)) (NamedKey left p k) (key_is (under p k) k) (λ key is.
    after (on_match (matcher left) (under p k) d) _ (ThenGrown left (under p k)) (NamedKey left p k) (of_on_match left inner (under p k) d) (λ next g.
    key_grown left p k (record { key = key; next = next }) is.0 is.1 g))

abbrev AreKeyed : ℕ → List ℕ → List (List ℕ) → List KeyThen → Type 0
AreKeyed left at ns ks = All (KeyGrown left at) ks × (keys_of ks ≡ ns)

of_keyed : (left : ℕ) → ReadsAt (TreeGrown left) (matcher left) → (p : List ℕ) (ms : Members) → IfOk (keyed (matcher left) p ms) (AreKeyed left p (names ms))
unfolding keyed
of_keyed left inner p no_members = (All-nil (KeyGrown left p), refl)
of_keyed left inner p (entry k d ms) =
    after (key_then (matcher left) p k d) _ (NamedKey left p k) (AreKeyed left p (k ∷ names ms)) (of_key_then left inner p k d) (λ x g.
    after (keyed (matcher left) p ms) _ (AreKeyed left p (names ms)) (AreKeyed left p (k ∷ names ms)) (of_keyed left inner p ms) (λ xs h.
    (All-cons (KeyGrown left p) x xs g.0 h.0, ap (λ n. n ∷ keys_of xs) g.1 ∙ ap (λ l. k ∷ l) h.1)))

-- entries whose keys rise in byte order
abbrev AreRising : ℕ → List ℕ → List KeyThen → Type 0
AreRising left at ks = All (KeyGrown left at) ks × (are_ordered byte_order (keys_of ks) ≡ true)

of_object : (left : ℕ) → ReadsAt (TreeGrown left) (matcher left) → (p : List ℕ) (o : Option Members) → IfOk (or_offence p WrongKind o >>= λ ms. keyed (matcher left) p (in_byte_order ms)) (AreRising left p)
of_object left inner p None = tt
of_object left inner p (Some ms) =
    weaker (keyed (matcher left) p (in_byte_order ms)) (AreKeyed left p (names (in_byte_order ms))) (AreRising left p) (of_keyed left inner p (in_byte_order ms)) (λ ks h. (h.0, ap (are_ordered byte_order) h.1 ∙ rises ms))

of_map_entries : (left : ℕ) → ReadsAt (TreeGrown left) (matcher left) → ReadsAt (AreRising left) (map_entries (matcher left))
unfolding map_entries
of_map_entries left inner p d = of_object left inner p (as_object d)

some_keys : (left : ℕ) (at p : List ℕ) (ks : List KeyThen) → AreRising left at ks → IfOk (some_key p ks) (MapGrown left byte_order at)
unfolding some_key
some_keys left at p [] are = tt
some_keys left at p (k ∷ ks) are = record { each = are.0; some = refl; ordered = are.1 }

of_match_map : (left : ℕ) → ReadsAt (TreeGrown left) (matcher left) → ReadsAt (λ p. MapGrown left byte_order (member p (codes "map"))) (match_map (matcher left))
unfolding match_map name.map
of_match_map left inner p d =
    whatever (members_at messages.MatchMap p d) _ (MapGrown left byte_order (member p (codes "map"))) (λ _.
    after (required p d name.map (map_entries (matcher left))) _ (AreRising left (member p (codes "map"))) (MapGrown left byte_order (member p (codes "map"))) (of_required_at p d name.map (map_entries (matcher left)) (AreRising left) (of_map_entries left inner)) (λ ks are.
    some_keys left (member p (codes "map")) (under p name.map) ks are))

longest_grown : (left : ℕ) (at : List ℕ) (ks : List KeyThen) → MapGrown left byte_order at ks → MapGrown left longer_first at (longest_first ks)
longest_grown left at ks g = record { each = all_longest (KeyGrown left at) ks g.each; some = some_longest ks g.some; ordered = ordered_longest ks g.ordered }

all_five : (a b c d e : Bool) → a ≡ true → b ≡ true → c ≡ true → d ≡ true → e ≡ true → (a && b && c && d && e) ≡ true
all_five a b c d e f g h i j = rw (f, g, h, i, j) refl

module _ (left : ℕ) (order : List ℕ → List ℕ → Bool) (at : List ℕ) (i : InputRule) (ks : List KeyThen) (is : IsInput i) (g : MapGrown left order at ks) where
  map_depth : greatest (map key_depth ks) ≤ left
  map_depth =
      greatest_within left (map key_depth ks) (All-map (λ n. n ≤ left) key_depth ks (All-weaker (KeyGrown left at) (λ k. key_depth k ≤ left) (λ k h. (let e = layers.depth-key k in let l = h.1.depth in omega (arith, e, l))) ks g.each))

  key_of_filled : (xs : List KeyThen) → map (λ k. k.0) (map key_filled xs) ≡ keys_of xs
  key_of_filled [] = refl
  key_of_filled (x ∷ xs) = rw (layers.filled-key x) (ap (λ l. x.key ∷ l) (key_of_filled xs))

  texts : (xs : List KeyThen) → All (KeyGrown left at) xs → list_all (λ k. is_matcher_text k.0) (map key_filled xs) ≡ true
  texts [] all = refl
  texts (x ∷ xs) all =
      and_from (is_matcher_text (key_filled x).0) (list_all (λ k. is_matcher_text k.0) (map key_filled xs)) (rw (layers.filled-key x) (All-head (KeyGrown left at) x xs all).0) (texts xs (All-tail (KeyGrown left at) x xs all))

  nexts : (xs : List KeyThen) → All (KeyGrown left at) xs → list_all (λ k. k.1) (map key_filled xs) ≡ true
  nexts [] all = refl
  nexts (x ∷ xs) all =
      and_from ((key_filled x).1) (list_all (λ k. k.1) (map key_filled xs)) (rw (layers.filled-key x) ((All-head (KeyGrown left at) x xs all).1.filled)) (nexts xs (All-tail (KeyGrown left at) x xs all))

  some_mapped : (xs : List KeyThen) → is_empty xs ≡ false → not (is_empty (map key_filled xs)) ≡ true
  some_mapped [] e = absurd (cc e)
  some_mapped (x ∷ xs) e = refl

  map_filled : map_is_filled order i (map key_filled ks) ≡ true
  map_filled =
      let ordered = ap (are_ordered order) (key_of_filled ks) ∙ g.ordered in
      all_five _ _ _ _ _ is (some_mapped ks g.some) (texts ks g.each) ordered (nexts ks g.each)

  map_predicates : All IsLawfulPredicate (joined (map key_predicates ks))
  map_predicates =
      rw (joined-map key_predicates ks) (all_joined IsLawfulPredicate key_predicates ks (All-weaker (KeyGrown left at) (λ k. All IsLawfulPredicate (key_predicates k)) (λ k h. rw (layers.predicates-key k) h.1.predicates) ks g.each))

  map_routes : All IsLawfulRoute (flat_map key_routes ks)
  map_routes = all_joined IsLawfulRoute key_routes ks (All-weaker (KeyGrown left at) (λ k. All IsLawfulRoute (key_routes k)) (λ k h. rw (key_routes-is k) h.1.routes) ks g.each)

  placed_keys : (xs : List KeyThen) → All (KeyGrown left at) xs → Placed (flat_map key_routes xs) (keys_below (map key_below xs) at)
  placed_keys [] all = tt
  placed_keys (x ∷ xs) all =
      placed_both (key_routes x) (flat_map key_routes xs) ((key_below x).1 (member at (key_below x).0)) (keys_below (map key_below xs) at)
      (rw (key_routes-is x, layers.below-key x) ((All-head (KeyGrown left at) x xs all).1.placed)) (placed_keys xs (All-tail (KeyGrown left at) x xs all))

exact_grown : (left : ℕ) (at : List ℕ) (i : InputRule) (ks : List KeyThen) → IsInput i → MapGrown left byte_order (member (member (member at (codes "matcher_tree")) (codes "exact_match_map")) (codes "map")) ks →
    BodyGrown left at (Exact i ks)
exact_grown left at i ks is g = record {
  depth = (let e = layers.depth-Exact i ks in let l = map_depth left byte_order _ i ks is g in omega (arith, e, l));
  filled = layers.filled-Exact i ks ∙ map_filled left byte_order _ i ks is g;
  predicates = rw (layers.predicates-Exact i ks) (map_predicates left byte_order _ i ks is g);
  routes = rw (exact_routes-is i ks) (map_routes left byte_order _ i ks is g);
  placed = rw (exact_routes-is i ks, layers.below-Exact i ks) (placed_keys left byte_order _ i ks is g ks g.each);
}

prefix_grown : (left : ℕ) (at : List ℕ) (i : InputRule) (ks : List KeyThen) → IsInput i → MapGrown left longer_first (member (member (member at (codes "matcher_tree")) (codes "prefix_match_map")) (codes "map")) ks →
    BodyGrown left at (Prefix i ks)
prefix_grown left at i ks is g = record {
  depth = (let e = layers.depth-Prefix i ks in let l = map_depth left longer_first _ i ks is g in omega (arith, e, l));
  filled = layers.filled-Prefix i ks ∙ map_filled left longer_first _ i ks is g;
  predicates = rw (layers.predicates-Prefix i ks) (map_predicates left longer_first _ i ks is g);
  routes = rw (prefix_routes-is i ks) (map_routes left longer_first _ i ks is g);
  placed = rw (prefix_routes-is i ks, layers.below-Prefix i ks) (placed_keys left longer_first _ i ks is g ks g.each);
}

-- the body of a tree, where its matcher_tree is read at this place
abbrev GrownUnder : ℕ → List ℕ → TreeBody → Type 0
GrownUnder left p b = (at : List ℕ) → p ≡ member at (codes "matcher_tree") → BodyGrown left at b

map_form_grown : (left : ℕ) (p : List ℕ) (i : InputRule) (exact prefix : Option (List KeyThen)) → IsInput i →
    IfSome exact (MapGrown left byte_order (member (member p (codes "exact_match_map")) (codes "map"))) → IfSome prefix (MapGrown left byte_order (member (member p (codes "prefix_match_map")) (codes "map"))) →
    IfSome (map_form i exact prefix) (GrownUnder left p)
unfolding map_form
map_form_grown left p i (Some ks) prefix is g h = λ at e. exact_grown left at i ks is (subst (λ q. MapGrown left byte_order (member (member q (codes "exact_match_map")) (codes "map")) ks) e g)
map_form_grown left p i None (Some ks) is g h =
    λ at e. prefix_grown left at i (longest_first ks) is (longest_grown left _ ks (subst (λ q. MapGrown left byte_order (member (member q (codes "prefix_match_map")) (codes "map")) ks) e h))
map_form_grown left p i None None is g h = tt

of_matcher_tree : (left : ℕ) → ReadsAt (TreeGrown left) (matcher left) → ReadsAt (GrownUnder left) (matcher_tree (matcher left))
unfolding matcher_tree name.exact_match_map name.prefix_match_map
of_matcher_tree left inner p d =
    whatever (members_at messages.MatcherTree p d) _ (GrownUnder left p) (λ _.
    after (required p d name.input input) _ IsInput (GrownUnder left p) (of_required p d name.input input IsInput of_input) (λ i is.
    after (optional p d name.exact_match_map (match_map (matcher left))) _ (λ o. IfSome o (MapGrown left byte_order (member (member p (codes "exact_match_map")) (codes "map")))) (GrownUnder left p)
    (of_maybe_at p d name.exact_match_map (match_map (matcher left)) (λ q. MapGrown left byte_order (member q (codes "map"))) (of_match_map left inner)) (λ exact g.
    after (optional p d name.prefix_match_map (match_map (matcher left))) _ (λ o. IfSome o (MapGrown left byte_order (member (member p (codes "prefix_match_map")) (codes "map")))) (GrownUnder left p)
    (of_maybe_at p d name.prefix_match_map (match_map (matcher left)) (λ q. MapGrown left byte_order (member q (codes "map"))) (of_match_map left inner)) (λ prefix h.
    whatever (alone p d _) _ (GrownUnder left p) (λ _. must_is p (map_form i exact prefix) (GrownUnder left p) (map_form_grown left p i exact prefix is g h))))))

-- ---- trees

bare_grown : (left : ℕ) (at : List ℕ) → BodyGrown left at Bare
bare_grown left at = record {
  depth = (let e = layers.depth-Bare in omega (arith, e));
  filled = layers.filled-Bare;
  predicates = rw layers.predicates-Bare (All-nil IsLawfulPredicate);
  routes = rw layers.routes-Bare (All-nil IsLawfulRoute);
  placed = rw (layers.routes-Bare, layers.below-Bare) tt;
}

body_grown : (left : ℕ) (at : List ℕ) (entries : Option (List Entry)) (tree : Option TreeBody) → IfSome entries (ListGrown left (member at (codes "matcher_list"))) →
    IfSome tree (GrownUnder left (member at (codes "matcher_tree"))) → BodyGrown left at (body_form entries tree)
unfolding body_form
body_grown left at (Some es) tree g h = list_grown left at es g
body_grown left at None (Some b) g h = h at refl
body_grown left at None None g h = bare_grown left at

tree_grown : (left : ℕ) (at : List ℕ) (t : Tree) → BodyGrown left at t.body → IfSome t.otherwise (ThenGrown left (member at (codes "on_no_match"))) → TreeGrown (suc left) at t
tree_grown left at t b o = record {
  depth = (let e = layers.depth-tree t in let l = b.depth in let m = rest_depth t.otherwise o in omega (arith, e, l, m));
  filled = layers.filled-tree t ∙ and_from (body_is_filled t.body) (or_true (option_map then_is_filled t.otherwise)) b.filled (rest_filled t.otherwise o);
  predicates = rw (layers.predicates-tree t) (All-append IsLawfulPredicate (body_predicates t.body) (or_nothing (option_map then_predicates t.otherwise)) b.predicates (rest_predicates t.otherwise o));
  routes = rw (tree_routes-is t) (All-append IsLawfulRoute (branch_routes t.body) (or_nothing (option_map then_routes t.otherwise)) b.routes (rest_routes t.otherwise o));
  placed =
      rw (tree_routes-is t, layers.below-tree t)
      (placed_both (branch_routes t.body) (or_nothing (option_map then_routes t.otherwise)) (body_below t.body at) (otherwise_below (option_map then_below t.otherwise) at) b.placed (rest_placed t.otherwise o));
}
  where
    rest_depth : (r : Option Then) → IfSome r (ThenGrown left (member at (codes "on_no_match"))) → or_zero (option_map then_depth r) ≤ left
    rest_depth None g = omega arith
    rest_depth (Some r) g = g.depth

    rest_filled : (r : Option Then) → IfSome r (ThenGrown left (member at (codes "on_no_match"))) → or_true (option_map then_is_filled r) ≡ true
    rest_filled None g = refl
    rest_filled (Some r) g = g.filled

    rest_predicates : (r : Option Then) → IfSome r (ThenGrown left (member at (codes "on_no_match"))) → All IsLawfulPredicate (or_nothing (option_map then_predicates r))
    rest_predicates None g = All-nil IsLawfulPredicate
    rest_predicates (Some r) g = g.predicates

    rest_routes : (r : Option Then) → IfSome r (ThenGrown left (member at (codes "on_no_match"))) → All IsLawfulRoute (or_nothing (option_map then_routes r))
    rest_routes None g = All-nil IsLawfulRoute
    rest_routes (Some r) g = g.routes

    rest_placed : (r : Option Then) → IfSome r (ThenGrown left (member at (codes "on_no_match"))) → Placed (or_nothing (option_map then_routes r)) (otherwise_below (option_map then_below r) at)
    rest_placed None g = tt
    rest_placed (Some r) g = g.placed

of_layer : (left : ℕ) → ReadsAt (TreeGrown left) (matcher left) → ReadsAt (TreeGrown (suc left)) (matcher_by (matcher left))
unfolding matcher_by name.matcher_list name.matcher_tree name.on_no_match
of_layer left inner p d =
    whatever (members_at messages.Matcher p d) _ (TreeGrown (suc left) p) (λ _.
    after (optional p d name.matcher_list (matcher_list (matcher left))) _ (λ o. IfSome o (ListGrown left (member p (codes "matcher_list")))) (TreeGrown (suc left) p)
    (of_maybe_at p d name.matcher_list (matcher_list (matcher left)) (ListGrown left) (of_matcher_list left inner)) (λ entries g.
    after (optional p d name.matcher_tree (matcher_tree (matcher left))) _ (λ o. IfSome o (GrownUnder left (member p (codes "matcher_tree")))) (TreeGrown (suc left) p)
    (of_maybe_at p d name.matcher_tree (matcher_tree (matcher left)) (GrownUnder left) (of_matcher_tree left inner)) (λ tree h.
    after (optional p d name.on_no_match (on_match (matcher left))) _ (λ o. IfSome o (ThenGrown left (member p (codes "on_no_match")))) (TreeGrown (suc left) p)
    (of_maybe_at p d name.on_no_match (on_match (matcher left)) (ThenGrown left) (of_on_match left inner)) (λ rest r.
    whatever (alone p d _) _ (TreeGrown (suc left) p) (λ _.
    tree_grown left p (record { body = body_form entries tree; otherwise = rest }) (body_grown left p entries tree g h) r)))))

of_matcher : (left : ℕ) → ReadsAt (TreeGrown left) (matcher left)
unfolding matcher
of_matcher zero p d = whatever (is_object p d) _ (TreeGrown 0 p) (λ _. tt)
of_matcher (suc n) p d = of_layer n (of_matcher n) p d

-- what is lawful in a tree, its number of routes aside
pub record IsGrown (t : Tree) : Type 0 where
  pub depth : tree_depth t ≤ 12
  pub filled : IsTrue (tree_is_filled t)
  pub predicates : All IsLawfulPredicate (tree_predicates t)
  pub routes : All IsLawfulRoute (tree_routes t)

pub of_tree : Reads IsGrown (matcher 12)
of_tree p d = weaker (matcher 12 p d) (TreeGrown 12 p) IsGrown (of_matcher 12 p d) (λ t g. record { depth = g.depth; filled = g.filled; predicates = g.predicates; routes = g.routes })

-- each route of a tree that is read has its place
pub tree_placed : ReadsAt (λ p t. Placed (tree_routes t) (tree_places t p)) (matcher 12)
tree_placed p d = weaker (matcher 12 p d) (TreeGrown 12 p) (λ t. Placed (tree_routes t) (tree_places t p)) (of_matcher 12 p d) (λ t g. g.placed)
