-- The first true guard of a lawful tree leads to the first accepted route of the tree's outcome.
use Rattle.std.proofs.Common.{rules, ◌≡◌, ℕ, Bool, true, false, not, ◌&&◌, List, [], ◌∷◌, ◌++◌, length, map, Option, Some, None, refl, sym, ap, ap₂, subst, ◌∙◌, arith, IsTrue, All}
use Rattle.std.specs.Prelude.{option_map}
use Rattle.std.specs.List.{list_all}
use Rattle.std.proofs.lemmas.Bool.{and_parts}
use Rattle.std.proofs.lemmas.List.Elements.{All-head, All-tail}
use Rattle.text_base.specs.Asked.{Bytes, Asked}
use Rattle.text_base.specs.Requests.{is_valid}
use Rattle.text_base.specs.Seen.{seen}
use Rattle.goal_form.specs.Conditions.{condition_at}
use Rattle.goal_form.specs.declared.sight.Condition.{Condition}
use Rattle.cfg_types.specs.Kinds.{is_empty, is_matcher_text, byte_order, longer_first, are_ordered}
use Rattle.cfg_types.specs.Lawful.{IsLawfulPredicate, Tests, is_input, or_true, map_is_filled, then_filled_step, body_filled_step, key_filled_step, tree_filled_step, tree_is_filled, then_is_filled, body_is_filled, entry_is_filled, key_filled, then_tests_step, body_tests_step, entry_tests_step, tree_tests_step, tree_predicates, then_predicates, body_predicates, entry_predicates, key_predicates}
use Rattle.cfg_types.specs.Order.{joined, or_nothing}
use Rattle.cfg_types.specs.Trees.{Place, Ways, Way, Keyed, ways, equal_key, prefix_key, longest_key, input_of, predicate_holds, then_step, body_step, entry_step, key_step, tree_step, tree_place, then_place, body_ways, entry_way, key_way}
use Rattle.cfg_types.specs.declared.routes.Route.{Route}
use Rattle.cfg_types.specs.declared.trees.InputRule.{InputRule}
use Rattle.cfg_types.specs.declared.trees.Predicate.{Predicate}
use Rattle.cfg_types.specs.declared.trees.Tree.{Tree}
use Rattle.cfg_types.specs.declared.trees.Then.{Then, Inner, Routes}
use Rattle.cfg_types.specs.declared.trees.TreeBody.{TreeBody, Bare, List as Entries, Exact, Prefix}
use Rattle.cfg_types.specs.declared.trees.Entry.{Entry}
use Rattle.cfg_types.specs.declared.trees.KeyThen.{KeyThen}
use Rattle.cfg_types.specs.declared.trees.Then.TheOpen as open_
use Rattle.cfg_types.specs.declared.trees.Then.TheOpen.{Then-F, TreeBody-F, Entry-F, KeyThen-F, Tree-F}
use Rattle.cfg_types.specs.declared.trees.Then.TheVariants.{rolls-Inner, rolls-Routes}
use Rattle.cfg_types.specs.declared.trees.TreeBody.TheVariants.{rolls-Bare, rolls-List, rolls-Exact, rolls-Prefix}
use Rattle.cfg_types.specs.declared.trees.Then.TheViews.{roll-Then, roll-TreeBody, roll-Entry, roll-KeyThen, roll-Tree}
use Rattle.cfg_types.specs.declared.trees.Then.TheFolds as folds
use Rattle.cfg_types.specs.declared.trees.Then.TheFolds.{ind-Tree, fold-roll-Entry, fold-roll-KeyThen, fold-roll-Tree, map-Then, map-TreeBody, map-Tree}
use Rattle.match_tree.specs.Guards.{Guard, Asking, nothing_asked, then_asked, asked_in_turn, asked_where, asked_by_keys, key_condition, predicate_condition, route_guards, tree_asking, then_asking, body_asking, entry_asking, key_asking}
use Rattle.match_tree.specs.Guards as guards
use Rattle.match_tree.specs.GuardLaws.{GuardLaw}
use Rattle.match_tree.specs.LawfulParts.{IsFilledTree, IsFilledThen, IsFilledBody, AreFilledEntries}
use Rattle.match_tree.proofs.Bodies.{then-Inner, then-Routes, body-Bare, body-List, body-Exact, body-Prefix}
use Rattle.match_tree.proofs.GuardPredicates.{All-split, predicate_law, exact_key_law, prefix_key_law}
use Rattle.match_tree.proofs.GuardLayers.{Leads, LeadsWay, LeadsWays, LeadEach, routes_lead, where_leads, turns_lead, left_leads-None, left_leads-Some, by_test, first_longest, test_size}

-- ---- layers of what is asked

module _ (rule : ℕ → Condition) where
  pub asking-Inner : (t : Tree) → then_asking rule (Inner t) ≡ tree_asking rule t
  asking-Inner t = first_of (search (rules, folds.the_lemmas), grind (arith, folds.the_lemmas))

  pub asking-Routes : (rs : List Route) → then_asking rule (Routes rs) ≡ record { size = length rs; guards = λ first. route_guards rule first (length rs) }
  asking-Routes rs = first_of (search (rules, folds.the_lemmas), grind (arith, folds.the_lemmas))

  pub asking-Bare : body_asking rule Bare ≡ nothing_asked
  asking-Bare = first_of (search (rules, folds.the_lemmas), grind (arith, folds.the_lemmas))

  pub asking-List : (es : List Entry) → body_asking rule (Entries es) ≡ asked_in_turn (map (entry_asking rule) es)
  asking-List es = first_of (search (rules, folds.the_lemmas), grind (arith, folds.the_lemmas))

  pub asking-Exact : (i : InputRule) (ks : List KeyThen) → body_asking rule (Exact i ks) ≡ asked_by_keys (key_condition false i) (map (key_asking rule) ks)
  asking-Exact i ks = first_of (search (rules, folds.the_lemmas), grind (arith, folds.the_lemmas))

  pub asking-Prefix : (i : InputRule) (ks : List KeyThen) → body_asking rule (Prefix i ks) ≡ asked_by_keys (key_condition true i) (map (key_asking rule) ks)
  asking-Prefix i ks = first_of (search (rules, folds.the_lemmas), grind (arith, folds.the_lemmas))

  pub asking-entry : (test : Predicate) (t : Then) → entry_asking rule (roll-Entry (record { test = test; next = t })) ≡ asked_where (predicate_condition test) (then_asking rule t)
  asking-entry test t =
      fold-roll-Entry Asking Asking Asking guards.Keyed Asking (guards.then_step rule) (guards.body_step rule) (guards.entry_step rule) (guards.key_step rule) (guards.tree_step rule) (record { test = test; next = t })

  pub asking-key : (key : Bytes) (t : Then) → key_asking rule (roll-KeyThen (record { key = key; next = t })) ≡ (key, then_asking rule t)
  asking-key key t =
      fold-roll-KeyThen Asking Asking Asking guards.Keyed Asking (guards.then_step rule) (guards.body_step rule) (guards.entry_step rule) (guards.key_step rule) (guards.tree_step rule) (record { key = key; next = t })

  pub asking-tree : (b : TreeBody) (o : Option Then) → tree_asking rule (roll-Tree (record { body = b; otherwise = o })) ≡ then_asked (body_asking rule b) (guards.asked_or_nothing (option_map (then_asking rule) o))
  asking-tree b None =
      fold-roll-Tree Asking Asking Asking guards.Keyed Asking (guards.then_step rule) (guards.body_step rule) (guards.entry_step rule) (guards.key_step rule) (guards.tree_step rule) (record { body = b; otherwise = None })
  asking-tree b (Some t) =
      fold-roll-Tree Asking Asking Asking guards.Keyed Asking (guards.then_step rule) (guards.body_step rule) (guards.entry_step rule) (guards.key_step rule) (guards.tree_step rule) (record { body = b; otherwise = Some t })

-- ---- layers of filled trees

pub filled-Inner : (t : Tree) → then_is_filled (Inner t) ≡ tree_is_filled t
filled-Inner t = first_of (search (rules, folds.the_lemmas), grind (arith, folds.the_lemmas))

pub tests-Inner : (t : Tree) → then_predicates (Inner t) ≡ tree_predicates t
tests-Inner t = first_of (search (rules, folds.the_lemmas), grind (arith, folds.the_lemmas))

pub filled-List : (es : List Entry) → body_is_filled (Entries es) ≡ (not (is_empty (map entry_is_filled es)) && list_all (λ e. e) (map entry_is_filled es))
filled-List es = first_of (search (rules, folds.the_lemmas), grind (arith, folds.the_lemmas))

pub tests-List : (es : List Entry) → body_predicates (Entries es) ≡ joined (map entry_predicates es)
tests-List es = first_of (search (rules, folds.the_lemmas), grind (arith, folds.the_lemmas))

pub filled-Exact : (i : InputRule) (ks : List KeyThen) → body_is_filled (Exact i ks) ≡ map_is_filled byte_order i (map key_filled ks)
filled-Exact i ks = first_of (search (rules, folds.the_lemmas), grind (arith, folds.the_lemmas))

pub tests-Exact : (i : InputRule) (ks : List KeyThen) → body_predicates (Exact i ks) ≡ joined (map key_predicates ks)
tests-Exact i ks = first_of (search (rules, folds.the_lemmas), grind (arith, folds.the_lemmas))

pub filled-Prefix : (i : InputRule) (ks : List KeyThen) → body_is_filled (Prefix i ks) ≡ map_is_filled longer_first i (map key_filled ks)
filled-Prefix i ks = first_of (search (rules, folds.the_lemmas), grind (arith, folds.the_lemmas))

pub tests-Prefix : (i : InputRule) (ks : List KeyThen) → body_predicates (Prefix i ks) ≡ joined (map key_predicates ks)
tests-Prefix i ks = first_of (search (rules, folds.the_lemmas), grind (arith, folds.the_lemmas))

pub filled-entry : (test : Predicate) (t : Then) → entry_is_filled (roll-Entry (record { test = test; next = t })) ≡ then_is_filled t
filled-entry test t = fold-roll-Entry Bool Bool Bool (Bytes × Bool) Bool then_filled_step body_filled_step (λ e. e.next) key_filled_step tree_filled_step (record { test = test; next = t })

pub tests-entry : (test : Predicate) (t : Then) → entry_predicates (roll-Entry (record { test = test; next = t })) ≡ test ∷ then_predicates t
tests-entry test t = fold-roll-Entry Tests Tests Tests Tests Tests then_tests_step body_tests_step entry_tests_step (λ k. k.next) tree_tests_step (record { test = test; next = t })

pub filled-key : (key : Bytes) (t : Then) → key_filled (roll-KeyThen (record { key = key; next = t })) ≡ (key, then_is_filled t)
filled-key key t = fold-roll-KeyThen Bool Bool Bool (Bytes × Bool) Bool then_filled_step body_filled_step (λ e. e.next) key_filled_step tree_filled_step (record { key = key; next = t })

pub tests-key : (key : Bytes) (t : Then) → key_predicates (roll-KeyThen (record { key = key; next = t })) ≡ then_predicates t
tests-key key t = fold-roll-KeyThen Tests Tests Tests Tests Tests then_tests_step body_tests_step entry_tests_step (λ k. k.next) tree_tests_step (record { key = key; next = t })

pub filled-tree : (b : TreeBody) (o : Option Then) → tree_is_filled (roll-Tree (record { body = b; otherwise = o })) ≡ (body_is_filled b && or_true (option_map then_is_filled o))
filled-tree b None = fold-roll-Tree Bool Bool Bool (Bytes × Bool) Bool then_filled_step body_filled_step (λ e. e.next) key_filled_step tree_filled_step (record { body = b; otherwise = None })
filled-tree b (Some t) = fold-roll-Tree Bool Bool Bool (Bytes × Bool) Bool then_filled_step body_filled_step (λ e. e.next) key_filled_step tree_filled_step (record { body = b; otherwise = Some t })

pub tests-tree : (b : TreeBody) (o : Option Then) → tree_predicates (roll-Tree (record { body = b; otherwise = o })) ≡ body_predicates b ++ or_nothing (option_map then_predicates o)
tests-tree b None = fold-roll-Tree Tests Tests Tests Tests Tests then_tests_step body_tests_step entry_tests_step (λ k. k.next) tree_tests_step (record { body = b; otherwise = None })
tests-tree b (Some t) = fold-roll-Tree Tests Tests Tests Tests Tests then_tests_step body_tests_step entry_tests_step (λ k. k.next) tree_tests_step (record { body = b; otherwise = Some t })

-- ---- filled parts

pub record IsFilledEntry (e : Entry) : Type 0 where
  pub filled : IsTrue (entry_is_filled e)
  pub predicates : All IsLawfulPredicate (entry_predicates e)

pub record IsFilledKey (k : KeyThen) : Type 0 where
  pub filled : IsTrue (key_filled k).1
  pub predicates : All IsLawfulPredicate (key_predicates k)

-- the keys of a map: matcher texts, in this order, over a lawful input
pub record IsFilledMap (order : Bytes → Bytes → Bool) (i : InputRule) (ks : List KeyThen) : Type 0 where
  pub input : IsTrue (is_input i)
  pub texts : list_all (λ k. is_matcher_text k.0) (map key_filled ks) ≡ true
  pub ordered : are_ordered order (map (λ k. k.0) (map key_filled ks)) ≡ true
  pub filled : list_all (λ k. k.1) (map key_filled ks) ≡ true

pub map_parts : (order : Bytes → Bytes → Bool) (i : InputRule) (ks : List KeyThen) → IsTrue (map_is_filled order i (map key_filled ks)) → IsFilledMap order i ks
map_parts order i ks h =
    let a = and_parts _ _ h in
    let b = and_parts _ _ a.0 in
    let c = and_parts _ _ b.0 in
    let d = and_parts _ _ c.0 in
    record { input = d.0; texts = c.1; ordered = b.1; filled = a.1 }

module _ (rule : ℕ → Condition) (q : Asked) (valid : IsTrue (is_valid q)) where
  abbrev OfThen : Then → Type 0
  OfThen t = IsFilledThen t → Leads (seen q) rule (then_asking rule t) (then_place q t)

  abbrev OfBody : TreeBody → Type 0
  OfBody b = IsFilledBody b → LeadsWays (seen q) rule (body_asking rule b) (body_ways q b)

  abbrev OfEntry : Entry → Type 0
  OfEntry e = IsFilledEntry e → LeadsWay (seen q) rule (entry_asking rule e) (entry_way q e)

  pub record OfKey (k : KeyThen) : Type 0 where
    pub asked : (key_asking rule k).0 ≡ (key_way q k).0
    pub kept : (key_filled k).0 ≡ (key_way q k).0
    pub leads : IsFilledKey k → Leads (seen q) rule (key_asking rule k).1 (key_way q k).1

  abbrev OfTree : Tree → Type 0
  OfTree t = IsFilledTree t → Leads (seen q) rule (tree_asking rule t) (tree_place q t)

  -- ---- what is led to

  inner_leads : (t : Tree) → OfTree t → OfThen (Inner t)
  inner_leads t h f =
      let k = h (record { filled = sym (filled-Inner t) ∙ f.filled; predicates = subst (All IsLawfulPredicate) (tests-Inner t) f.predicates }) in
      rw (asking-Inner rule t, then-Inner q t) k

  routes_of_then_lead : (rs : List Route) → OfThen (Routes rs)
  routes_of_then_lead rs f = rw (asking-Routes rule rs, then-Routes q rs) (routes_lead (seen q) rule (length rs))

  then_case : (y : Then-F ((t : Then) × OfThen t) ((b : TreeBody) × OfBody b) ((e : Entry) × OfEntry e) ((k : KeyThen) × OfKey k) ((t : Tree) × OfTree t)) →
      OfThen (roll-Then (map-Then ((t : Then) × OfThen t) ((b : TreeBody) × OfBody b) ((e : Entry) × OfEntry e) ((k : KeyThen) × OfKey k) ((t : Tree) × OfTree t) Then TreeBody Entry KeyThen Tree (λ e. e.0) (λ e. e.0) (λ e. e.0) (λ e. e.0) (λ e. e.0) y))
  then_case (open_.Inner t) = subst OfThen (sym (rolls-Inner t.0)) (inner_leads t.0 t.1)
  then_case (open_.Routes rs) = subst OfThen (sym (rolls-Routes rs)) (routes_of_then_lead rs)

  -- ---- bodies

  bare_leads : OfBody Bare
  bare_leads f = rw (asking-Bare rule, body-Bare q) (turns_lead (seen q) rule [] [] tt)

  entries_lead : (es : List ((e : Entry) × OfEntry e)) → AreFilledEntries (map (λ e. e.0) es) →
      LeadEach (seen q) rule (map (entry_asking rule) (map (λ e. e.0) es)) (map (entry_way q) (map (λ e. e.0) es))
  entries_lead [] h = tt
  entries_lead (e ∷ es) h =
      let f = and_parts (entry_is_filled e.0) (list_all (λ e. e) (map entry_is_filled (map (λ e. e.0) es))) h.filled in
      let p = All-split IsLawfulPredicate (entry_predicates e.0) (joined (map entry_predicates (map (λ e. e.0) es))) h.predicates in
      (e.1 (record { filled = f.0; predicates = p.0 }), entries_lead es (record { filled = f.1; predicates = p.1 }))

  list_leads : (es : List ((e : Entry) × OfEntry e)) → OfBody (Entries (map (λ e. e.0) es))
  list_leads es f =
      let g = and_parts (not (is_empty (map entry_is_filled (map (λ e. e.0) es)))) (list_all (λ e. e) (map entry_is_filled (map (λ e. e.0) es))) (sym (filled-List (map (λ e. e.0) es)) ∙ f.filled) in
      let p = subst (All IsLawfulPredicate) (tests-List (map (λ e. e.0) es)) f.predicates in
      let k = turns_lead (seen q) rule _ _ (entries_lead es (record { filled = g.1; predicates = p })) in
      rw (asking-List rule (map (λ e. e.0) es), body-List q (map (λ e. e.0) es)) k

  keys_lead : (c : Bytes → Condition) (p : Bytes → Bool) → ((key : Bytes) → IsTrue (is_matcher_text key) → condition_at (seen q) (c key) ≡ p key) →
      (es : List ((k : KeyThen) × OfKey k)) → list_all (λ k. is_matcher_text k.0) (map key_filled (map (λ k. k.0) es)) ≡ true →
      list_all (λ k. k.1) (map key_filled (map (λ k. k.0) es)) ≡ true → All IsLawfulPredicate (joined (map key_predicates (map (λ k. k.0) es))) →
      LeadEach (seen q) rule (map (λ k. asked_where (c k.0) k.1) (map (key_asking rule) (map (λ k. k.0) es))) (by_test p (map (key_way q) (map (λ k. k.0) es)))
  keys_lead c p same [] texts filled tests = tt
  keys_lead c p same (k ∷ es) texts filled tests =
      let m = and_parts (is_matcher_text (key_filled k.0).0) (list_all (λ k. is_matcher_text k.0) (map key_filled (map (λ k. k.0) es))) texts in
      let f = and_parts (key_filled k.0).1 (list_all (λ k. k.1) (map key_filled (map (λ k. k.0) es))) filled in
      let a = All-split IsLawfulPredicate (key_predicates k.0) (joined (map key_predicates (map (λ k. k.0) es))) tests in
      let text : IsTrue (is_matcher_text (key_way q k.0).0) = subst (λ x. IsTrue (is_matcher_text x)) k.1.kept m.0 in (
        where_leads (seen q) rule (c (key_asking rule k.0).0) (p (key_way q k.0).0) (key_asking rule k.0).1 (key_way q k.0).1
            (ap (λ x. condition_at (seen q) (c x)) k.1.asked ∙ same (key_way q k.0).0 text)
            (k.1.leads (record { filled = f.0; predicates = a.0 })),
        keys_lead c p same es m.1 f.1 a.1,
      )

  exact_leads : (i : InputRule) (es : List ((k : KeyThen) × OfKey k)) → OfBody (Exact i (map (λ k. k.0) es))
  exact_leads i es f =
      let m = map_parts byte_order i (map (λ k. k.0) es) (sym (filled-Exact i (map (λ k. k.0) es)) ∙ f.filled) in
      let p = subst (All IsLawfulPredicate) (tests-Exact i (map (λ k. k.0) es)) f.predicates in
      let k = turns_lead (seen q) rule _ _ (keys_lead (key_condition false i) (equal_key (input_of i q)) (λ key t. exact_key_law i key q m.input t valid) es m.texts m.filled p) in
      rw (asking-Exact rule i (map (λ k. k.0) es), body-Exact q i (map (λ k. k.0) es)) k

  same_keys : (es : List ((k : KeyThen) × OfKey k)) → map (λ k. k.0) (map key_filled (map (λ k. k.0) es)) ≡ map (λ k. k.0) (map (key_way q) (map (λ k. k.0) es))
  same_keys [] = refl
  same_keys (k ∷ es) = ap₂ (λ x y. x ∷ y) k.1.kept (same_keys es)

  longest_leads : (a : Asking) (t : Option Bytes) (ks : List Keyed) → are_ordered longer_first (map (λ k. k.0) ks) ≡ true →
      LeadsWays (seen q) rule a (ways (by_test (prefix_key t) ks)) → LeadsWays (seen q) rule a (ways (by_test (longest_key t ks) ks))
  longest_leads a t ks e h = record {
    size = h.size ∙ test_size (prefix_key t) (longest_key t ks) ks;
    led = λ first. h.led first ∙ ap (option_map _) (sym (first_longest t ks e));
  }

  prefix_leads : (i : InputRule) (es : List ((k : KeyThen) × OfKey k)) → OfBody (Prefix i (map (λ k. k.0) es))
  prefix_leads i es f =
      let m = map_parts longer_first i (map (λ k. k.0) es) (sym (filled-Prefix i (map (λ k. k.0) es)) ∙ f.filled) in
      let p = subst (All IsLawfulPredicate) (tests-Prefix i (map (λ k. k.0) es)) f.predicates in
      let k = turns_lead (seen q) rule _ _ (keys_lead (key_condition true i) (prefix_key (input_of i q)) (λ key t. prefix_key_law i key q m.input t valid) es m.texts m.filled p) in
      let o = sym (ap (are_ordered longer_first) (same_keys es)) ∙ m.ordered in
      let l = longest_leads _ (input_of i q) (map (key_way q) (map (λ k. k.0) es)) o k in
      rw (asking-Prefix rule i (map (λ k. k.0) es), body-Prefix q i (map (λ k. k.0) es)) l

  body_case : (y : TreeBody-F ((t : Then) × OfThen t) ((b : TreeBody) × OfBody b) ((e : Entry) × OfEntry e) ((k : KeyThen) × OfKey k) ((t : Tree) × OfTree t)) →
      OfBody (roll-TreeBody (map-TreeBody ((t : Then) × OfThen t) ((b : TreeBody) × OfBody b) ((e : Entry) × OfEntry e) ((k : KeyThen) × OfKey k) ((t : Tree) × OfTree t) Then TreeBody Entry KeyThen Tree (λ e. e.0) (λ e. e.0) (λ e. e.0) (λ e. e.0) (λ e. e.0) y))
  body_case open_.Bare = subst OfBody (sym rolls-Bare) bare_leads
  body_case (open_.List es) = subst OfBody (sym (rolls-List (map (λ e. e.0) es))) (list_leads es)
  body_case (open_.Exact i es) = subst OfBody (sym (rolls-Exact i (map (λ e. e.0) es))) (exact_leads i es)
  body_case (open_.Prefix i es) = subst OfBody (sym (rolls-Prefix i (map (λ e. e.0) es))) (prefix_leads i es)

  -- ---- entries

  entry_case : (test : Predicate) (t : Then) → OfThen t → OfEntry (roll-Entry (record { test = test; next = t }))
  entry_case test t h f =
      let p = subst (All IsLawfulPredicate) (tests-entry test t) f.predicates in
      let l = All-head IsLawfulPredicate test (then_predicates t) p in
      let k = h (record { filled = sym (filled-entry test t) ∙ f.filled; predicates = All-tail IsLawfulPredicate test (then_predicates t) p }) in
      rw (asking-entry rule test t, way) (where_leads (seen q) rule (predicate_condition test) (predicate_holds q test) (then_asking rule t) (then_place q t) (predicate_law test q (record { filled = l.filled; rules = l.rules }) valid) k)
    where
      way : entry_way q (roll-Entry (record { test = test; next = t })) ≡ (predicate_holds q test, then_place q t)
      way = fold-roll-Entry Place Ways Way Keyed Place then_step (body_step q) (entry_step q) key_step tree_step (record { test = test; next = t })

  key_case : (key : Bytes) (t : Then) → OfThen t → OfKey (roll-KeyThen (record { key = key; next = t }))
  key_case key t h = record {
    asked = rw (asking-key rule key t, way key t) refl;
    kept = rw (filled-key key t, way key t) refl;
    leads = λ f.
        rw (asking-key rule key t, way key t) (h (record { filled = sym (ap (λ k. k.1) (filled-key key t)) ∙ f.filled; predicates = subst (All IsLawfulPredicate) (tests-key key t) f.predicates }));
  }
    where
      way : (key : Bytes) (t : Then) → key_way q (roll-KeyThen (record { key = key; next = t })) ≡ (key, then_place q t)
      way key t = fold-roll-KeyThen Place Ways Way Keyed Place then_step (body_step q) (entry_step q) key_step tree_step (record { key = key; next = t })

  -- ---- trees

  bare_tree_leads : (b : TreeBody) → OfBody b → OfTree (roll-Tree (record { body = b; otherwise = None }))
  bare_tree_leads b h f =
      let g = and_parts (body_is_filled b) true (sym (filled-tree b None) ∙ f.filled) in
      let p = All-split IsLawfulPredicate (body_predicates b) [] (subst (All IsLawfulPredicate) (tests-tree b None) f.predicates) in
      let k = left_leads-None (seen q) rule (body_asking rule b) (body_ways q b) (h (record { filled = g.0; predicates = p.0 })) in
      rw (asking-tree rule b None, fold-roll-Tree Place Ways Way Keyed Place then_step (body_step q) (entry_step q) key_step tree_step (record { body = b; otherwise = None })) k

  tree_leads : (b : TreeBody) (t : Then) → OfBody b → OfThen t → OfTree (roll-Tree (record { body = b; otherwise = Some t }))
  tree_leads b t h i f =
      let g = and_parts (body_is_filled b) (then_is_filled t) (sym (filled-tree b (Some t)) ∙ f.filled) in
      let p = All-split IsLawfulPredicate (body_predicates b) (then_predicates t) (subst (All IsLawfulPredicate) (tests-tree b (Some t)) f.predicates) in
      let k = left_leads-Some (seen q) rule (body_asking rule b) (then_asking rule t) (body_ways q b) (then_place q t)
      (h (record { filled = g.0; predicates = p.0 })) (i (record { filled = g.1; predicates = p.1 })) in
      rw (asking-tree rule b (Some t), fold-roll-Tree Place Ways Way Keyed Place then_step (body_step q) (entry_step q) key_step tree_step (record { body = b; otherwise = Some t })) k

  tree_case : (b : (b : TreeBody) × OfBody b) (o : Option ((t : Then) × OfThen t)) →
      OfTree (roll-Tree (map-Tree ((t : Then) × OfThen t) ((b : TreeBody) × OfBody b) ((e : Entry) × OfEntry e) ((k : KeyThen) × OfKey k) ((t : Tree) × OfTree t) Then TreeBody Entry KeyThen Tree (λ e. e.0) (λ e. e.0) (λ e. e.0) (λ e. e.0) (λ e. e.0) (record { body = b; otherwise = o })))
  tree_case b None = bare_tree_leads b.0 b.1
  tree_case b (Some t) = tree_leads b.0 t.0 b.1 t.1

  all_lead : (t : Tree) → OfTree t
  all_lead = ind-Tree OfThen OfBody OfEntry OfKey OfTree
      (λ x y is. subst (λ z. OfThen (roll-Then z)) is (then_case y))
      (λ x y is. subst (λ z. OfBody (roll-TreeBody z)) is (body_case y))
      (λ x y is. subst (λ z. OfEntry (roll-Entry z)) is (entry_case y.test y.next.0 y.next.1))
      (λ x y is. subst (λ z. OfKey (roll-KeyThen z)) is (key_case y.key y.next.0 y.next.1))
      (λ x y is. subst (λ z. OfTree (roll-Tree z)) is (tree_case y.body y.otherwise))

pub guard_law : GuardLaw
guard_law rule t first q l v = (all_lead rule q v t (record { filled = l.filled; predicates = l.predicates })).led first
