-- The guards of a lawful tree ask for fields that requests may have.
use Rattle.std.proofs.Common.{◌≡◌, ℕ, zero, suc, ◌+◌, Bool, true, false, not, List, [], ◌∷◌, ◌++◌, map, Option, Some, None, refl, sym, ap, subst, ◌∙◌, IsTrue, All}
use Rattle.std.specs.List.{list_all}
use Rattle.std.proofs.lemmas.Bool.{and_parts}
use Rattle.std.proofs.lemmas.List.Elements.{All-head, All-tail}
use Rattle.text_base.specs.Asked.{Bytes}
use Rattle.text_base.specs.Seen.{field_named}
use Rattle.text_base.specs.declared.request.Field.TheVariants as field
use Rattle.rx_term.specs.declared.terms.Term.{Term}
use Rattle.goal_form.specs.declared.sight.Condition.{Condition}
use Rattle.cfg_types.specs.Kinds.{is_empty, byte_order, longer_first}
use Rattle.cfg_types.specs.Lawful.{IsLawfulPredicate, is_input, then_is_filled, body_is_filled, entry_is_filled, key_filled, then_predicates, body_predicates, entry_predicates, key_predicates}
use Rattle.cfg_types.specs.Order.{joined}
use Rattle.cfg_types.specs.declared.routes.Route.{Route}
use Rattle.cfg_types.specs.declared.rules.TextRule.{TextRule}
use Rattle.cfg_types.specs.declared.trees.InputRule.{InputRule}
use Rattle.cfg_types.specs.declared.trees.InputRule.TheVariants as input
use Rattle.cfg_types.specs.declared.trees.Predicate.{Predicate}
use Rattle.cfg_types.specs.declared.trees.Predicate as predicate
use Rattle.cfg_types.specs.declared.trees.Predicate.TheOpen as layer
use Rattle.cfg_types.specs.declared.trees.Predicate.TheVariants.{rolls-Single, rolls-Any, rolls-All, rolls-Not}
use Rattle.cfg_types.specs.declared.trees.Predicate.TheViews.{roll-Predicate}
use Rattle.cfg_types.specs.declared.trees.Predicate.TheFolds.{ind-Predicate, map-Predicate}
use Rattle.cfg_types.specs.declared.trees.Tree.{Tree}
use Rattle.cfg_types.specs.declared.trees.Then.{Then, Inner, Routes}
use Rattle.cfg_types.specs.declared.trees.TreeBody.{TreeBody, Bare, List as Entries, Exact, Prefix}
use Rattle.cfg_types.specs.declared.trees.Entry.{Entry}
use Rattle.cfg_types.specs.declared.trees.KeyThen.{KeyThen}
use Rattle.cfg_types.specs.declared.trees.Then.TheOpen as part
use Rattle.cfg_types.specs.declared.trees.Then.TheOpen.{Then-F, TreeBody-F, Entry-F, KeyThen-F, Tree-F}
use Rattle.cfg_types.specs.declared.trees.Then.TheVariants.{rolls-Inner, rolls-Routes}
use Rattle.cfg_types.specs.declared.trees.TreeBody.TheVariants.{rolls-Bare, rolls-List, rolls-Exact, rolls-Prefix}
use Rattle.cfg_types.specs.declared.trees.Then.TheViews.{roll-Then, roll-TreeBody, roll-Entry, roll-KeyThen, roll-Tree}
use Rattle.cfg_types.specs.declared.trees.Then.TheFolds.{ind-Tree, map-Then, map-TreeBody, map-Tree}
use Rattle.match_tree.specs.Guards.{Guard, Asking, asked_in_turn, asked_where, guards_where, input_condition, key_condition, predicate_condition, route_guards, tree_asking, then_asking, body_asking, entry_asking, key_asking}
use Rattle.match_tree.specs.LawfulParts.{IsFilledPredicate, AreFilledPredicates, IsFilledTree, IsFilledThen, IsFilledBody, AreFilledEntries}
use Rattle.match_tree.proofs.GuardPredicates.{All-split, condition-Single, condition-Any, condition-All, condition-Not, filled-tail, filled_members-Any, filled_members-All, filled_member-Not, filled-input}
use Rattle.match_tree.proofs.GuardTrees.{IsFilledEntry, IsFilledKey, map_parts, asking-Inner, asking-Routes, asking-Bare, asking-List, asking-Exact, asking-Prefix, asking-entry, asking-key, asking-tree, filled-Inner, tests-Inner, filled-List, tests-List, filled-Exact, tests-Exact, filled-Prefix, tests-Prefix, filled-entry, tests-entry, filled-key, tests-key, filled-tree, tests-tree}
use Rattle.rule_form.proofs.Names.{IsWell, AreWell, well_all, well_any, well_not, well_within, field_well}

-- the conditions of guards are well
abbrev pub GuardsWell : List Guard → Type 0
GuardsWell [] = Unit {0}
GuardsWell (g ∷ gs) = IsWell g.0 × GuardsWell gs

well_more : (xs ys : List Guard) → GuardsWell xs → GuardsWell ys → GuardsWell (xs ++ ys)
well_more [] ys h k = k
well_more (x ∷ xs) ys h k = (h.0, well_more xs ys h.1 k)

well_where : (c : Condition) (gs : List Guard) → IsWell c → GuardsWell gs → GuardsWell (guards_where c gs)
well_where c [] w h = (well_all (c ∷ []) (w, tt), tt)
well_where c (g ∷ gs) w h = (well_all (c ∷ g.0 ∷ []) (w, (h.0, tt)), well_where c gs w h.1)

pub well_list : (rule : ℕ → Condition) (first many : ℕ) → ((r : ℕ) → IsWell (rule r)) → GuardsWell (route_guards rule first many)
well_list rule first zero w = tt
well_list rule first (suc n) w = (w first, well_list rule (first + 1) n w)

-- ---- predicates and keys

well_input : (i : InputRule) (t : Term) (user : Bool) → IsTrue (is_input i) → IsWell (input_condition i t user)
well_input (input.Header name) t user l = well_within (field_named name) t user (field_well name l)
well_input (input.Query key) t user l = well_within field.Target _ user refl

well_key : (prefixes : Bool) (i : InputRule) (key : Bytes) → IsTrue (is_input i) → IsWell (key_condition prefixes i key)
well_key false i key l = well_input i _ false l
well_key true i key l = well_input i _ false l

abbrev Well : Predicate → Type 0
Well p = IsFilledPredicate p → IsWell (predicate_condition p)

single_well : (i : InputRule) (r : TextRule) → Well (predicate.Single i r)
single_well i r h = rw (condition-Single i r) (well_input i _ _ (filled-input i r h).0)

members_well : (es : List ((p : Predicate) × Well p)) → AreFilledPredicates (map (λ e. e.0) es) → AreWell (map predicate_condition (map (λ e. e.0) es))
members_well [] h = tt
members_well (e ∷ es) h = let f = filled-tail e.0 (map (λ e. e.0) es) h in (e.1 f.0, members_well es f.1)

any_well : (es : List ((p : Predicate) × Well p)) → Well (predicate.Any (map (λ e. e.0) es))
any_well es h = rw (condition-Any (map (λ e. e.0) es)) (well_any _ (members_well es (filled_members-Any (map (λ e. e.0) es) h)))

every_well : (es : List ((p : Predicate) × Well p)) → Well (predicate.All (map (λ e. e.0) es))
every_well es h = rw (condition-All (map (λ e. e.0) es)) (well_all _ (members_well es (filled_members-All (map (λ e. e.0) es) h)))

negated_well : (p : Predicate) → Well p → Well (predicate.Not p)
negated_well p w h = rw (condition-Not p) (well_not (predicate_condition p) (w (filled_member-Not p h)))

layer_well : (y : layer.Predicate-F ((p : Predicate) × Well p)) → Well (roll-Predicate (map-Predicate ((p : Predicate) × Well p) Predicate (λ e. e.0) y))
layer_well (layer.Single i r) = subst Well (sym (rolls-Single i r)) (single_well i r)
layer_well (layer.Any es) = subst Well (sym (rolls-Any (map (λ e. e.0) es))) (any_well es)
layer_well (layer.All es) = subst Well (sym (rolls-All (map (λ e. e.0) es))) (every_well es)
layer_well (layer.Not e) = subst Well (sym (rolls-Not e.0)) (negated_well e.0 e.1)

predicate_well : (p : Predicate) → Well p
predicate_well = ind-Predicate Well (λ x y is. subst (λ z. Well (roll-Predicate z)) is (layer_well y))

-- ---- trees

module _ (rule : ℕ → Condition) (w : (r : ℕ) → IsWell (rule r)) where
  abbrev AsksWell : Asking → Type 0
  AsksWell a = (first : ℕ) → GuardsWell (a.guards first)

  abbrev AllAskWell : List Asking → Type 0
  AllAskWell [] = Unit {0}
  AllAskWell (a ∷ rest) = AsksWell a × AllAskWell rest

  turns_well : (asks : List Asking) → AllAskWell asks → AsksWell (asked_in_turn asks)
  turns_well [] h first = tt
  turns_well (a ∷ rest) h first = well_more (a.guards first) ((asked_in_turn rest).guards (first + a.size)) (h.0 first) (turns_well rest h.1 (first + a.size))

  where_well : (c : Condition) (a : Asking) → IsWell c → AsksWell a → AsksWell (asked_where c a)
  where_well c a k h first = well_where c (a.guards first) k (h first)

  abbrev OfThen : Then → Type 0
  OfThen t = IsFilledThen t → AsksWell (then_asking rule t)

  abbrev OfBody : TreeBody → Type 0
  OfBody b = IsFilledBody b → AsksWell (body_asking rule b)

  abbrev OfEntry : Entry → Type 0
  OfEntry e = IsFilledEntry e → AsksWell (entry_asking rule e)

  abbrev OfKey : KeyThen → Type 0
  OfKey k = IsFilledKey k → AsksWell (key_asking rule k).1

  abbrev OfTree : Tree → Type 0
  OfTree t = IsFilledTree t → AsksWell (tree_asking rule t)

  inner_well : (t : Tree) → OfTree t → OfThen (Inner t)
  inner_well t h f =
      rw (asking-Inner rule t) (h (record { filled = sym (filled-Inner t) ∙ f.filled; predicates = subst (All IsLawfulPredicate) (tests-Inner t) f.predicates }))

  routes_well : (rs : List Route) → OfThen (Routes rs)
  routes_well rs f = rw (asking-Routes rule rs) (λ first. well_list rule first _ w)

  then_case : (y : Then-F ((t : Then) × OfThen t) ((b : TreeBody) × OfBody b) ((e : Entry) × OfEntry e) ((k : KeyThen) × OfKey k) ((t : Tree) × OfTree t)) →
      OfThen (roll-Then (map-Then ((t : Then) × OfThen t) ((b : TreeBody) × OfBody b) ((e : Entry) × OfEntry e) ((k : KeyThen) × OfKey k) ((t : Tree) × OfTree t) Then TreeBody Entry KeyThen Tree (λ e. e.0) (λ e. e.0) (λ e. e.0) (λ e. e.0) (λ e. e.0) y))
  then_case (part.Inner t) = subst OfThen (sym (rolls-Inner t.0)) (inner_well t.0 t.1)
  then_case (part.Routes rs) = subst OfThen (sym (rolls-Routes rs)) (routes_well rs)

  bare_well : OfBody Bare
  bare_well f = rw (asking-Bare rule) (λ first. tt)

  entries_well : (es : List ((e : Entry) × OfEntry e)) → AreFilledEntries (map (λ e. e.0) es) → AllAskWell (map (entry_asking rule) (map (λ e. e.0) es))
  entries_well [] h = tt
  entries_well (e ∷ es) h =
      let f = and_parts (entry_is_filled e.0) (list_all (λ e. e) (map entry_is_filled (map (λ e. e.0) es))) h.filled in
      let p = All-split IsLawfulPredicate (entry_predicates e.0) (joined (map entry_predicates (map (λ e. e.0) es))) h.predicates in
      (e.1 (record { filled = f.0; predicates = p.0 }), entries_well es (record { filled = f.1; predicates = p.1 }))

  list_well : (es : List ((e : Entry) × OfEntry e)) → OfBody (Entries (map (λ e. e.0) es))
  list_well es f =
      let g = and_parts (not (is_empty (map entry_is_filled (map (λ e. e.0) es)))) (list_all (λ e. e) (map entry_is_filled (map (λ e. e.0) es))) (sym (filled-List (map (λ e. e.0) es)) ∙ f.filled) in
      let p = subst (All IsLawfulPredicate) (tests-List (map (λ e. e.0) es)) f.predicates in
      rw (asking-List rule (map (λ e. e.0) es)) (turns_well _ (entries_well es (record { filled = g.1; predicates = p })))

  keys_well : (c : Bytes → Condition) → ((key : Bytes) → IsWell (c key)) → (es : List ((k : KeyThen) × OfKey k)) →
      list_all (λ k. k.1) (map key_filled (map (λ k. k.0) es)) ≡ true → All IsLawfulPredicate (joined (map key_predicates (map (λ k. k.0) es))) →
      AllAskWell (map (λ k. asked_where (c k.0) k.1) (map (key_asking rule) (map (λ k. k.0) es)))
  keys_well c k [] filled tests = tt
  keys_well c k (e ∷ es) filled tests =
      let f = and_parts (key_filled e.0).1 (list_all (λ k. k.1) (map key_filled (map (λ k. k.0) es))) filled in
      let a = All-split IsLawfulPredicate (key_predicates e.0) (joined (map key_predicates (map (λ k. k.0) es))) tests in
      (where_well (c (key_asking rule e.0).0) (key_asking rule e.0).1 (k (key_asking rule e.0).0) (e.1 (record { filled = f.0; predicates = a.0 })), keys_well c k es f.1 a.1)

  exact_well : (i : InputRule) (es : List ((k : KeyThen) × OfKey k)) → OfBody (Exact i (map (λ k. k.0) es))
  exact_well i es f =
      let m = map_parts byte_order i (map (λ k. k.0) es) (sym (filled-Exact i (map (λ k. k.0) es)) ∙ f.filled) in
      let p = subst (All IsLawfulPredicate) (tests-Exact i (map (λ k. k.0) es)) f.predicates in
      rw (asking-Exact rule i (map (λ k. k.0) es)) (turns_well _ (keys_well (key_condition false i) (λ key. well_key false i key m.input) es m.filled p))

  prefix_well : (i : InputRule) (es : List ((k : KeyThen) × OfKey k)) → OfBody (Prefix i (map (λ k. k.0) es))
  prefix_well i es f =
      let m = map_parts longer_first i (map (λ k. k.0) es) (sym (filled-Prefix i (map (λ k. k.0) es)) ∙ f.filled) in
      let p = subst (All IsLawfulPredicate) (tests-Prefix i (map (λ k. k.0) es)) f.predicates in
      rw (asking-Prefix rule i (map (λ k. k.0) es)) (turns_well _ (keys_well (key_condition true i) (λ key. well_key true i key m.input) es m.filled p))

  body_case : (y : TreeBody-F ((t : Then) × OfThen t) ((b : TreeBody) × OfBody b) ((e : Entry) × OfEntry e) ((k : KeyThen) × OfKey k) ((t : Tree) × OfTree t)) →
      OfBody (roll-TreeBody (map-TreeBody ((t : Then) × OfThen t) ((b : TreeBody) × OfBody b) ((e : Entry) × OfEntry e) ((k : KeyThen) × OfKey k) ((t : Tree) × OfTree t) Then TreeBody Entry KeyThen Tree (λ e. e.0) (λ e. e.0) (λ e. e.0) (λ e. e.0) (λ e. e.0) y))
  body_case part.Bare = subst OfBody (sym rolls-Bare) bare_well
  body_case (part.List es) = subst OfBody (sym (rolls-List (map (λ e. e.0) es))) (list_well es)
  body_case (part.Exact i es) = subst OfBody (sym (rolls-Exact i (map (λ e. e.0) es))) (exact_well i es)
  body_case (part.Prefix i es) = subst OfBody (sym (rolls-Prefix i (map (λ e. e.0) es))) (prefix_well i es)

  entry_case : (test : Predicate) (t : Then) → OfThen t → OfEntry (roll-Entry (record { test = test; next = t }))
  entry_case test t h f =
      let p = subst (All IsLawfulPredicate) (tests-entry test t) f.predicates in
      let l = All-head IsLawfulPredicate test (then_predicates t) p in
      let k = h (record { filled = sym (filled-entry test t) ∙ f.filled; predicates = All-tail IsLawfulPredicate test (then_predicates t) p }) in
      rw (asking-entry rule test t) (where_well (predicate_condition test) (then_asking rule t) (predicate_well test (record { filled = l.filled; rules = l.rules })) k)

  key_case : (key : Bytes) (t : Then) → OfThen t → OfKey (roll-KeyThen (record { key = key; next = t }))
  key_case key t h f =
      rw (asking-key rule key t) (h (record { filled = sym (ap (λ k. k.1) (filled-key key t)) ∙ f.filled; predicates = subst (All IsLawfulPredicate) (tests-key key t) f.predicates }))

  tree_case : (b : (b : TreeBody) × OfBody b) (o : Option ((t : Then) × OfThen t)) →
      OfTree (roll-Tree (map-Tree ((t : Then) × OfThen t) ((b : TreeBody) × OfBody b) ((e : Entry) × OfEntry e) ((k : KeyThen) × OfKey k) ((t : Tree) × OfTree t) Then TreeBody Entry KeyThen Tree (λ e. e.0) (λ e. e.0) (λ e. e.0) (λ e. e.0) (λ e. e.0) (record { body = b; otherwise = o })))
  tree_case b None f =
      let g = and_parts (body_is_filled b.0) true (sym (filled-tree b.0 None) ∙ f.filled) in
      let p = All-split IsLawfulPredicate (body_predicates b.0) [] (subst (All IsLawfulPredicate) (tests-tree b.0 None) f.predicates) in
      rw (asking-tree rule b.0 None) (λ first. well_more ((body_asking rule b.0).guards first) [] (b.1 (record { filled = g.0; predicates = p.0 }) first) tt)
  tree_case b (Some t) f =
      let g = and_parts (body_is_filled b.0) (then_is_filled t.0) (sym (filled-tree b.0 (Some t.0)) ∙ f.filled) in
      let p = All-split IsLawfulPredicate (body_predicates b.0) (then_predicates t.0) (subst (All IsLawfulPredicate) (tests-tree b.0 (Some t.0)) f.predicates) in
      rw (asking-tree rule b.0 (Some t.0)) (λ first. well_more ((body_asking rule b.0).guards first) ((then_asking rule t.0).guards (first + (body_asking rule b.0).size))
      (b.1 (record { filled = g.0; predicates = p.0 }) first) (t.1 (record { filled = g.1; predicates = p.1 }) (first + (body_asking rule b.0).size)))

  pub well_tree : (t : Tree) → OfTree t
  well_tree = ind-Tree OfThen OfBody OfEntry OfKey OfTree
      (λ x y is. subst (λ z. OfThen (roll-Then z)) is (then_case y))
      (λ x y is. subst (λ z. OfBody (roll-TreeBody z)) is (body_case y))
      (λ x y is. subst (λ z. OfEntry (roll-Entry z)) is (entry_case y.test y.next.0 y.next.1))
      (λ x y is. subst (λ z. OfKey (roll-KeyThen z)) is (key_case y.key y.next.0 y.next.1))
      (λ x y is. subst (λ z. OfTree (roll-Tree z)) is (tree_case y.body y.otherwise))
