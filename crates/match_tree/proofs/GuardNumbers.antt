-- The guards of a tree have the numbers of its routes, one after the other.
use Rattle.std.proofs.Common.{rules, ◌≡◌, ℕ, ◌+◌, zero, suc, true, false, List, [], ◌∷◌, ◌++◌, length, map, Option, Some, None, refl, sym, ap, ap₂, subst, ◌∙◌, arith, length-append}
use Rattle.std.specs.Prelude.{option_map}
use Rattle.std.specs.List.{range_with_len, cons_option}
use Rattle.std.proofs.lemmas.List.Elements.{filter_map-append}
use Rattle.text_base.specs.Asked.{Bytes}
use Rattle.goal_form.specs.declared.sight.Condition.{Condition}
use Rattle.cfg_types.specs.Order.{Run, joined, or_nothing, then_step, body_step, entry_step, key_step, tree_step, tree_routes, then_routes, branch_routes, entry_routes, key_routes}
use Rattle.cfg_types.specs.declared.routes.Route.{Route}
use Rattle.cfg_types.specs.declared.trees.InputRule.{InputRule}
use Rattle.cfg_types.specs.declared.trees.Predicate.{Predicate}
use Rattle.cfg_types.specs.declared.trees.Tree.{Tree}
use Rattle.cfg_types.specs.declared.trees.Then.{Then, Inner, Routes}
use Rattle.cfg_types.specs.declared.trees.TreeBody.{TreeBody, Bare, List as Entries, Exact, Prefix}
use Rattle.cfg_types.specs.declared.trees.Entry.{Entry}
use Rattle.cfg_types.specs.declared.trees.KeyThen.{KeyThen}
use Rattle.cfg_types.specs.declared.trees.Then.TheOpen as open_
use Rattle.cfg_types.specs.declared.trees.Then.TheOpen.{Then-F, TreeBody-F}
use Rattle.cfg_types.specs.declared.trees.Then.TheVariants.{rolls-Inner, rolls-Routes}
use Rattle.cfg_types.specs.declared.trees.TreeBody.TheVariants.{rolls-Bare, rolls-List, rolls-Exact, rolls-Prefix}
use Rattle.cfg_types.specs.declared.trees.Then.TheViews.{roll-Then, roll-TreeBody, roll-Entry, roll-KeyThen, roll-Tree}
use Rattle.cfg_types.specs.declared.trees.Then.TheFolds as folds
use Rattle.cfg_types.specs.declared.trees.Then.TheFolds.{ind-Tree, fold-roll-Entry, fold-roll-KeyThen, fold-roll-Tree, map-Then, map-TreeBody, map-Tree}
use Rattle.match_tree.specs.Guards.{Guard, Asking, nothing_asked, then_asked, asked_in_turn, asked_where, key_condition, guards_where, route_guards, tree_asking, then_asking, body_asking, entry_asking, key_asking}
use Rattle.match_tree.specs.GuardLaws.{guarded_routes, GuardNumbersLaw}
use Rattle.match_tree.proofs.GuardTrees.{asking-Inner, asking-Routes, asking-Bare, asking-List, asking-Exact, asking-Prefix, asking-entry, asking-key, asking-tree}

-- as many routes are asked as stand in the run, and the guards have their numbers
pub record AreNumbered (a : Asking) (rs : Run) : Type 0 where
  pub size : a.size ≡ length rs
  pub numbers : (first : ℕ) → guarded_routes (a.guards first) ≡ range_with_len first (length rs)

-- ---- lists of guards

range-append : (first m n : ℕ) → range_with_len first (m + n) ≡ range_with_len first m ++ range_with_len (first + m) n
range-append first zero n = let e : first ≡ first + 0 = omega arith in let f : 0 + n ≡ n = omega arith in ap (range_with_len first) f ∙ ap (λ k. range_with_len k n) e
range-append first (suc m) n =
    let e : first + 1 + m ≡ first + suc m = omega arith in
    let f : suc m + n ≡ suc (m + n) = omega arith in
    ap (range_with_len first) f ∙ ap (λ l. first ∷ l) (range-append (first + 1) m n ∙ ap (λ k. range_with_len (first + 1) m ++ range_with_len k n) e)

-- a condition leaves the routes as they are
where_routes : (c : Condition) (gs : List Guard) → guarded_routes (guards_where c gs) ≡ guarded_routes gs
where_routes c [] = refl
where_routes c (g ∷ gs) = ap (cons_option g.1) (where_routes c gs)

routes_of_rules : (rule : ℕ → Condition) (first many : ℕ) → guarded_routes (route_guards rule first many) ≡ range_with_len first many
routes_of_rules rule first zero = refl
routes_of_rules rule first (suc many) = ap (λ l. first ∷ l) (routes_of_rules rule (first + 1) many)

none_numbered : AreNumbered nothing_asked []
none_numbered = record { size = refl; numbers = λ first. refl }

where_numbered : (c : Condition) (a : Asking) (rs : Run) → AreNumbered a rs → AreNumbered (asked_where c a) rs
where_numbered c a rs h = record { size = h.size; numbers = λ first. where_routes c (a.guards first) ∙ h.numbers first }

then_numbered : (a b : Asking) (rs ss : Run) → AreNumbered a rs → AreNumbered b ss → AreNumbered (then_asked a b) (rs ++ ss)
then_numbered a b rs ss h k =
    let e = h.size in
    let f = k.size in
    record {
      size = omega (arith, length-append rs ss);
      numbers = λ first.
          filter_map-append (λ g. g.1) (a.guards first) (b.guards (first + a.size))
          ∙ ap₂ (λ x y. x ++ y) (h.numbers first) (k.numbers (first + a.size))
          ∙ ap (λ n. range_with_len first (length rs) ++ range_with_len (first + n) (length ss)) e
          ∙ sym (range-append first (length rs) (length ss))
          ∙ ap (range_with_len first) (sym (length-append rs ss));
    }

abbrev AreEach : List Asking → List Run → Type 0
AreEach [] [] = Unit {0}
AreEach [] (r ∷ rs) = ⊥
AreEach (a ∷ as_) [] = ⊥
AreEach (a ∷ as_) (r ∷ rs) = AreNumbered a r × AreEach as_ rs

turns_numbered : (as_ : List Asking) (rs : List Run) → AreEach as_ rs → AreNumbered (asked_in_turn as_) (joined rs)
turns_numbered [] [] h = none_numbered
turns_numbered (a ∷ as_) (r ∷ rs) h = then_numbered a (asked_in_turn as_) r (joined rs) h.0 (turns_numbered as_ rs h.1)
turns_numbered [] (r ∷ rs) h = absurd h
turns_numbered (a ∷ as_) [] h = absurd h

-- ---- layers of routes

routes-Inner : (t : Tree) → then_routes (Inner t) ≡ tree_routes t
routes-Inner t = first_of (search (rules, folds.the_lemmas), grind (arith, folds.the_lemmas))

routes-Routes : (rs : List Route) → then_routes (Routes rs) ≡ rs
routes-Routes rs = first_of (search (rules, folds.the_lemmas), grind (arith, folds.the_lemmas))

routes-Bare : branch_routes Bare ≡ []
routes-Bare = first_of (search (rules, folds.the_lemmas), grind (arith, folds.the_lemmas))

routes-List : (es : List Entry) → branch_routes (Entries es) ≡ joined (map entry_routes es)
routes-List es = first_of (search (rules, folds.the_lemmas), grind (arith, folds.the_lemmas))

routes-Exact : (i : InputRule) (ks : List KeyThen) → branch_routes (Exact i ks) ≡ joined (map key_routes ks)
routes-Exact i ks = first_of (search (rules, folds.the_lemmas), grind (arith, folds.the_lemmas))

routes-Prefix : (i : InputRule) (ks : List KeyThen) → branch_routes (Prefix i ks) ≡ joined (map key_routes ks)
routes-Prefix i ks = first_of (search (rules, folds.the_lemmas), grind (arith, folds.the_lemmas))

routes-entry : (test : Predicate) (t : Then) → entry_routes (roll-Entry (record { test = test; next = t })) ≡ then_routes t
routes-entry test t = fold-roll-Entry Run Run Run Run Run then_step body_step entry_step key_step tree_step (record { test = test; next = t })

routes-key : (key : Bytes) (t : Then) → key_routes (roll-KeyThen (record { key = key; next = t })) ≡ then_routes t
routes-key key t = fold-roll-KeyThen Run Run Run Run Run then_step body_step entry_step key_step tree_step (record { key = key; next = t })

routes-tree : (b : TreeBody) (o : Option Then) → tree_routes (roll-Tree (record { body = b; otherwise = o })) ≡ branch_routes b ++ or_nothing (option_map then_routes o)
routes-tree b None = fold-roll-Tree Run Run Run Run Run then_step body_step entry_step key_step tree_step (record { body = b; otherwise = None })
routes-tree b (Some t) = fold-roll-Tree Run Run Run Run Run then_step body_step entry_step key_step tree_step (record { body = b; otherwise = Some t })

-- ---- the parts of a tree

module _ (rule : ℕ → Condition) where
  abbrev OfThen : Then → Type 0
  OfThen t = AreNumbered (then_asking rule t) (then_routes t)

  abbrev OfBody : TreeBody → Type 0
  OfBody b = AreNumbered (body_asking rule b) (branch_routes b)

  abbrev OfEntry : Entry → Type 0
  OfEntry e = AreNumbered (entry_asking rule e) (entry_routes e)

  abbrev OfKey : KeyThen → Type 0
  OfKey k = AreNumbered (key_asking rule k).1 (key_routes k)

  abbrev OfTree : Tree → Type 0
  OfTree t = AreNumbered (tree_asking rule t) (tree_routes t)

  inner_numbered : (t : Tree) → OfTree t → OfThen (Inner t)
  inner_numbered t h = rw (asking-Inner rule t, routes-Inner t) h

  routes_numbered : (rs : List Route) → OfThen (Routes rs)
  routes_numbered rs = rw (asking-Routes rule rs, routes-Routes rs) (record { size = refl; numbers = λ first. routes_of_rules rule first (length rs) })

  then_case : (y : Then-F ((t : Then) × OfThen t) ((b : TreeBody) × OfBody b) ((e : Entry) × OfEntry e) ((k : KeyThen) × OfKey k) ((t : Tree) × OfTree t)) →
      OfThen (roll-Then (map-Then ((t : Then) × OfThen t) ((b : TreeBody) × OfBody b) ((e : Entry) × OfEntry e) ((k : KeyThen) × OfKey k) ((t : Tree) × OfTree t) Then TreeBody Entry KeyThen Tree (λ e. e.0) (λ e. e.0) (λ e. e.0) (λ e. e.0) (λ e. e.0) y))
  then_case (open_.Inner t) = subst OfThen (sym (rolls-Inner t.0)) (inner_numbered t.0 t.1)
  then_case (open_.Routes rs) = subst OfThen (sym (rolls-Routes rs)) (routes_numbered rs)

  bare_numbered : OfBody Bare
  bare_numbered = rw (asking-Bare rule, routes-Bare) none_numbered

  entries_numbered : (es : List ((e : Entry) × OfEntry e)) → AreEach (map (entry_asking rule) (map (λ e. e.0) es)) (map entry_routes (map (λ e. e.0) es))
  entries_numbered [] = tt
  entries_numbered (e ∷ es) = (e.1, entries_numbered es)

  keys_numbered : (c : Bytes → Condition) (es : List ((k : KeyThen) × OfKey k)) →
      AreEach (map (λ k. asked_where (c k.0) k.1) (map (key_asking rule) (map (λ k. k.0) es))) (map key_routes (map (λ k. k.0) es))
  keys_numbered c [] = tt
  keys_numbered c (k ∷ es) = (where_numbered (c (key_asking rule k.0).0) (key_asking rule k.0).1 (key_routes k.0) k.1, keys_numbered c es)

  list_numbered : (es : List ((e : Entry) × OfEntry e)) → OfBody (Entries (map (λ e. e.0) es))
  list_numbered es = rw (asking-List rule (map (λ e. e.0) es), routes-List (map (λ e. e.0) es)) (turns_numbered _ _ (entries_numbered es))

  exact_numbered : (i : InputRule) (es : List ((k : KeyThen) × OfKey k)) → OfBody (Exact i (map (λ k. k.0) es))
  exact_numbered i es = rw (asking-Exact rule i (map (λ k. k.0) es), routes-Exact i (map (λ k. k.0) es)) (turns_numbered _ _ (keys_numbered (key_condition false i) es))

  prefix_numbered : (i : InputRule) (es : List ((k : KeyThen) × OfKey k)) → OfBody (Prefix i (map (λ k. k.0) es))
  prefix_numbered i es = rw (asking-Prefix rule i (map (λ k. k.0) es), routes-Prefix i (map (λ k. k.0) es)) (turns_numbered _ _ (keys_numbered (key_condition true i) es))

  body_case : (y : TreeBody-F ((t : Then) × OfThen t) ((b : TreeBody) × OfBody b) ((e : Entry) × OfEntry e) ((k : KeyThen) × OfKey k) ((t : Tree) × OfTree t)) →
      OfBody (roll-TreeBody (map-TreeBody ((t : Then) × OfThen t) ((b : TreeBody) × OfBody b) ((e : Entry) × OfEntry e) ((k : KeyThen) × OfKey k) ((t : Tree) × OfTree t) Then TreeBody Entry KeyThen Tree (λ e. e.0) (λ e. e.0) (λ e. e.0) (λ e. e.0) (λ e. e.0) y))
  body_case open_.Bare = subst OfBody (sym rolls-Bare) bare_numbered
  body_case (open_.List es) = subst OfBody (sym (rolls-List (map (λ e. e.0) es))) (list_numbered es)
  body_case (open_.Exact i es) = subst OfBody (sym (rolls-Exact i (map (λ e. e.0) es))) (exact_numbered i es)
  body_case (open_.Prefix i es) = subst OfBody (sym (rolls-Prefix i (map (λ e. e.0) es))) (prefix_numbered i es)

  entry_case : (test : Predicate) (t : Then) → OfThen t → OfEntry (roll-Entry (record { test = test; next = t }))
  entry_case test t h = rw (asking-entry rule test t, routes-entry test t) (where_numbered _ (then_asking rule t) (then_routes t) h)

  key_case : (key : Bytes) (t : Then) → OfThen t → OfKey (roll-KeyThen (record { key = key; next = t }))
  key_case key t h = rw (asking-key rule key t, routes-key key t) h

  tree_case : (b : (b : TreeBody) × OfBody b) (o : Option ((t : Then) × OfThen t)) →
      OfTree (roll-Tree (map-Tree ((t : Then) × OfThen t) ((b : TreeBody) × OfBody b) ((e : Entry) × OfEntry e) ((k : KeyThen) × OfKey k) ((t : Tree) × OfTree t) Then TreeBody Entry KeyThen Tree (λ e. e.0) (λ e. e.0) (λ e. e.0) (λ e. e.0) (λ e. e.0) (record { body = b; otherwise = o })))
  tree_case b None = rw (asking-tree rule b.0 None, routes-tree b.0 None) (then_numbered (body_asking rule b.0) nothing_asked (branch_routes b.0) [] b.1 none_numbered)
  tree_case b (Some t) =
      rw (asking-tree rule b.0 (Some t.0), routes-tree b.0 (Some t.0)) (then_numbered (body_asking rule b.0) (then_asking rule t.0) (branch_routes b.0) (then_routes t.0) b.1 t.1)

  -- as many routes are asked as the tree has, and each has one guard, in route order
  pub tree_numbered : (t : Tree) → AreNumbered (tree_asking rule t) (tree_routes t)
  tree_numbered = ind-Tree OfThen OfBody OfEntry OfKey OfTree
      (λ x y is. subst (λ z. OfThen (roll-Then z)) is (then_case y))
      (λ x y is. subst (λ z. OfBody (roll-TreeBody z)) is (body_case y))
      (λ x y is. subst (λ z. OfEntry (roll-Entry z)) is (entry_case y.test y.next.0 y.next.1))
      (λ x y is. subst (λ z. OfKey (roll-KeyThen z)) is (key_case y.key y.next.0 y.next.1))
      (λ x y is. subst (λ z. OfTree (roll-Tree z)) is (tree_case y.body y.otherwise))

pub guard_numbers_law : GuardNumbersLaw
guard_numbers_law rule t first = (tree_numbered rule t).numbers first
