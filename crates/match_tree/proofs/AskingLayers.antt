-- What a part of a tree asks, by what its own parts ask.
use Rattle.std.proofs.Common.{rules, ◌≡◌, ℕ, ◌+◌, false, true, List, [], ◌∷◌, length, map, None, Some, refl, sym, ap, subst, ◌∙◌, arith}
use Rattle.std.specs.Prelude.{option_map}
use Rattle.text_base.specs.Asked.{Bytes}
use Rattle.goal_form.specs.Numbers.{Grows}
use Rattle.goal_form.specs.declared.atom.Atom.{Atom}
use Rattle.goal_form.specs.declared.sight.Condition.{Condition}
use Rattle.goal_form.proofs.Meanings.{grows_none}
use Rattle.cfg_types.specs.declared.routes.Route.{Route}
use Rattle.cfg_types.specs.declared.trees.InputRule.{InputRule}
use Rattle.cfg_types.specs.declared.trees.Tree.{Tree}
use Rattle.cfg_types.specs.declared.trees.Then.{Then, Inner, Routes}
use Rattle.cfg_types.specs.declared.trees.TreeBody.{TreeBody, Bare, List as Entries, Exact, Prefix}
use Rattle.cfg_types.specs.declared.trees.Entry.{Entry}
use Rattle.cfg_types.specs.declared.trees.KeyThen.{KeyThen}
use Rattle.cfg_types.specs.declared.trees.Then.TheFolds as folds
use Rattle.match_tree.specs.Guards.{Asking, nothing_asked, then_asked, asked_in_turn, asked_where, asked_or_nothing, asked_by_keys, key_condition, predicate_condition, route_guards, tree_asking, then_asking, body_asking, entry_asking, key_asking}
use Rattle.match_tree.specs.Told.{AddsGuards, IsAsked}
use Rattle.match_tree.specs.declared.guard.Guard.{Guard}
use Rattle.match_tree.proofs.GuardTrees.{asking-Inner, asking-Routes, asking-Bare, asking-List, asking-Exact, asking-Prefix}
use Rattle.match_tree.proofs.GuardLists.{asked_nothing, asked_then}

module _ (rule : ℕ → Condition) where
  pub entry_asks : (e : Entry) → entry_asking rule e ≡ asked_where (predicate_condition e.test) (then_asking rule e.next)
  entry_asks e = first_of (search (rules, folds.the_lemmas), grind (arith, folds.the_lemmas))

  key_asks : (k : KeyThen) → key_asking rule k ≡ (k.key, then_asking rule k.next)
  key_asks k = first_of (search (rules, folds.the_lemmas), grind (arith, folds.the_lemmas))

  tree_asks : (t : Tree) → tree_asking rule t ≡ then_asked (body_asking rule t.body) (asked_or_nothing (option_map (then_asking rule) t.otherwise))
  tree_asks t = first_of (search (rules, folds.the_lemmas), grind (arith, folds.the_lemmas))

  -- what the entries of a map ask, one after another
  abbrev pub key_asked : (Bytes → Condition) → KeyThen → Asking
  key_asked c k = asked_where (c k.key) (then_asking rule k.next)

  pub keys_asked : (c : Bytes → Condition) (ks : List KeyThen) → asked_by_keys c (map (key_asking rule) ks) ≡ asked_in_turn (map (key_asked c) ks)
  keys_asked c [] = refl
  keys_asked c (k ∷ ks) =
      ap (λ z. then_asked (asked_where (c z.0) z.1) (asked_by_keys c (map (key_asking rule) ks))) (key_asks k) ∙ ap (λ z. then_asked (key_asked c k) z) (keys_asked c ks)

  -- ---- layers

  pub tree-None : (t : Tree) (first next : ℕ) (a : List Atom) (l m : List Guard) → t.otherwise ≡ None → IsAsked (body_asking rule t.body) first next a l m →
      IsAsked (tree_asking rule t) first next a l m
  tree-None t first next a l m e h =
      let is = tree_asks t ∙ ap (λ o. then_asked (body_asking rule t.body) (asked_or_nothing (option_map (then_asking rule) o))) e in
      subst (λ z. IsAsked z first next a l m) (sym is) (asked_then (body_asking rule t.body) nothing_asked first next next a a l m m (grows_none a) h (asked_nothing a m next))

  pub tree-Some : (t : Tree) (o : Then) (first next after : ℕ) (a b : List Atom) (l m n : List Guard) → t.otherwise ≡ Some o → Grows a b →
      IsAsked (body_asking rule t.body) first next a l m → IsAsked (then_asking rule o) next after b m n → IsAsked (tree_asking rule t) first after b l n
  tree-Some t o first next after a b l m n e g h k =
      let is = tree_asks t ∙ ap (λ x. then_asked (body_asking rule t.body) (asked_or_nothing (option_map (then_asking rule) x))) e in
      subst (λ z. IsAsked z first after b l n) (sym is) (asked_then (body_asking rule t.body) (then_asking rule o) first next after a b l m n g h k)

  pub body-Bare : (b : TreeBody) (first : ℕ) (a : List Atom) (l : List Guard) → b ≡ Bare → IsAsked (body_asking rule b) first first a l l
  body-Bare b first a l e = subst (λ z. IsAsked z first first a l l) (sym (ap (body_asking rule) e ∙ asking-Bare rule)) (asked_nothing a l first)

  pub body-List : (b : TreeBody) (es us : List Entry) (first next : ℕ) (a : List Atom) (l m : List Guard) → b ≡ Entries es → us ≡ es →
      IsAsked (asked_in_turn (map (entry_asking rule) us)) first next a l m → IsAsked (body_asking rule b) first next a l m
  body-List b es us first next a l m e s h =
      subst (λ z. IsAsked z first next a l m) (sym (ap (body_asking rule) e ∙ asking-List rule es ∙ ap (λ z. asked_in_turn (map (entry_asking rule) z)) (sym s))) h

  pub body-Exact : (b : TreeBody) (i : InputRule) (ks us : List KeyThen) (first next : ℕ) (a : List Atom) (l m : List Guard) → b ≡ Exact i ks → us ≡ ks →
      IsAsked (asked_by_keys (key_condition false i) (map (key_asking rule) us)) first next a l m → IsAsked (body_asking rule b) first next a l m
  body-Exact b i ks us first next a l m e s h =
      subst (λ z. IsAsked z first next a l m) (sym (ap (body_asking rule) e ∙ asking-Exact rule i ks ∙ ap (λ z. asked_by_keys (key_condition false i) (map (key_asking rule) z)) (sym s))) h

  pub body-Prefix : (b : TreeBody) (i : InputRule) (ks us : List KeyThen) (first next : ℕ) (a : List Atom) (l m : List Guard) → b ≡ Prefix i ks → us ≡ ks →
      IsAsked (asked_by_keys (key_condition true i) (map (key_asking rule) us)) first next a l m → IsAsked (body_asking rule b) first next a l m
  body-Prefix b i ks us first next a l m e s h =
      subst (λ z. IsAsked z first next a l m) (sym (ap (body_asking rule) e ∙ asking-Prefix rule i ks ∙ ap (λ z. asked_by_keys (key_condition true i) (map (key_asking rule) z)) (sym s))) h

  pub then-Inner : (t : Then) (x y : Tree) (first next : ℕ) (a : List Atom) (l m : List Guard) → t ≡ Inner x → y ≡ x → IsAsked (tree_asking rule y) first next a l m →
      IsAsked (then_asking rule t) first next a l m
  then-Inner t x y first next a l m e s h = subst (λ z. IsAsked z first next a l m) (sym (ap (then_asking rule) e ∙ asking-Inner rule x ∙ ap (tree_asking rule) (sym s))) h

  pub then-Routes : (t : Then) (rs : List Route) (many first next : ℕ) (a : List Atom) (l m : List Guard) → t ≡ Routes rs → many ≡ length rs → next ≡ first + many →
      AddsGuards a l m (route_guards rule first many) → IsAsked (then_asking rule t) first next a l m
  then-Routes t rs many first next a l m e s n h =
      subst (λ z. IsAsked z first next a l m) (sym (ap (then_asking rule) e ∙ asking-Routes rule rs))
      (record { size = n ∙ ap (λ z. first + z) s; guards = subst (λ z. AddsGuards a l m (route_guards rule first z)) s h })
