-- The layers of a tree and of the matcher that it is built into.
use Rattle.std.proofs.Common.{rules, ◌≡◌, ℕ, suc, ◌+◌, ◌<◌, Bool, true, false, not, ◌&&◌, if◌then◌else◌, List, [], ◌∷◌, ◌++◌, Option, Some, None, map, length, get_or, take, slice_get, refl, ap, sym, ◌∙◌, arith}
use Rattle.std.specs.Prelude.{option_map, nat_lt}
use Rattle.std.specs.List.{list_any, position_or_len}
use Rattle.std.proofs.lemmas.List.{take_more, map-append}
use Rattle.std.proofs.lemmas.List.Sums.{sum_by-cons}
use Rattle.text_base.specs.Asked.{Bytes, Asked}
use Rattle.cfg_types.specs.Trees.{Span, Place, Way, behind, ways, first_taken, taken_or as taken_of, size_or, input_of, predicate_holds, equal_key, prefix_key, longest_key, tree_place, then_place, body_ways, entry_way, key_way}
use Rattle.cfg_types.specs.declared.routes.Route.{Route}
use Rattle.cfg_types.specs.declared.trees.InputRule.{InputRule}
use Rattle.cfg_types.specs.declared.trees.Tree.{Tree}
use Rattle.cfg_types.specs.declared.trees.Then.{Inner, Routes}
use Rattle.cfg_types.specs.declared.trees.TreeBody.{Bare, List as Entries, Exact, Prefix}
use Rattle.cfg_types.specs.declared.trees.Entry.{Entry}
use Rattle.cfg_types.specs.declared.trees.KeyThen.{KeyThen}
use Rattle.cfg_types.specs.declared.trees.Then.TheFolds as folds
use Rattle.match_tree.specs.KeyOrder.{keys_of, is_longest}
use Rattle.match_tree.specs.Builds.{spans_from, sizes}

-- ---- outcomes of places in a row

pub behind_behind : (a b : ℕ) (o : Option Span) → behind a (behind b o) ≡ behind (a + b) o
behind_behind a b None = refl
behind_behind a b (Some s) = let e : a + (b + s.0) ≡ a + b + s.0 = omega arith in ap (λ n. Some (n, s.1)) e

taken_behind : (a b : ℕ) (o : Option (Option Span)) → option_map (behind a) (option_map (behind b) o) ≡ option_map (behind (a + b)) o
taken_behind a b None = refl
taken_behind a b (Some o) = ap Some (behind_behind a b o)

next_one : {A : Type 0} (x : A) (xs : List A) (n : ℕ) → slice_get (x ∷ xs) (1 + n) ≡ slice_get xs n
next_one x xs n = let e : 1 + n ≡ suc n = omega arith in ap (slice_get (x ∷ xs)) e

-- the first way that may be taken, by its place
pub first_by_place : (ws : List Way) (first : ℕ) → slice_get (spans_from first (map (λ w. w.1) ws)) (position_or_len (λ b. b) (map (λ w. w.0) ws)) ≡ option_map (behind first) (first_taken ws)
first_by_place [] first = refl
first_by_place (w ∷ ws) first = by w.0 (first_by_place ws (first + w.1.size))
  where
    by : (b : Bool) → slice_get (spans_from (first + w.1.size) (map (λ x. x.1) ws)) (position_or_len (λ x. x) (map (λ x. x.0) ws)) ≡ option_map (behind (first + w.1.size)) (first_taken ws) →
        slice_get (spans_from first (map (λ x. x.1) (w ∷ ws))) (position_or_len (λ x. x) (b ∷ map (λ x. x.0) ws)) ≡ option_map (behind first) (if b then Some w.1.outcome else option_map (behind w.1.size) (first_taken ws))
    by true h = refl
    by false h = next_one (behind first w.1.outcome) (spans_from (first + w.1.size) (map (λ x. x.1) ws)) (position_or_len (λ x. x) (map (λ x. x.0) ws)) ∙ h ∙ sym (taken_behind first w.1.size (first_taken ws))

pub ways_size : (ws : List Way) → sizes (map (λ w. w.1) ws) ≡ (ways ws).size
ways_size [] = refl
ways_size (w ∷ ws) = sum_by-cons (λ p. p.size) w.1 (map (λ x. x.1) ws) ∙ ap (λ n. w.1.size + n) (ways_size ws) ∙ sym (sum_by-cons (λ x. x.1.size) w ws)

sizes-more : (ps : List Place) (p : Place) → sizes (ps ++ p ∷ []) ≡ sizes ps + p.size
sizes-more [] p = sum_by-cons (λ x. x.size) p [] ∙ omega arith
sizes-more (x ∷ ps) p = sum_by-cons (λ y. y.size) x (ps ++ p ∷ []) ∙ ap (λ n. x.size + n) (sizes-more ps p) ∙ (let e = sum_by-cons (λ y. y.size) x ps in omega (arith, e))

spans-more : (at : ℕ) (ps : List Place) (p : Place) → spans_from at (ps ++ p ∷ []) ≡ spans_from at ps ++ behind (at + sizes ps) p.outcome ∷ []
spans-more at [] p = ap (λ n. behind n p.outcome ∷ []) (omega arith)
spans-more at (x ∷ ps) p =
    let e : at + x.size + sizes ps ≡ at + sizes (x ∷ ps) = (let s = sum_by-cons (λ y. y.size) x ps in omega (arith, s)) in
    ap (λ l. behind at x.outcome ∷ l) (spans-more (at + x.size) ps p ∙ ap (λ n. spans_from (at + x.size) ps ++ behind n p.outcome ∷ []) e)

-- ---- positions

pub position_mapped : {A : Type 0} (p : A → Bool) (xs : List A) → position_or_len p xs ≡ position_or_len (λ b. b) (map p xs)
position_mapped p [] = refl
position_mapped p (x ∷ xs) = by (p x) (position_mapped p xs)
  where
    by : (b : Bool) → position_or_len p xs ≡ position_or_len (λ c. c) (map p xs) → (if not b then 1 + position_or_len p xs else 0) ≡ (if not b then 1 + position_or_len (λ c. c) (map p xs) else 0)
    by true h = refl
    by false h = ap (λ n. 1 + n) h

module _ (q : Asked) where
  pub then-Inner : (t : Tree) → then_place q (Inner t) ≡ tree_place q t
  then-Inner t = first_of (search (rules, folds.the_lemmas), grind (arith, folds.the_lemmas))

  pub then-Routes : (rs : List Route) → then_place q (Routes rs) ≡ record { size = length rs; outcome = Some (0, length rs) }
  then-Routes rs = first_of (search (rules, folds.the_lemmas), grind (arith, folds.the_lemmas))

  pub entry-is : (e : Entry) → entry_way q e ≡ (predicate_holds q e.test, then_place q e.next)
  entry-is e = first_of (search (rules, folds.the_lemmas), grind (arith, folds.the_lemmas))

  pub key-is : (k : KeyThen) → key_way q k ≡ (k.key, then_place q k.next)
  key-is k = first_of (search (rules, folds.the_lemmas), grind (arith, folds.the_lemmas))

  pub body-Bare : body_ways q Bare ≡ ways []
  body-Bare = first_of (search (rules, folds.the_lemmas), grind (arith, folds.the_lemmas))

  pub body-List : (es : List Entry) → body_ways q (Entries es) ≡ ways (map (entry_way q) es)
  body-List es = first_of (search (rules, folds.the_lemmas), grind (arith, folds.the_lemmas))

  pub body-Exact : (i : InputRule) (ks : List KeyThen) → body_ways q (Exact i ks) ≡ ways (map (λ k. (equal_key (input_of i q) k.0, k.1)) (map (key_way q) ks))
  body-Exact i ks = first_of (search (rules, folds.the_lemmas), grind (arith, folds.the_lemmas))

  pub body-Prefix : (i : InputRule) (ks : List KeyThen) → body_ways q (Prefix i ks) ≡ ways (map (λ k. (longest_key (input_of i q) (map (key_way q) ks) k.0, k.1)) (map (key_way q) ks))
  body-Prefix i ks = first_of (search (rules, folds.the_lemmas), grind (arith, folds.the_lemmas))

  pub tree-is : (t : Tree) → tree_place q t ≡ record {
    size = (body_ways q t.body).size + size_or (option_map (then_place q) t.otherwise);
    outcome = taken_of (body_ways q t.body).taken (body_ways q t.body).size (option_map (then_place q) t.otherwise);
  }
  tree-is t = first_of (search (rules, folds.the_lemmas), grind (arith, folds.the_lemmas))

  -- ---- the ways of a body: the places are those of the entries, and the tests are these

  entry_places : (es : List Entry) → map (λ w. w.1) (map (entry_way q) es) ≡ map (λ e. (entry_way q e).1) es
  entry_places [] = refl
  entry_places (e ∷ es) = ap (λ l. (entry_way q e).1 ∷ l) (entry_places es)

  entry_tests : (es : List Entry) → map (λ w. w.0) (map (entry_way q) es) ≡ map (λ e. predicate_holds q e.test) es
  entry_tests [] = refl
  entry_tests (e ∷ es) = rw (entry-is e) (ap (λ l. predicate_holds q e.test ∷ l) (entry_tests es))

  -- the ways of a map, whose entries may be taken where their key passes this test
  abbrev key_ways : (Bytes → Bool) → List KeyThen → List Way
  key_ways p ks = map (λ k. (p k.0, k.1)) (map (key_way q) ks)

  key_places : (p : Bytes → Bool) (ks : List KeyThen) → map (λ w. w.1) (key_ways p ks) ≡ map (λ k. (key_way q k).1) ks
  key_places p [] = refl
  key_places p (k ∷ ks) = ap (λ l. (key_way q k).1 ∷ l) (key_places p ks)

  key_tests : (p : Bytes → Bool) (ks : List KeyThen) → map (λ w. w.0) (key_ways p ks) ≡ map p (keys_of ks)
  key_tests p [] = refl
  key_tests p (k ∷ ks) = rw (key-is k) (ap (λ l. p k.key ∷ l) (key_tests p ks))

  any_key : (p : Bytes → Bool) (ks : List KeyThen) → list_any (λ k. p k.0) (map (key_way q) ks) ≡ list_any p (keys_of ks)
  any_key p [] = refl
  any_key p (k ∷ ks) = rw (key-is k, any_key p ks) refl

  same_longest : (t : Option Bytes) (ks : List KeyThen) (key : Bytes) → longest_key t (map (key_way q) ks) key ≡ is_longest t (keys_of ks) key
  same_longest t ks key = ap (λ b. prefix_key t key && not b) (any_key (λ k. prefix_key t k && nat_lt (length key) (length k)) ks)

  map_same : {A : Type 0} (p r : A → Bool) → ((x : A) → p x ≡ r x) → (xs : List A) → map p xs ≡ map r xs
  map_same p r e [] = refl
  map_same p r e (x ∷ xs) = rw (e x) (ap (λ l. r x ∷ l) (map_same p r e xs))

  -- ---- what is taken of a body

  pub list_size : (es : List Entry) → sizes (map (λ e. (entry_way q e).1) es) ≡ (body_ways q (Entries es)).size
  list_size es = ap sizes (sym (entry_places es)) ∙ ways_size (map (entry_way q) es) ∙ sym (ap (λ w. w.size) (body-List es))

  pub list_taken : (es : List Entry) (first : ℕ) (tests : List Bool) → tests ≡ map (λ e. predicate_holds q e.test) es →
      slice_get (spans_from first (map (λ e. (entry_way q e).1) es)) (position_or_len (λ b. b) tests) ≡ option_map (behind first) (body_ways q (Entries es)).taken
  list_taken es first tests e =
      ap (λ l. slice_get (spans_from first l) (position_or_len (λ b. b) tests)) (sym (entry_places es))
      ∙ ap (λ l. slice_get (spans_from first (map (λ w. w.1) (map (entry_way q) es))) (position_or_len (λ b. b) l)) (e ∙ sym (entry_tests es))
      ∙ first_by_place (map (entry_way q) es) first
      ∙ sym (ap (λ w. option_map (behind first) w.taken) (body-List es))

  keys_taken : (p : Bytes → Bool) (ks : List KeyThen) (first : ℕ) → slice_get (spans_from first (map (λ k. (key_way q k).1) ks)) (position_or_len p (keys_of ks))
      ≡ option_map (behind first) (first_taken (key_ways p ks))
  keys_taken p ks first =
      ap (λ l. slice_get (spans_from first l) (position_or_len p (keys_of ks))) (sym (key_places p ks))
      ∙ ap (λ n. slice_get (spans_from first (map (λ w. w.1) (key_ways p ks))) n) (position_mapped p (keys_of ks) ∙ ap (position_or_len (λ b. b)) (sym (key_tests p ks)))
      ∙ first_by_place (key_ways p ks) first

  keys_size : (p : Bytes → Bool) (ks : List KeyThen) → sizes (map (λ k. (key_way q k).1) ks) ≡ (ways (key_ways p ks)).size
  keys_size p ks = ap sizes (sym (key_places p ks)) ∙ ways_size (key_ways p ks)

  pub exact_size : (i : InputRule) (ks : List KeyThen) → sizes (map (λ k. (key_way q k).1) ks) ≡ (body_ways q (Exact i ks)).size
  exact_size i ks = keys_size (equal_key (input_of i q)) ks ∙ sym (ap (λ w. w.size) (body-Exact i ks))

  pub exact_taken : (i : InputRule) (ks : List KeyThen) (first : ℕ) (t : Option Bytes) (keys : List Bytes) → t ≡ input_of i q → keys ≡ keys_of ks →
      slice_get (spans_from first (map (λ k. (key_way q k).1) ks)) (position_or_len (equal_key t) keys) ≡ option_map (behind first) (body_ways q (Exact i ks)).taken
  exact_taken i ks first t keys e k =
      ap (λ l. slice_get (spans_from first (map (λ x. (key_way q x).1) ks)) (position_or_len (equal_key t) l)) k
      ∙ ap (λ o. slice_get (spans_from first (map (λ x. (key_way q x).1) ks)) (position_or_len (equal_key o) (keys_of ks))) e
      ∙ keys_taken (equal_key (input_of i q)) ks first
      ∙ sym (ap (λ w. option_map (behind first) w.taken) (body-Exact i ks))

  pub prefix_size : (i : InputRule) (ks : List KeyThen) → sizes (map (λ k. (key_way q k).1) ks) ≡ (body_ways q (Prefix i ks)).size
  prefix_size i ks = keys_size (longest_key (input_of i q) (map (key_way q) ks)) ks ∙ sym (ap (λ w. w.size) (body-Prefix i ks))

  longest_place : (t : Option Bytes) (ks : List KeyThen) → position_or_len (is_longest t (keys_of ks)) (keys_of ks) ≡ position_or_len (longest_key t (map (key_way q) ks)) (keys_of ks)
  longest_place t ks =
      position_mapped (is_longest t (keys_of ks)) (keys_of ks)
      ∙ ap (position_or_len (λ b. b)) (sym (map_same (longest_key t (map (key_way q) ks)) (is_longest t (keys_of ks)) (same_longest t ks) (keys_of ks)))
      ∙ sym (position_mapped (longest_key t (map (key_way q) ks)) (keys_of ks))

  pub prefix_taken : (i : InputRule) (ks : List KeyThen) (first : ℕ) (t : Option Bytes) (keys : List Bytes) → t ≡ input_of i q → keys ≡ keys_of ks →
      slice_get (spans_from first (map (λ k. (key_way q k).1) ks)) (position_or_len (is_longest t keys) keys) ≡ option_map (behind first) (body_ways q (Prefix i ks)).taken
  prefix_taken i ks first t keys e k =
      ap (λ l. slice_get (spans_from first (map (λ x. (key_way q x).1) ks)) (position_or_len (is_longest t l) l)) k
      ∙ ap (λ o. slice_get (spans_from first (map (λ x. (key_way q x).1) ks)) (position_or_len (is_longest o (keys_of ks)) (keys_of ks))) e
      ∙ ap (λ n. slice_get (spans_from first (map (λ x. (key_way q x).1) ks)) n) (longest_place (input_of i q) ks)
      ∙ keys_taken (longest_key (input_of i q) (map (key_way q) ks)) ks first
      ∙ sym (ap (λ w. option_map (behind first) w.taken) (body-Prefix i ks))

  pub bare_taken : (first : ℕ) → None ≡ option_map (behind first) (body_ways q Bare).taken
  bare_taken first = sym (ap (λ w. option_map (behind first) w.taken) body-Bare)

  pub bare_size : 0 ≡ (body_ways q Bare).size
  bare_size = sym (ap (λ w. w.size) body-Bare)

-- one more place behind the first i
pub place_more : {X : Type 0} (f : X → Place) (xs : List X) (i : ℕ) (x : X) → i < length xs → x ≡ get_or xs i x → map f (take (i + 1) xs) ≡ map f (take i xs) ++ f x ∷ []
place_more f xs i x lt e = ap (map f) (take_more xs i x lt) ∙ map-append f (take i xs) (get_or xs i x ∷ []) ∙ ap (λ y. map f (take i xs) ++ f y ∷ []) (sym e)

pub sizes_more : (ps qs : List Place) (p : Place) → qs ≡ ps ++ p ∷ [] → sizes qs ≡ sizes ps + p.size
sizes_more ps qs p e = ap sizes e ∙ sizes-more ps p

pub spans_more : (at : ℕ) (ps qs : List Place) (p : Place) (next : ℕ) → qs ≡ ps ++ p ∷ [] → next ≡ at + sizes ps → spans_from at qs ≡ spans_from at ps ++ behind next p.outcome ∷ []
spans_more at ps qs p next e n = ap (spans_from at) e ∙ spans-more at ps p ∙ ap (λ k. spans_from at ps ++ behind k p.outcome ∷ []) (sym n)
