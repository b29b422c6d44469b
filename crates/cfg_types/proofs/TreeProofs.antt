-- The routes of an outcome stand in their tree.
use Rattle.std.proofs.Common.{◌≡◌, ℕ, ◌+◌, ◌≤◌, Bool, true, false, not, ◌&&◌, if◌then◌else◌, zero, suc, List, [], ◌∷◌, ◌++◌, length, take, drop, map, Option, Some, None, refl, sym, ◌∙◌, ap, subst, arith, length-append}
use Rattle.std.specs.Prelude.{IfSome, option_map, nat_lt}
use Rattle.std.proofs.lemmas.List.Sums.{sum_by-cons}
use Rattle.std.specs.List.{list_any}
use Rattle.text_base.specs.Asked.{Bytes, Asked}
use Rattle.std.proofs.Math.Nat.{suc-add}
use Rattle.cfg_types.specs.TreeLaws.{Led, first_led, then_led, body_led, entry_led, key_led, led_or, tree_led, routes_led_to, TreeLaw}
use Rattle.cfg_types.specs.declared.trees.Predicate.{Predicate}
use Rattle.cfg_types.specs.Order.{Run, joined, then_routes, branch_routes, entry_routes, key_routes, tree_routes, then_step as then_run, body_step as body_run, entry_step as entry_run, key_step as key_run, tree_step as tree_run}
use Rattle.cfg_types.specs.Trees.{Span, Place, Ways, Way, Keyed, behind, first_taken, ways, taken_or, then_step, body_step, entry_step, key_step, tree_step, tree_place, then_place, body_ways, entry_way, key_way, equal_key, prefix_key, longest_key, input_of, predicate_holds}
use Rattle.cfg_types.specs.declared.trees.Then.{Then}
use Rattle.cfg_types.specs.declared.trees.TreeBody.{TreeBody}
use Rattle.cfg_types.specs.declared.trees.Entry.{Entry}
use Rattle.cfg_types.specs.declared.trees.KeyThen.{KeyThen}
use Rattle.cfg_types.specs.declared.trees.Tree.{Tree}
use Rattle.cfg_types.specs.declared.trees.Then.TheOpen.{Then-F, TreeBody-F, Tree-F, Inner, Routes, Bare, List as Entries, Exact, Prefix}
use Rattle.cfg_types.specs.declared.trees.Then.TheViews.{roll-Then, roll-TreeBody, roll-Entry, roll-KeyThen, roll-Tree}
use Rattle.cfg_types.specs.declared.trees.Then.TheFolds.{ind-Tree, fold-Then, fold-TreeBody, fold-Entry, fold-KeyThen, fold-roll-Then, fold-roll-TreeBody, fold-roll-Entry, fold-roll-KeyThen, fold-roll-Tree, map-Then, map-TreeBody, map-Tree}

-- an outcome stands among n routes
abbrev Within : ℕ → Option Span → Type 0
Within n o = IfSome o (λ s. s.0 + s.1 ≤ n)

-- the routes of an outcome
abbrev of_run : Run → Option Span → Led
of_run rs o = option_map (λ s. take s.1 (drop s.0 rs)) o

-- a place has as many routes as the run, its outcome stands among them, and these are the routes that are led to
pub record Agrees (p : Place) (rs : Run) (l : Led) : Type 0 where
  pub size : p.size ≡ length rs
  pub outcome : Within (length rs) p.outcome
  pub led : l ≡ of_run rs p.outcome

pub record AgreesWays (w : Ways) (rs : Run) (l : Option Led) : Type 0 where
  pub size : w.size ≡ length rs
  pub taken : IfSome w.taken (Within (length rs))
  pub led : l ≡ option_map (of_run rs) w.taken

-- ---- runs put together

within-behind : (n m : ℕ) (o : Option Span) → Within n o → Within (m + n) (behind m o)
within-behind n m None h = tt
within-behind n m (Some s) h = omega arith

within-more : (n m : ℕ) (o : Option Span) → n ≤ m → Within n o → Within m o
within-more n m None l h = tt
within-more n m (Some s) l h = omega arith

take_whole : (rs : Run) → take (length rs) rs ≡ rs
take_whole [] = refl
take_whole (r ∷ rs) = ap (λ t. r ∷ t) (take_whole rs)

-- a part of the first run, and a part of what stands behind it
take-front : (rs ss : Run) (n : ℕ) → n ≤ length rs → take n (rs ++ ss) ≡ take n rs
take-front rs ss zero h = refl
take-front [] ss (suc n) h = absurd (omega arith)
take-front (r ∷ rs) ss (suc n) h = ap (λ t. r ∷ t) (take-front rs ss n (omega arith))

part-front : (rs ss : Run) (a n : ℕ) → a + n ≤ length rs → take n (drop a (rs ++ ss)) ≡ take n (drop a rs)
part-front rs ss zero n h = take-front rs ss n (omega arith)
part-front [] ss (suc a) n h = absurd (omega arith)
part-front (r ∷ rs) ss (suc a) n h = part-front rs ss a n (omega arith)

drop-behind : (rs ss : Run) (a : ℕ) → drop (length rs + a) (rs ++ ss) ≡ drop a ss
drop-behind [] ss a = ap (λ n. drop n ss) (omega arith)
drop-behind (r ∷ rs) ss a = rw suc-add (drop-behind rs ss a)

run-front : (rs ss : Run) (o : Option Span) → Within (length rs) o → of_run rs o ≡ of_run (rs ++ ss) o
run-front rs ss None h = refl
run-front rs ss (Some s) h = ap Some (sym (part-front rs ss s.0 s.1 h))

run-behind : (rs ss : Run) (n : ℕ) (o : Option Span) → n ≡ length rs → of_run ss o ≡ of_run (rs ++ ss) (behind n o)
run-behind rs ss n None e = refl
run-behind rs ss n (Some s) e = rw e (ap (λ t. Some (take s.1 t)) (sym (drop-behind rs ss s.0)))

-- ---- the ways of a list, the runs that stand there, and what they lead to, one by one

abbrev AgreeEach : List Way → List Run → List (Bool × Led) → Type 0
AgreeEach [] [] [] = Unit {0}
AgreeEach (w ∷ ws) (r ∷ rs) (l ∷ ls) = (w.0 ≡ l.0) × (Agrees w.1 r l.1) × AgreeEach ws rs ls
AgreeEach ws rs ls = ⊥

-- what is taken of the rest, behind one more way
taken-behind : (n m : ℕ) (o : Option (Option Span)) → IfSome o (Within n) → IfSome (option_map (behind m) o) (Within (m + n))
taken-behind n m None h = tt
taken-behind n m (Some o) h = within-behind n m o h

led-behind : (rs ss : Run) (n : ℕ) (o : Option (Option Span)) → n ≡ length rs → option_map (of_run ss) o ≡ option_map (of_run (rs ++ ss)) (option_map (behind n) o)
led-behind rs ss n None e = refl
led-behind rs ss n (Some o) e = ap Some (run-behind rs ss n o e)

taken-first : (b : Bool) (w : Place) (r rest : Run) (l : Led) (o : Option (Option Span)) → Agrees w r l → IfSome o (Within (length rest)) →
    IfSome (if b then Some w.outcome else option_map (behind w.size) o) (Within (length (r ++ rest)))
taken-first true w r rest l o h k = within-more (length r) (length (r ++ rest)) w.outcome (omega (arith, length-append r rest)) h.outcome
taken-first false w r rest l o h k =
    let e = h.size in
    let f : length (r ++ rest) ≡ w.size + length rest = omega (arith, length-append r rest) in
    subst (λ n. IfSome (option_map (behind w.size) o) (Within n)) (sym f) (taken-behind (length rest) w.size o k)

led-first : (b c : Bool) (w : Place) (r rest : Run) (l : Led) (ls : List (Bool × Led)) (o : Option (Option Span)) → b ≡ c → Agrees w r l →
    first_led ls ≡ option_map (of_run rest) o →
    first_led ((c, l) ∷ ls) ≡ option_map (of_run (r ++ rest)) (if b then Some w.outcome else option_map (behind w.size) o)
led-first true true w r rest l ls o e h k = ap Some (h.led ∙ run-front r rest w.outcome h.outcome)
led-first false false w r rest l ls o e h k = k ∙ led-behind r rest w.size o h.size
led-first true false w r rest l ls o e h k = absurd (cc)
led-first false true w r rest l ls o e h k = absurd (cc)

ways_agree : (ws : List Way) (rs : List Run) (ls : List (Bool × Led)) → AgreeEach ws rs ls → AgreesWays (ways ws) (joined rs) (first_led ls)
ways_agree [] [] [] h = record { size = refl; taken = tt; led = refl }
ways_agree (w ∷ ws) (r ∷ rs) (l ∷ ls) h =
    let k = ways_agree ws rs ls h.2 in
    let e = h.1.size in
    let f = k.size in
    record {
      size = omega (arith, sum_by-cons (λ w. w.1.size) w ws, length-append r (joined rs));
      taken = taken-first w.0 w.1 r (joined rs) l.1 (first_taken ws) h.1 k.taken;
      led = led-first w.0 l.0 w.1 r (joined rs) l.1 ls (first_taken ws) h.0 h.1 k.led;
    }
ways_agree [] [] (l ∷ ls) h = absurd h
ways_agree [] (r ∷ rs) ls h = absurd h
ways_agree (w ∷ ws) [] ls h = absurd h
ways_agree (w ∷ ws) (r ∷ rs) [] h = absurd h

-- ---- the entries and what is left

left-none : (t : Option (Option Span)) (r : Run) (l : Option Led) → IfSome t (Within (length r)) → l ≡ option_map (of_run r) t →
    Within (length (r ++ [])) (taken_or t (length r) None) × (led_or l None ≡ of_run (r ++ []) (taken_or t (length r) None))
left-none None r l h k = (tt, rw k refl)
left-none (Some o) r l h k = (within-more (length r) (length (r ++ [])) o (omega (arith, length-append r [])) h, rw k (run-front r [] o h))

left-some : (t : Option (Option Span)) (r rest : Run) (p : Place) (l : Option Led) (m : Led) → IfSome t (Within (length r)) → l ≡ option_map (of_run r) t → Agrees p rest m →
    Within (length (r ++ rest)) (taken_or t (length r) (Some p)) × (led_or l (Some m) ≡ of_run (r ++ rest) (taken_or t (length r) (Some p)))
left-some None r rest p l m h k a = (
  subst (λ n. Within n (behind (length r) p.outcome)) (sym (length-append r rest)) (within-behind (length rest) (length r) p.outcome a.outcome),
  rw k (a.led ∙ run-behind r rest (length r) p.outcome refl),
)
left-some (Some o) r rest p l m h k a =
    (within-more (length r) (length (r ++ rest)) o (omega (arith, length-append r rest)) h, rw k (run-front r rest o h))

module _ (q : Asked) where
  abbrev led_then : Then → Led
  led_then = fold-Then Led (Option Led) (Bool × Led) (Bytes × Led) Led then_led (body_led q) (entry_led q) key_led tree_led

  abbrev led_body : TreeBody → Option Led
  led_body = fold-TreeBody Led (Option Led) (Bool × Led) (Bytes × Led) Led then_led (body_led q) (entry_led q) key_led tree_led

  abbrev led_entry : Entry → Bool × Led
  led_entry = fold-Entry Led (Option Led) (Bool × Led) (Bytes × Led) Led then_led (body_led q) (entry_led q) key_led tree_led

  abbrev led_key : KeyThen → Bytes × Led
  led_key = fold-KeyThen Led (Option Led) (Bool × Led) (Bytes × Led) Led then_led (body_led q) (entry_led q) key_led tree_led

  abbrev OfThen : Then → Type 0
  OfThen t = Agrees (then_place q t) (then_routes t) (led_then t)

  abbrev OfBody : TreeBody → Type 0
  OfBody b = AgreesWays (body_ways q b) (branch_routes b) (led_body b)

  pub record OfEntry (e : Entry) : Type 0 where
    pub test : (entry_way q e).0 ≡ (led_entry e).0
    pub agrees : Agrees (entry_way q e).1 (entry_routes e) (led_entry e).1

  pub record OfKey (k : KeyThen) : Type 0 where
    pub key : (key_way q k).0 ≡ (led_key k).0
    pub agrees : Agrees (key_way q k).1 (key_routes k) (led_key k).1

  abbrev OfTree : Tree → Type 0
  OfTree t = Agrees (tree_place q t) (tree_routes t) (routes_led_to q t)

  then_roll : (x : Then-F Then TreeBody Entry KeyThen Tree) →
      Agrees (then_step (map-Then Then TreeBody Entry KeyThen Tree Place Ways Way Keyed Place (then_place q) (body_ways q) (entry_way q) (key_way q) (tree_place q) x))
      (then_run (map-Then Then TreeBody Entry KeyThen Tree Run Run Run Run Run then_routes branch_routes entry_routes key_routes tree_routes x))
      (then_led (map-Then Then TreeBody Entry KeyThen Tree Led (Option Led) (Bool × Led) (Bytes × Led) Led led_then led_body led_entry led_key (routes_led_to q) x)) →
      OfThen (roll-Then x)
  then_roll x h =
      rw (
        fold-roll-Then Place Ways Way Keyed Place then_step (body_step q) (entry_step q) key_step tree_step x,
        fold-roll-Then Run Run Run Run Run then_run body_run entry_run key_run tree_run x,
        fold-roll-Then Led (Option Led) (Bool × Led) (Bytes × Led) Led then_led (body_led q) (entry_led q) key_led tree_led x,
      ) h

  then_case : (y : Then-F ((t : Then) × OfThen t) ((b : TreeBody) × OfBody b) ((e : Entry) × OfEntry e) ((k : KeyThen) × OfKey k) ((t : Tree) × OfTree t)) →
      OfThen (roll-Then (map-Then ((t : Then) × OfThen t) ((b : TreeBody) × OfBody b) ((e : Entry) × OfEntry e) ((k : KeyThen) × OfKey k) ((t : Tree) × OfTree t) Then TreeBody Entry KeyThen Tree (λ e. e.0) (λ e. e.0) (λ e. e.0) (λ e. e.0) (λ e. e.0) y))
  then_case (Inner t) = then_roll (Inner t.0) t.1
  then_case (Routes rs) = then_roll (Routes rs) (record { size = refl; outcome = omega arith; led = ap Some (sym (take_whole rs)) })

  -- ---- entries and maps

  entries_agree : (es : List ((e : Entry) × OfEntry e)) → AgreeEach (map (entry_way q) (map (λ e. e.0) es)) (map entry_routes (map (λ e. e.0) es)) (map led_entry (map (λ e. e.0) es))
  entries_agree [] = tt
  entries_agree (e ∷ es) = (e.1.test, e.1.agrees, entries_agree es)

  abbrev ways_of : List ((k : KeyThen) × OfKey k) → List Keyed
  ways_of ks = map (key_way q) (map (λ k. k.0) ks)

  abbrev leds_of : List ((k : KeyThen) × OfKey k) → List (Bytes × Led)
  leds_of ks = map led_key (map (λ k. k.0) ks)

  -- the keys are the same, whatever is behind them
  same_any : (p : Bytes → Bool) (ks : List ((k : KeyThen) × OfKey k)) → list_any (λ k. p k.0) (ways_of ks) ≡ list_any (λ k. p k.0) (leds_of ks)
  same_any p [] = refl
  same_any p (k ∷ ks) = rw (k.1.key, same_any p ks) refl

  same_longest : (t : Option Bytes) (ks : List ((k : KeyThen) × OfKey k)) (key : Bytes) → longest_key t (ways_of ks) key ≡ longest_key t (leds_of ks) key
  same_longest t ks key = ap (λ b. prefix_key t key && not b) (same_any (λ k. prefix_key t k && nat_lt (length key) (length k)) ks)

  keys_agree : (p r : Bytes → Bool) → ((key : Bytes) → p key ≡ r key) → (ks : List ((k : KeyThen) × OfKey k)) →
      AgreeEach (map (λ k. (p k.0, k.1)) (ways_of ks)) (map key_routes (map (λ k. k.0) ks)) (map (λ k. (r k.0, k.1)) (leds_of ks))
  keys_agree p r e [] = tt
  keys_agree p r e (k ∷ ks) = (ap p k.1.key ∙ e (led_key k.0).0, k.1.agrees, keys_agree p r e ks)

  body_roll : (x : TreeBody-F Then TreeBody Entry KeyThen Tree) →
      AgreesWays (body_step q (map-TreeBody Then TreeBody Entry KeyThen Tree Place Ways Way Keyed Place (then_place q) (body_ways q) (entry_way q) (key_way q) (tree_place q) x))
      (body_run (map-TreeBody Then TreeBody Entry KeyThen Tree Run Run Run Run Run then_routes branch_routes entry_routes key_routes tree_routes x))
      (body_led q (map-TreeBody Then TreeBody Entry KeyThen Tree Led (Option Led) (Bool × Led) (Bytes × Led) Led led_then led_body led_entry led_key (routes_led_to q) x)) →
      OfBody (roll-TreeBody x)
  body_roll x h =
      rw (
        fold-roll-TreeBody Place Ways Way Keyed Place then_step (body_step q) (entry_step q) key_step tree_step x,
        fold-roll-TreeBody Run Run Run Run Run then_run body_run entry_run key_run tree_run x,
        fold-roll-TreeBody Led (Option Led) (Bool × Led) (Bytes × Led) Led then_led (body_led q) (entry_led q) key_led tree_led x,
      ) h

  body_case : (y : TreeBody-F ((t : Then) × OfThen t) ((b : TreeBody) × OfBody b) ((e : Entry) × OfEntry e) ((k : KeyThen) × OfKey k) ((t : Tree) × OfTree t)) →
      OfBody (roll-TreeBody (map-TreeBody ((t : Then) × OfThen t) ((b : TreeBody) × OfBody b) ((e : Entry) × OfEntry e) ((k : KeyThen) × OfKey k) ((t : Tree) × OfTree t) Then TreeBody Entry KeyThen Tree (λ e. e.0) (λ e. e.0) (λ e. e.0) (λ e. e.0) (λ e. e.0) y))
  body_case Bare = body_roll Bare (record { size = refl; taken = tt; led = refl })
  body_case (Entries es) = body_roll (Entries (map (λ e. e.0) es)) (ways_agree _ _ _ (entries_agree es))
  body_case (Exact i ks) =
      body_roll (Exact i (map (λ k. k.0) ks)) (ways_agree _ _ _ (keys_agree (equal_key (input_of i q)) (equal_key (input_of i q)) (λ key. refl) ks))
  body_case (Prefix i ks) =
      body_roll (Prefix i (map (λ k. k.0) ks))
      (ways_agree _ _ _ (keys_agree (longest_key (input_of i q) (ways_of ks)) (longest_key (input_of i q) (leds_of ks)) (same_longest (input_of i q) ks) ks))

  entry_case : (test : Predicate) (t : Then) → OfThen t → OfEntry (roll-Entry (record { test = test; next = t }))
  entry_case test t h = record {
    test = rw (entry_ways test t, entry_leds test t) refl;
    agrees = rw (entry_ways test t, entry_leds test t, fold-roll-Entry Run Run Run Run Run then_run body_run entry_run key_run tree_run (record { test = test; next = t })) h;
  }
    where
      entry_ways : (test : Predicate) (t : Then) → entry_way q (roll-Entry (record { test = test; next = t })) ≡ (predicate_holds q test, then_place q t)
      entry_ways test t = fold-roll-Entry Place Ways Way Keyed Place then_step (body_step q) (entry_step q) key_step tree_step (record { test = test; next = t })

      entry_leds : (test : Predicate) (t : Then) → led_entry (roll-Entry (record { test = test; next = t })) ≡ (predicate_holds q test, led_then t)
      entry_leds test t = fold-roll-Entry Led (Option Led) (Bool × Led) (Bytes × Led) Led then_led (body_led q) (entry_led q) key_led tree_led (record { test = test; next = t })

  key_case : (key : Bytes) (t : Then) → OfThen t → OfKey (roll-KeyThen (record { key = key; next = t }))
  key_case key t h = record {
    key = rw (key_ways key t, key_leds key t) refl;
    agrees = rw (key_ways key t, key_leds key t, fold-roll-KeyThen Run Run Run Run Run then_run body_run entry_run key_run tree_run (record { key = key; next = t })) h;
  }
    where
      key_ways : (key : Bytes) (t : Then) → key_way q (roll-KeyThen (record { key = key; next = t })) ≡ (key, then_place q t)
      key_ways key t = fold-roll-KeyThen Place Ways Way Keyed Place then_step (body_step q) (entry_step q) key_step tree_step (record { key = key; next = t })

      key_leds : (key : Bytes) (t : Then) → led_key (roll-KeyThen (record { key = key; next = t })) ≡ (key, led_then t)
      key_leds key t = fold-roll-KeyThen Led (Option Led) (Bool × Led) (Bytes × Led) Led then_led (body_led q) (entry_led q) key_led tree_led (record { key = key; next = t })

  tree_roll : (x : Tree-F Then TreeBody Entry KeyThen Tree) →
      Agrees (tree_step (map-Tree Then TreeBody Entry KeyThen Tree Place Ways Way Keyed Place (then_place q) (body_ways q) (entry_way q) (key_way q) (tree_place q) x))
      (tree_run (map-Tree Then TreeBody Entry KeyThen Tree Run Run Run Run Run then_routes branch_routes entry_routes key_routes tree_routes x))
      (tree_led (map-Tree Then TreeBody Entry KeyThen Tree Led (Option Led) (Bool × Led) (Bytes × Led) Led led_then led_body led_entry led_key (routes_led_to q) x)) →
      OfTree (roll-Tree x)
  tree_roll x h =
      rw (
        fold-roll-Tree Place Ways Way Keyed Place then_step (body_step q) (entry_step q) key_step tree_step x,
        fold-roll-Tree Run Run Run Run Run then_run body_run entry_run key_run tree_run x,
        fold-roll-Tree Led (Option Led) (Bool × Led) (Bytes × Led) Led then_led (body_led q) (entry_led q) key_led tree_led x,
      ) h

  tree_case : (b : (b : TreeBody) × OfBody b) (o : Option ((t : Then) × OfThen t)) →
      OfTree (roll-Tree (map-Tree ((t : Then) × OfThen t) ((b : TreeBody) × OfBody b) ((e : Entry) × OfEntry e) ((k : KeyThen) × OfKey k) ((t : Tree) × OfTree t) Then TreeBody Entry KeyThen Tree (λ e. e.0) (λ e. e.0) (λ e. e.0) (λ e. e.0) (λ e. e.0) (record { body = b; otherwise = o })))
  tree_case b None =
      let e = b.1.size in
      let p = left-none (body_ways q b.0).taken (branch_routes b.0) (led_body b.0) b.1.taken b.1.led in
      tree_roll (record { body = b.0; otherwise = None }) (record {
        size = omega (arith, length-append (branch_routes b.0) []);
        outcome = subst (λ n. Within (length (branch_routes b.0 ++ [])) (taken_or (body_ways q b.0).taken n None)) (sym e) p.0;
        led = subst (λ n. led_or (led_body b.0) None ≡ of_run (branch_routes b.0 ++ []) (taken_or (body_ways q b.0).taken n None)) (sym e) p.1;
      })
  tree_case b (Some t) =
      let e = b.1.size in
      let f = t.1.size in
      let p = left-some (body_ways q b.0).taken (branch_routes b.0) (then_routes t.0) (then_place q t.0) (led_body b.0) (led_then t.0) b.1.taken b.1.led t.1 in
      tree_roll (record { body = b.0; otherwise = Some t.0 }) (record {
        size = omega (arith, length-append (branch_routes b.0) (then_routes t.0));
        outcome = subst (λ n. Within (length (branch_routes b.0 ++ then_routes t.0)) (taken_or (body_ways q b.0).taken n (Some (then_place q t.0)))) (sym e) p.0;
        led = subst (λ n. led_or (led_body b.0) (Some (led_then t.0)) ≡ of_run (branch_routes b.0 ++ then_routes t.0) (taken_or (body_ways q b.0).taken n (Some (then_place q t.0)))) (sym e) p.1;
      })

  tree_agrees : (t : Tree) → OfTree t
  tree_agrees = ind-Tree OfThen OfBody OfEntry OfKey OfTree
      (λ x y is. subst (λ z. OfThen (roll-Then z)) is (then_case y))
      (λ x y is. subst (λ z. OfBody (roll-TreeBody z)) is (body_case y))
      (λ x y is. subst (λ z. OfEntry (roll-Entry z)) is (entry_case y.test y.next.0 y.next.1))
      (λ x y is. subst (λ z. OfKey (roll-KeyThen z)) is (key_case y.key y.next.0 y.next.1))
      (λ x y is. subst (λ z. OfTree (roll-Tree z)) is (tree_case y.body y.otherwise))

pub outcome_stands : TreeLaw
outcome_stands q t = let a = tree_agrees q t in record { within = a.outcome; same = a.led }
