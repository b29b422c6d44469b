-- What is built of each part of a tree.
use Rattle.std.proofs.Common.{rules, ◌≡◌, ℕ, ◌+◌, ◌<◌, List, [], ◌∷◌, ◌++◌, Option, Some, None, map, length, get_or, take, take_all, slice_get, refl, ap, sym, ◌∙◌, subst, arith, ◌≤◌, zero, suc}
use Rattle.std.specs.Prelude.{option_map}
use Rattle.std.specs.List.{position_or_len}
use Rattle.std.proofs.lemmas.List.{map-append}
use Rattle.text_base.specs.Asked.{Bytes, Asked}
use Rattle.cfg_types.specs.Trees.{Span, Place, behind, size_or, taken_or as taken_of, input_of, predicate_holds, equal_key, tree_place, then_place, body_ways, entry_way, key_way}
use Rattle.cfg_types.specs.declared.routes.Route.{Route}
use Rattle.cfg_types.specs.declared.trees.InputRule.{InputRule}
use Rattle.cfg_types.specs.declared.trees.Tree.{Tree}
use Rattle.cfg_types.specs.declared.trees.Then.{Then, Inner, Routes}
use Rattle.cfg_types.specs.declared.trees.TreeBody.{TreeBody, Bare, List as Entries, Exact, Prefix}
use Rattle.cfg_types.specs.declared.trees.Entry.{Entry}
use Rattle.cfg_types.specs.declared.trees.KeyThen.{KeyThen}
use Rattle.match_tree.specs.KeyOrder.{keys_of, is_longest}
use Rattle.match_tree.specs.Checks.{check_holds}
use Rattle.match_tree.specs.Selected.{selected}
use Rattle.match_tree.specs.Outcomes.{matcher_outcome, step_outcome, taken_or}
use Rattle.match_tree.specs.Builds.{spans_from, sizes, rest_size, step_span, IsOfThen, AreOfPlaces, IsOfBody, IsOfRest, IsOfTree}
use Rattle.match_tree.specs.declared.check.Check.{Check}
use Rattle.match_tree.specs.declared.selector.Selector.TheVariants as selector
use Rattle.match_tree.specs.declared.tree.Matcher.{Matcher}
use Rattle.match_tree.specs.declared.tree.Step.{Step, Inner as Nested, Act}
use Rattle.match_tree.specs.declared.tree.Step.TheFolds.{the_lemmas}
use Rattle.match_tree.proofs.Bodies.{then-Inner, then-Routes, tree-is, list_size, list_taken, exact_size, exact_taken, prefix_size, prefix_taken, bare_taken, bare_size, position_mapped, place_more, sizes_more, spans_more}
use Rattle.match_tree.proofs.Taken.{matcher_outcome-is}

get_mapped_twice : {A B C : Type 0} (f : B → C) (g : A → B) (xs : List A) (n : ℕ) → slice_get (map (λ x. f (g x)) xs) n ≡ option_map f (slice_get (map g xs) n)
get_mapped_twice f g [] n = refl
get_mapped_twice f g (x ∷ xs) zero = refl
get_mapped_twice f g (x ∷ xs) (suc n) = get_mapped_twice f g xs n

module _ {I A : Type 0} (sees : I → Asked → Option Bytes) (span : A → Span) where
  pub nothing_built : (places : Asked → List Place) (first : ℕ) → ((q : Asked) → places q ≡ []) → AreOfPlaces sees span places first first []
  nothing_built places first e = record { size = λ q. rw (e q) (omega arith); outcomes = λ q. rw (e q) refl }

  -- one more step behind those of the first i entries
  pub one_more_step : {X : Type 0} (part : X → Then) (place : Asked → X → Place) → ((q : Asked) (x : X) → place q x ≡ then_place q (part x)) →
      (xs : List X) (i : ℕ) (x : X) (first next after : ℕ) (ss more : List (Step I A)) (s : Step I A) → i < length xs → x ≡ get_or xs i x →
      AreOfPlaces sees span (λ q. map (place q) (take i xs)) first next ss → IsOfThen sees span (part x) next after s → more ≡ ss ++ s ∷ [] →
      AreOfPlaces sees span (λ q. map (place q) (take (i + 1) xs)) first after more
  one_more_step part place same xs i x first next after ss more s lt is a b e = record {
    size = λ q.
        let m = sizes_more _ _ (place q x) (place_more (place q) xs i x lt is) in
        let n = a.size q in
        let k = b.size q in
        let p = ap (λ y. y.size) (same q x) in
        omega (arith, m, n, k, p);
    outcomes = λ q.
        ap (map (step_span sees span q)) e
        ∙ map-append (step_span sees span q) ss (s ∷ [])
        ∙ ap (λ l. l ++ step_span sees span q s ∷ []) (a.outcomes q)
        ∙ ap (λ o. spans_from first (map (place q) (take i xs)) ++ o ∷ []) (b.outcome q ∙ ap (λ p. behind next p.outcome) (sym (same q x)))
        ∙ sym (spans_more first _ _ (place q x) next (place_more (place q) xs i x lt is) (a.size q));
  }

  pub all_steps : {X : Type 0} (place : Asked → X → Place) (xs : List X) (i first next : ℕ) (ss : List (Step I A)) → length xs ≤ i →
      AreOfPlaces sees span (λ q. map (place q) (take i xs)) first next ss → AreOfPlaces sees span (λ q. map (place q) xs) first next ss
  all_steps place xs i first next ss l a = subst (λ ys. AreOfPlaces sees span (λ q. map (place q) ys) first next ss) (take_all i xs l) a

  pub of_list : (b : TreeBody) (es ts us : List Entry) (first next : ℕ) (cs : List (Check I)) (ss : List (Step I A)) → b ≡ Entries es → ts ≡ es → us ≡ es →
      ((q : Asked) → map (check_holds sees q) cs ≡ map (λ e. predicate_holds q e.test) ts) → AreOfPlaces sees span (λ q. map (λ e. (entry_way q e).1) us) first next ss →
      IsOfBody sees span b first next (selector.List cs) ss
  of_list b es ts us first next cs ss e t u checks a = record {
    size = λ q. a.size q ∙ ap (λ n. first + n) (ap (λ l. sizes (map (λ x. (entry_way q x).1) l)) u ∙ list_size q es ∙ ap (λ y. (body_ways q y).size) (sym e));
    taken = λ q.
        ap (λ l. slice_get l (position_or_len (check_holds sees q) cs)) (a.outcomes q ∙ ap (λ l. spans_from first (map (λ x. (entry_way q x).1) l)) u)
        ∙ ap (slice_get (spans_from first (map (λ x. (entry_way q x).1) es))) (position_mapped (check_holds sees q) cs)
        ∙ list_taken q es first (map (check_holds sees q) cs) (checks q ∙ ap (map (λ x. predicate_holds q x.test)) t)
        ∙ ap (λ y. option_map (behind first) (body_ways q y).taken) (sym e);
  }

  pub of_exact : (b : TreeBody) (r : InputRule) (ks us : List KeyThen) (first next : ℕ) (i : I) (keys : List Bytes) (ss : List (Step I A)) → b ≡ Exact r ks → us ≡ ks →
      ((q : Asked) → sees i q ≡ input_of r q) → keys ≡ keys_of us → AreOfPlaces sees span (λ q. map (λ k. (key_way q k).1) us) first next ss →
      IsOfBody sees span b first next (selector.Exact i keys) ss
  of_exact b r ks us first next i keys ss e u s k a = record {
    size = λ q. a.size q ∙ ap (λ n. first + n) (ap (λ l. sizes (map (λ x. (key_way q x).1) l)) u ∙ exact_size q r ks ∙ ap (λ y. (body_ways q y).size) (sym e));
    taken = λ q.
        ap (λ l. slice_get l (position_or_len (equal_key (sees i q)) keys)) (a.outcomes q ∙ ap (λ l. spans_from first (map (λ x. (key_way q x).1) l)) u)
        ∙ exact_taken q r ks first (sees i q) keys (s q) (k ∙ ap keys_of u)
        ∙ ap (λ y. option_map (behind first) (body_ways q y).taken) (sym e);
  }

  pub of_prefix : (b : TreeBody) (r : InputRule) (ks us : List KeyThen) (first next : ℕ) (i : I) (keys : List Bytes) (ss : List (Step I A)) → b ≡ Prefix r ks → us ≡ ks →
      ((q : Asked) → sees i q ≡ input_of r q) → keys ≡ keys_of us → AreOfPlaces sees span (λ q. map (λ k. (key_way q k).1) us) first next ss →
      IsOfBody sees span b first next (selector.Prefix i keys) ss
  of_prefix b r ks us first next i keys ss e u s k a = record {
    size = λ q. a.size q ∙ ap (λ n. first + n) (ap (λ l. sizes (map (λ x. (key_way q x).1) l)) u ∙ prefix_size q r ks ∙ ap (λ y. (body_ways q y).size) (sym e));
    taken = λ q.
        ap (λ l. slice_get l (position_or_len (is_longest (sees i q) keys) keys)) (a.outcomes q ∙ ap (λ l. spans_from first (map (λ x. (key_way q x).1) l)) u)
        ∙ prefix_taken q r ks first (sees i q) keys (s q) (k ∙ ap keys_of u)
        ∙ ap (λ y. option_map (behind first) (body_ways q y).taken) (sym e);
  }

  pub of_bare : (b : TreeBody) (first : ℕ) (cs : List (Check I)) (ss : List (Step I A)) → b ≡ Bare → ss ≡ [] → IsOfBody sees span b first first (selector.List cs) ss
  of_bare b first cs ss e n = record {
    size = λ q. (let s = bare_size q in let z : (body_ways q b).size ≡ (body_ways q Bare).size = ap (λ y. (body_ways q y).size) e in omega (arith, s, z));
    taken = λ q. rw (e, n) (bare_taken q first);
  }

  pub of_some : (o : Option Then) (then : Then) (first next : ℕ) (s : Step I A) → o ≡ Some then → IsOfThen sees span then first next s → IsOfRest sees span o first next (Some s)
  of_some o then first next s e a = record { size = λ q. rw e (a.size q); outcome = λ q. rw e (ap Some (a.outcome q)) }

  pub of_inner : (t : Then) (tree ts : Tree) (first next : ℕ) (m n : Matcher I A) → t ≡ Inner tree → ts ≡ tree → n ≡ m → IsOfTree sees span ts first next m → IsOfThen sees span t first next (Nested n)
  of_inner t tree ts first next m n e s k a = record {
    size = λ q. a.size q ∙ ap (λ p. first + p.size) (ap (tree_place q) s ∙ sym (then-Inner q tree) ∙ ap (then_place q) (sym e));
    outcome = λ q.
        let nested : step_outcome sees q (Nested n) ≡ matcher_outcome sees q n = first_of (search (rules, the_lemmas), grind (arith, the_lemmas)) in
        ap (option_map span) (nested ∙ ap (matcher_outcome sees q) k) ∙ a.outcome q ∙ ap (λ p. behind first p.outcome) (ap (tree_place q) s ∙ sym (then-Inner q tree) ∙ ap (then_place q) (sym e));
  }

  pub of_routes : (t : Then) (rs us : List Route) (first next many : ℕ) (a : A) → t ≡ Routes rs → us ≡ rs → many ≡ length us → next ≡ first + many → span a ≡ (first, many) → IsOfThen sees span t first next (Act a)
  of_routes t rs us first next many a e u m n s = record {
    size = λ q. (let p = ap (λ x. x.size) (ap (then_place q) e ∙ then-Routes q rs) in let l = ap length u in omega (arith, p, l, m, n));
    outcome = λ q.
        let acts : step_outcome sees q (Act a) ≡ Some a = first_of (search (rules, the_lemmas), grind (arith, the_lemmas)) in
        let count : many ≡ length rs = m ∙ ap length u in
        let start : first ≡ first + 0 = omega arith in
        ap (option_map span) acts ∙ ap Some (s ∙ ap (λ k. (first, k)) count ∙ ap (λ k. (k, length rs)) start) ∙ ap (λ p. behind first p.outcome) (sym (ap (then_place q) e ∙ then-Routes q rs));
  }

  -- ---- the whole

  taken_mapped : (o : Option (Option A)) (left : Option (Option A)) (p : Option (Option Span)) (place : Option Place) (first next size : ℕ) → option_map (option_map span) o ≡ option_map (behind first) p →
      option_map (option_map span) left ≡ option_map (λ x. behind next x.outcome) place → next ≡ first + size → option_map span (taken_or o left) ≡ behind first (taken_of p size place)
  taken_mapped (Some o) left (Some p) place first next size e f n = cc e
  taken_mapped (Some o) left None place first next size e f n = absurd (cc e)
  taken_mapped None left (Some p) place first next size e f n = absurd (cc e)
  taken_mapped None None None None first next size e f n = refl
  taken_mapped None (Some l) None None first next size e f n = absurd (cc f)
  taken_mapped None None None (Some x) first next size e f n = absurd (cc f)
  taken_mapped None (Some l) None (Some x) first next size e f n = cc f ∙ ap (λ k. behind k x.outcome) n ∙ sym (twice first size x.outcome)
    where
      twice : (a b : ℕ) (o : Option Span) → behind a (behind b o) ≡ behind (a + b) o
      twice a b None = refl
      twice a b (Some s) = let e : a + (b + s.0) ≡ a + b + s.0 = omega arith in ap (λ n. Some (n, s.1)) e

  rest-size : (q : Asked) (o : Option Then) → rest_size q o ≡ size_or (option_map (then_place q) o)
  rest-size q None = refl
  rest-size q (Some t) = refl

  left_outcome : (q : Asked) (l : Option (Step I A)) → option_map (step_span sees span q) l ≡ option_map (option_map span) (option_map (step_outcome sees q) l)
  left_outcome q None = refl
  left_outcome q (Some s) = refl

  left_place : (q : Asked) (next : ℕ) (o : Option Then) → option_map (λ t. behind next (then_place q t).outcome) o ≡ option_map (λ x. behind next x.outcome) (option_map (then_place q) o)
  left_place q next None = refl
  left_place q next (Some t) = refl

  pub of_whole : (t : Tree) (first next after : ℕ) (m : Matcher I A) → IsOfBody sees span t.body first next m.selector m.steps → IsOfRest sees span t.otherwise next after m.otherwise → IsOfTree sees span t first after m
  of_whole t first next after m b r = record {
    size = λ q. (let n = b.size q in let a = r.size q in let s = rest-size q t.otherwise in let p = ap (λ x. x.size) (tree-is q t) in omega (arith, n, a, s, p));
    outcome = λ q.
        ap (option_map span) (matcher_outcome-is sees q m)
        ∙ taken_mapped (slice_get (map (step_outcome sees q) m.steps) (selected sees q m.selector)) (option_map (step_outcome sees q) m.otherwise) (body_ways q t.body).taken (option_map (then_place q) t.otherwise)
        first next (body_ways q t.body).size
        (sym (get_mapped_twice (option_map span) (step_outcome sees q) m.steps (selected sees q m.selector)) ∙ b.taken q)
        (sym (left_outcome q m.otherwise) ∙ r.outcome q ∙ left_place q next t.otherwise)
        (b.size q)
        ∙ ap (λ p. behind first p.outcome) (sym (tree-is q t));
  }
