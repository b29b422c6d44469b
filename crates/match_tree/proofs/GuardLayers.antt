-- The first true guard of lists of guards that stand one after another, and of those that are asked where a condition is true.
use Rattle.std.proofs.Common.{◌≡◌, ℕ, ◌+◌, zero, suc, Bool, true, false, ◌&&◌, ◌||◌, if◌then◌else◌, List, [], ◌∷◌, ◌++◌, length, map, Option, Some, None, inl, inr, refl, sym, ap, ◌∙◌, arith}
use Rattle.std.specs.Prelude.{option_map, nat_lt}
use Rattle.std.specs.List.{list_all, list_any}
use Rattle.std.proofs.lemmas.Bool.{and_parts, le-ltb}
use Rattle.std.proofs.lemmas.List.Sums.{sum_by-cons}
use Rattle.text_base.specs.Asked.{Bytes}
use Rattle.goal_form.specs.Conditions.{condition_at}
use Rattle.goal_form.specs.Goals.{Shown}
use Rattle.goal_form.specs.declared.sight.Condition.{Condition}
use Rattle.goal_form.specs.declared.sight.Condition as of
use Rattle.goal_form.proofs.Meanings.{at_all}
use Rattle.cfg_types.specs.Choices.{first_accepted}
use Rattle.cfg_types.specs.Kinds.{longer_first, are_ordered}
use Rattle.cfg_types.specs.Trees.{Span, Place, Way, Ways, behind, first_taken, ways, prefix_key, longest_key, taken_or}
use Rattle.match_tree.specs.Guards.{Guard, Asking, nothing_asked, then_asked, asked_in_turn, asked_where, guards_where, route_guards}
use Rattle.match_tree.proofs.Bodies.{behind_behind}
use Rattle.match_tree.proofs.Orders.{length_step}
use Rattle.match_tree.specs.GuardLaws.{first_true, led_to, accepted_in}

-- ---- the first true one

-- the first answer, or else the second
abbrev pub or_behind : Option (Option ℕ) → Option (Option ℕ) → Option (Option ℕ)
or_behind None b = b
or_behind (Some r) b = Some r

module _ (q : Shown) where
  pub first_true-append : (gs hs : List Guard) → first_true q (gs ++ hs) ≡ or_behind (first_true q gs) (first_true q hs)
  first_true-append [] hs = refl
  first_true-append (g ∷ gs) hs = by (condition_at q g.0) (first_true-append gs hs)
    where
      by : (b : Bool) → first_true q (gs ++ hs) ≡ or_behind (first_true q gs) (first_true q hs) →
          (if b then Some g.1 else first_true q (gs ++ hs)) ≡ or_behind (if b then Some g.1 else first_true q gs) (first_true q hs)
      by true h = refl
      by false h = h

  -- the guard behind those of a condition, and one of them
  last_at : (c : Condition) (b : Bool) → condition_at q c ≡ b → condition_at q (of.All (c ∷ [])) ≡ b
  last_at c true e = at_all q (c ∷ []) ∙ rw e refl
  last_at c false e = at_all q (c ∷ []) ∙ rw e refl

  both_at : (c d : Condition) (b : Bool) → condition_at q c ≡ b → condition_at q (of.All (c ∷ d ∷ [])) ≡ (b && condition_at q d)
  both_at c d true e = at_all q (c ∷ d ∷ []) ∙ rw e (and-true (condition_at q d))
    where
      and-true : (x : Bool) → (x && true) ≡ x
      and-true true = refl
      and-true false = refl
  both_at c d false e = at_all q (c ∷ d ∷ []) ∙ rw e refl

  -- where the condition is true, its guards end the search
  true_where : (c : Condition) (gs : List Guard) → condition_at q c ≡ true → first_true q (guards_where c gs) ≡ Some (led_to (first_true q gs))
  true_where c [] e = rw (last_at c true e) refl
  true_where c (g ∷ gs) e = rw (both_at c g.0 true e) (by (condition_at q g.0) (true_where c gs e))
    where
      by : (b : Bool) → first_true q (guards_where c gs) ≡ Some (led_to (first_true q gs)) →
          (if b then Some g.1 else first_true q (guards_where c gs)) ≡ Some (led_to (if b then Some g.1 else first_true q gs))
      by true h = refl
      by false h = h

  -- where it is false, they are passed over
  false_where : (c : Condition) (gs : List Guard) → condition_at q c ≡ false → first_true q (guards_where c gs) ≡ None
  false_where c [] e = rw (last_at c false e) refl
  false_where c (g ∷ gs) e = rw (both_at c g.0 false e) (false_where c gs e)

  pub first_where : (c : Condition) (gs : List Guard) (b : Bool) → condition_at q c ≡ b → first_true q (guards_where c gs) ≡ (if b then Some (led_to (first_true q gs)) else None)
  first_where c gs true e = true_where c gs e
  first_where c gs false e = false_where c gs e

  -- ---- what a part of a tree asks, and where it leads

  module _ (rule : ℕ → Condition) where
    abbrev pub accepted : ℕ → Bool
    accepted r = condition_at q (rule r)

    pub first_of_routes : (first many : ℕ) → first_true q (route_guards rule first many) ≡ option_map Some (first_accepted accepted first many)
    first_of_routes first zero = refl
    first_of_routes first (suc many) = by (condition_at q (rule first)) (first_of_routes (first + 1) many)
      where
        by : (b : Bool) → first_true q (route_guards rule (first + 1) many) ≡ option_map Some (first_accepted accepted (first + 1) many) →
            (if b then Some (Some first) else first_true q (route_guards rule (first + 1) many)) ≡ option_map Some (if b then Some first else first_accepted accepted (first + 1) many)
        by true h = refl
        by false h = h

    -- the guards lead where the place does
    pub record Leads (a : Asking) (p : Place) : Type 0 where
      pub size : a.size ≡ p.size
      pub led : (first : ℕ) → led_to (first_true q (a.guards first)) ≡ accepted_in accepted (behind first p.outcome)

    -- a guard is true where the way may be taken
    pub record LeadsWay (a : Asking) (w : Way) : Type 0 where
      pub size : a.size ≡ w.1.size
      pub led : (first : ℕ) → first_true q (a.guards first) ≡ (if w.0 then Some (accepted_in accepted (behind first w.1.outcome)) else None)

    -- a guard is true where a way is taken
    pub record LeadsWays (a : Asking) (w : Ways) : Type 0 where
      pub size : a.size ≡ w.size
      pub led : (first : ℕ) → first_true q (a.guards first) ≡ option_map (λ o. accepted_in accepted (behind first o)) w.taken

    pub routes_lead : (many : ℕ) → Leads (record { size = many; guards = λ first. route_guards rule first many }) (record { size = many; outcome = Some (0, many) })
    routes_lead many = record {
      size = refl;
      led = λ first.
          ap led_to (first_of_routes first many) ∙ found (first_accepted accepted first many)
          ∙ ap (λ n. first_accepted accepted n many) (plus-zero first);
    }
      where
        found : (o : Option ℕ) → led_to (option_map Some o) ≡ o
        found None = refl
        found (Some r) = refl

        plus-zero : (n : ℕ) → n ≡ n + 0
        plus-zero n = omega arith

    pub where_leads : (c : Condition) (b : Bool) (a : Asking) (p : Place) → condition_at q c ≡ b → Leads a p → LeadsWay (asked_where c a) (b, p)
    where_leads c b a p e h = record { size = h.size; led = λ first. first_where c (a.guards first) b e ∙ ap (λ r. if b then Some r else None) (h.led first) }

    -- ---- one way after another

    abbrev pub LeadEach : List Asking → List Way → Type 0
    LeadEach [] [] = Unit {0}
    LeadEach [] (w ∷ ws) = ⊥
    LeadEach (a ∷ as_) [] = ⊥
    LeadEach (a ∷ as_) (w ∷ ws) = LeadsWay a w × LeadEach as_ ws

    led-behind : (first by : ℕ) (t : Option (Option Span)) →
        option_map (λ o. accepted_in accepted (behind (first + by) o)) t ≡ option_map (λ o. accepted_in accepted (behind first o)) (option_map (behind by) t)
    led-behind first by None = refl
    led-behind first by (Some o) = ap (λ x. Some (accepted_in accepted x)) (sym (behind_behind first by o))

    led-first : (b : Bool) (o : Option Span) (first by : ℕ) (t : Option (Option Span)) →
        or_behind (if b then Some (accepted_in accepted (behind first o)) else None) (option_map (λ o. accepted_in accepted (behind (first + by) o)) t)
        ≡ option_map (λ o. accepted_in accepted (behind first o)) (if b then Some o else option_map (behind by) t)
    led-first true o first by t = refl
    led-first false o first by t = led-behind first by t

    pub turns_lead : (as_ : List Asking) (ws : List Way) → LeadEach as_ ws → LeadsWays (asked_in_turn as_) (ways ws)
    turns_lead [] [] h = record { size = refl; led = λ first. refl }
    turns_lead (a ∷ as_) (w ∷ ws) h =
        let k = turns_lead as_ ws h.1 in
        let e = h.0.size in
        let f = k.size in
        record {
          size = omega (arith, sum_by-cons (λ w. w.1.size) w ws);
          led = λ first.
              first_true-append (a.guards first) ((asked_in_turn as_).guards (first + a.size))
              ∙ ap (λ x. or_behind x (first_true q ((asked_in_turn as_).guards (first + a.size)))) (h.0.led first)
              ∙ ap (or_behind (if w.0 then Some (accepted_in accepted (behind first w.1.outcome)) else None)) (k.led (first + a.size))
              ∙ led-first w.0 w.1.outcome first a.size (first_taken ws)
              ∙ ap (λ n. option_map (λ o. accepted_in accepted (behind first o)) (if w.0 then Some w.1.outcome else option_map (behind n) (first_taken ws))) e;
        }
    turns_lead [] (w ∷ ws) h = absurd h
    turns_lead (a ∷ as_) [] h = absurd h

    -- ---- what is left

    left-led : (first by : ℕ) (t : Option (Option Span)) (r : Option (Option ℕ)) (p : Option Place) →
        led_to r ≡ accepted_in accepted (behind (first + by) (taken_or None 0 p)) →
        led_to (or_behind (option_map (λ o. accepted_in accepted (behind first o)) t) r) ≡ accepted_in accepted (behind first (taken_or t by p))
    left-led first by (Some o) r p h = refl
    left-led first by None r None h = h
    left-led first by None r (Some p) h = h ∙ ap (accepted_in accepted) (behind_behind (first + by) 0 p.outcome ∙ ap (λ n. behind n p.outcome) e ∙ sym (behind_behind first by p.outcome))
      where
        e : first + by + 0 ≡ first + by
        e = omega arith

    pub left_leads-None : (a : Asking) (w : Ways) → LeadsWays a w → Leads (then_asked a nothing_asked) (record { size = w.size + 0; outcome = taken_or w.taken w.size None })
    left_leads-None a w h =
        let e = h.size in
        record {
          size = omega arith;
          led = λ first. ap led_to (first_true-append (a.guards first) [] ∙ ap (λ x. or_behind x None) (h.led first)) ∙ left-led first w.size w.taken None None refl;
        }

    pub left_leads-Some : (a b : Asking) (w : Ways) (p : Place) → LeadsWays a w → Leads b p →
        Leads (then_asked a b) (record { size = w.size + p.size; outcome = taken_or w.taken w.size (Some p) })
    left_leads-Some a b w p h k =
        let e = h.size in
        let f = k.size in
        record {
          size = omega arith;
          led = λ first.
              ap led_to (first_true-append (a.guards first) (b.guards (first + a.size)) ∙ ap (λ x. or_behind x (first_true q (b.guards (first + a.size)))) (h.led first))
              ∙ left-led first a.size w.taken (first_true q (b.guards (first + a.size))) (Some p) (k.led (first + a.size) ∙ ap (λ o. accepted_in accepted (behind (first + a.size) o)) (sym (no-more p.outcome)))
              ∙ ap (λ n. accepted_in accepted (behind first (taken_or w.taken n (Some p)))) e;
        }
      where
        no-more : (o : Option Span) → behind 0 o ≡ o
        no-more None = refl
        no-more (Some s) = let e : 0 + s.0 ≡ s.0 = omega arith in ap (λ n. Some (n, s.1)) e

-- ---- the longest of keys that stand in order

abbrev pub KeyedPlace : Type 0
KeyedPlace = Bytes × Place

not_longer : (a b : Bytes) → longer_first a b ≡ true → nat_lt (length a) (length b) ≡ false
not_longer a b e = elim (length_step a b e) [
  | inl l ↦ le-ltb (length a) (length b) (omega arith)
  | inr s ↦ (let h = s.0 in le-ltb (length a) (length b) (omega arith))
]

not_longer-self : (n : ℕ) → nat_lt n n ≡ false
not_longer-self n = le-ltb n n (omega arith)

none_behind : (t : Option Bytes) (key : Bytes) (ks : List KeyedPlace) → list_all (longer_first key) (map (λ k. k.0) ks) ≡ true →
    list_any (λ k. prefix_key t k.0 && nat_lt (length key) (length k.0)) ks ≡ false
none_behind t key [] h = refl
none_behind t key (k ∷ ks) h =
    let p = and_parts (longer_first key k.0) (list_all (longer_first key) (map (λ k. k.0) ks)) h in
    rw (not_longer key k.0 p.0, none_behind t key ks p.1) (none (prefix_key t k.0))
  where
    none : (b : Bool) → ((b && false) || false) ≡ false
    none true = refl
    none false = refl

-- a key that isn't a prefix changes nothing behind it
skipped : (t : Option Bytes) (k : KeyedPlace) (ks : List KeyedPlace) (key : Bytes) → prefix_key t k.0 ≡ false → longest_key t (k ∷ ks) key ≡ longest_key t ks key
skipped t k ks key e = rw e refl

map_same : {A B : Type 0} (f g : A → B) → ((x : A) → f x ≡ g x) → (xs : List A) → map f xs ≡ map g xs
map_same f g e [] = refl
map_same f g e (x ∷ xs) = rw (e x) (ap (λ l. g x ∷ l) (map_same f g e xs))

abbrev pub by_test : (Bytes → Bool) → List KeyedPlace → List Way
by_test p ks = map (λ k. (p k.0, k.1)) ks

-- the first key that is a prefix is the longest one
pub first_longest : (t : Option Bytes) (ks : List KeyedPlace) → are_ordered longer_first (map (λ k. k.0) ks) ≡ true →
    first_taken (by_test (longest_key t ks) ks) ≡ first_taken (by_test (prefix_key t) ks)
first_longest t [] h = refl
first_longest t (k ∷ ks) h = by (first_longest t ks) (prefix_key t k.0) refl
  where
    parts : (list_all (longer_first k.0) (map (λ k. k.0) ks) ≡ true) × (are_ordered longer_first (map (λ k. k.0) ks) ≡ true)
    parts = and_parts (list_all (longer_first k.0) (map (λ k. k.0) ks)) (are_ordered longer_first (map (λ k. k.0) ks)) h

    by : (are_ordered longer_first (map (λ k. k.0) ks) ≡ true → first_taken (by_test (longest_key t ks) ks) ≡ first_taken (by_test (prefix_key t) ks)) →
        (b : Bool) → prefix_key t k.0 ≡ b → first_taken (by_test (longest_key t (k ∷ ks)) (k ∷ ks)) ≡ first_taken (by_test (prefix_key t) (k ∷ ks))
    by h true e = rw (e, none_behind t k.0 ks parts.0, not_longer-self (length k.0)) refl
    by h false e =
        rw e (
        ap (λ l. option_map (behind k.1.size) (first_taken l)) (map_same _ _ (λ x. ap (λ b. (b, x.1)) (skipped t k ks x.0 e)) ks)
        ∙ ap (option_map (behind k.1.size)) (h parts.1)
        )

pub test_size : (p r : Bytes → Bool) (ks : List KeyedPlace) → (ways (by_test p ks)).size ≡ (ways (by_test r ks)).size
test_size p r [] = refl
test_size p r (k ∷ ks) =
    sum_by-cons (λ w. w.1.size) (p k.0, k.1) (by_test p ks) ∙ ap (λ n. k.1.size + n) (test_size p r ks) ∙ sym (sum_by-cons (λ w. w.1.size) (r k.0, k.1) (by_test r ks))
