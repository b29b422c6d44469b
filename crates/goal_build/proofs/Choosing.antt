-- What the guards of a host lead to: the first true one tells the route.
use Rattle.std.proofs.Common.{◌≡◌, ℕ, zero, suc, ◌+◌, ◌<◌, ◌≤◌, Bool, true, false, not, inl, inr, List, [], ◌∷◌, ◌++◌, map, Option, None, Some, refl, sym, ap, subst, ◌∙◌, arith, option_map}
use Rattle.std.specs.List.{range_with_len}
use Rattle.std.proofs.lemmas.Bool.{and_parts, and_from, not-true}
use Rattle.rx_term.specs.Language.{Has}
use Rattle.rx_term.proofs.Language.{Has_right}
use Rattle.goal_form.specs.declared.sight.Condition.{Condition}
use Rattle.goal_form.specs.declared.sight.Condition as of
use Rattle.goal_form.specs.Goals.{Shown}
use Rattle.goal_form.specs.Conditions.{condition_at}
use Rattle.goal_form.proofs.Meanings.{at_not}
use Rattle.goal_form.proofs.ConditionTruths.{all_at}
use Rattle.cfg_types.specs.Choices.{first_accepted}
use Rattle.match_tree.specs.Guards.{Guard, route_guards}
use Rattle.match_tree.specs.GuardLaws.{first_true, led_to, guarded_route, guarded_routes}

-- ---- routes in a row

list_led : (q : Shown) (rule : ℕ → Condition) (first many : ℕ) → first_true q (route_guards rule first many) ≡ option_map Some (first_accepted (λ r. condition_at q (rule r)) first many)
list_led q rule first zero = refl
list_led q rule first (suc n) = by (list_led q rule (first + 1) n) (condition_at q (rule first)) refl
  where
    by : first_true q (route_guards rule (first + 1) n) ≡ option_map Some (first_accepted (λ r. condition_at q (rule r)) (first + 1) n) → (b : Bool) → condition_at q (rule first) ≡ b → first_true q (route_guards rule first (suc n)) ≡ option_map Some (first_accepted (λ r. condition_at q (rule r)) first (suc n))
    by h true e = rw e refl
    by h false e = rw e h

led_some : (o : Option ℕ) → led_to (option_map Some o) ≡ o
led_some None = refl
led_some (Some r) = refl

pub guarded_list : (q : Shown) (rule : ℕ → Condition) (first many : ℕ) → guarded_route q (route_guards rule first many) ≡ first_accepted (λ r. condition_at q (rule r)) first many
guarded_list q rule first many = ap led_to (list_led q rule first many) ∙ led_some (first_accepted (λ r. condition_at q (rule r)) first many)

pub list_numbers : (rule : ℕ → Condition) (first many : ℕ) → guarded_routes (route_guards rule first many) ≡ range_with_len first many
list_numbers rule first zero = refl
list_numbers rule first (suc n) = ap (λ l. first ∷ l) (list_numbers rule (first + 1) n)

-- ---- numbers in a row

-- a number of a row isn't before its first and is before its end
pub in_row : (first many k : ℕ) → Has (range_with_len first many) k → (first ≤ k) × (k < first + many)
in_row first zero k h = elim h [ ]
in_row first (suc n) k (inl e) = (omega (arith, e), omega (arith, e))
in_row first (suc n) k (inr h) = let i = in_row (first + 1) n k h in let a = i.0 in let b = i.1 in (omega (arith, a), omega (arith, b))

-- where a row is cut at a number, that number stands neither before it nor after it
pub cut_row : (first many r : ℕ) (xs ys : List ℕ) → range_with_len first many ≡ xs ++ (r ∷ ys) → (Has xs r → ⊥) × (Has ys r → ⊥) × (first ≤ r)
cut_row first zero r [] ys e = absurd (cc)
cut_row first zero r (x ∷ xs) ys e = absurd (cc)
cut_row first (suc n) r [] ys e =
    let head : first ≡ r = (cc) in
    let rest : range_with_len (first + 1) n ≡ ys = (cc) in
    ((λ h. elim h [ ]), (λ h. let i = (in_row (first + 1) n r (subst (λ l. Has l r) (sym rest) h)).0 in absurd (omega (arith, head, i))), omega (arith, head))
cut_row first (suc n) r (x ∷ xs) ys e =
    let head : first ≡ x = (cc) in
    let rest : range_with_len (first + 1) n ≡ xs ++ (r ∷ ys) = (cc) in
    let k = cut_row (first + 1) n r xs ys rest in
    let above = k.2 in
    ((λ h. elim h [ inl s ↦ absurd (omega (arith, head, s, above)) | inr i ↦ k.0 i ]), k.1, omega (arith, above))

-- ---- a route that has one guard

routes_through : (r : ℕ) (own : Condition) (before after : List Guard) → guarded_routes (before ++ ((own, Some r) ∷ after)) ≡ guarded_routes before ++ (r ∷ guarded_routes after)
routes_through r own [] after = refl
routes_through r own (g ∷ before) after = by (routes_through r own before after) g.1 refl
  where
    by : guarded_routes (before ++ ((own, Some r) ∷ after)) ≡ guarded_routes before ++ (r ∷ guarded_routes after) → (o : Option ℕ) → g.1 ≡ o → guarded_routes ((g ∷ before) ++ ((own, Some r) ∷ after)) ≡ guarded_routes (g ∷ before) ++ (r ∷ guarded_routes after)
    by h None e = rw e h
    by h (Some k) e = rw e (ap (λ l. k ∷ l) h)

-- a route without a guard isn't led to
not_led : (q : Shown) (r : ℕ) (gs : List Guard) → (Has (guarded_routes gs) r → ⊥) → first_true q gs ≡ Some (Some r) → ⊥
not_led q r [] n e = cc
not_led q r (g ∷ gs) n e = by (not_led q r gs) (condition_at q g.0) g.1 refl refl
  where
    by : ((Has (guarded_routes gs) r → ⊥) → first_true q gs ≡ Some (Some r) → ⊥) → (b : Bool) (o : Option ℕ) → condition_at q g.0 ≡ b → g.1 ≡ o → ⊥
    by h true None eb eo = let k = rw (eb, eo) at e in cc
    by h true (Some j) eb eo = let k = rw (eb, eo) at e in let m = rw eo at n in m (inl (cc))
    by h false None eb eo = let k = rw eb at e in let m = rw eo at n in h m k
    by h false (Some j) eb eo = let k = rw eb at e in let m = rw eo at n in h (λ i. m (inr i)) k

-- the guards before this one are all false, and this one is true
abbrev pub IsFirst : Shown → Condition → List Guard → Type 0
IsFirst q own before = (condition_at q own ≡ true) × (all_at q (map (λ g. of.Not g.0) before) ≡ true)

pub led_first : (q : Shown) (r : ℕ) (own : Condition) (before after : List Guard) → (Has (guarded_routes before) r → ⊥) → (Has (guarded_routes after) r → ⊥) →
    first_true q (before ++ ((own, Some r) ∷ after)) ≡ Some (Some r) → IsFirst q own before
led_first q r own [] after n m e = by (condition_at q own) refl
  where
    by : (b : Bool) → condition_at q own ≡ b → IsFirst q own []
    by true eb = (eb, refl)
    by false eb = let k = rw eb at e in absurd (not_led q r after m k)
led_first q r own (g ∷ before) after n m e = by (λ l k. led_first q r own before after l m k) (condition_at q g.0) g.1 refl refl
  where
    Later : Type 0
    Later = (Has (guarded_routes before) r → ⊥) → first_true q (before ++ ((own, Some r) ∷ after)) ≡ Some (Some r) → IsFirst q own before

    rest : Later → condition_at q g.0 ≡ false → (Has (guarded_routes before) r → ⊥) → IsFirst q own (g ∷ before)
    rest h eb l =
        let k = h l (rw eb at e) in
        (k.0, and_from (condition_at q (of.Not g.0)) (all_at q (map (λ z. of.Not z.0) before)) (at_not q g.0 ∙ ap not eb) k.1)

    by : Later → (b : Bool) (o : Option ℕ) → condition_at q g.0 ≡ b → g.1 ≡ o → IsFirst q own (g ∷ before)
    by h true None eb eo = let k = rw (eb, eo) at e in absurd (cc)
    by h true (Some j) eb eo = let k = rw (eb, eo) at e in let l = rw eo at n in absurd (l (inl (cc)))
    by h false None eb eo = let l = rw eo at n in rest h eb l
    by h false (Some j) eb eo = let l = rw eo at n in rest h eb (λ i. l (inr i))

pub first_led : (q : Shown) (r : ℕ) (own : Condition) (before after : List Guard) → IsFirst q own before → first_true q (before ++ ((own, Some r) ∷ after)) ≡ Some (Some r)
first_led q r own [] after f = rw f.0 refl
first_led q r own (g ∷ before) after f =
    let k = and_parts (condition_at q (of.Not g.0)) (all_at q (map (λ z. of.Not z.0) before)) f.1 in
    let here : condition_at q g.0 ≡ false = not-true (condition_at q g.0) (sym (at_not q g.0) ∙ k.0) in
    rw here (first_led q r own before after (f.0, k.1))

led_both : (o : Option (Option ℕ)) (r : ℕ) → led_to o ≡ Some r → o ≡ Some (Some r)
led_both None r e = absurd (cc)
led_both (Some o) r e = ap Some e

-- where the routes of guards stand in a row, the guards lead to a route exactly where its guard is the first that is true
pub guarded_first : (q : Shown) (first many r : ℕ) (own : Condition) (before after gs : List Guard) → gs ≡ before ++ ((own, Some r) ∷ after) → guarded_routes gs ≡ range_with_len first many →
    guarded_route q gs ≡ Some r → IsFirst q own before
guarded_first q first many r own before after gs is row led =
    let k = cut_row first many r (guarded_routes before) (guarded_routes after) (sym row ∙ ap guarded_routes is ∙ routes_through r own before after) in
    led_first q r own before after k.0 k.1 (led_both (first_true q (before ++ ((own, Some r) ∷ after))) r (sym (ap (guarded_route q) is) ∙ led))

pub first_guarded : (q : Shown) (r : ℕ) (own : Condition) (before after gs : List Guard) → gs ≡ before ++ ((own, Some r) ∷ after) → IsFirst q own before → guarded_route q gs ≡ Some r
first_guarded q r own before after gs is f = ap (guarded_route q) is ∙ ap led_to (first_led q r own before after f)

-- a guard with a route is one of the routes
routed_through : (r : ℕ) (own : Condition) (after xs : List Guard) → Has (guarded_routes (xs ++ ((own, Some r) ∷ after))) r
routed_through r own after xs = subst (λ l. Has l r) (sym (routes_through r own xs after)) (Has_right (guarded_routes xs) (r ∷ guarded_routes after) r (inl refl))

pub guarded_in : (r : ℕ) (own : Condition) (before after gs : List Guard) → gs ≡ before ++ ((own, Some r) ∷ after) → Has (guarded_routes gs) r
guarded_in r own before after gs is = subst (λ l. Has (guarded_routes l) r) (sym is) (routed_through r own after before)

routed_led : (q : Shown) (r : ℕ) (xs : List Guard) → first_true q xs ≡ Some (Some r) → Has (guarded_routes xs) r
routed_led q r [] h = absurd (cc)
routed_led q r (g ∷ xs) h = by (routed_led q r xs) (condition_at q g.0) g.1 refl refl
  where
    by : (first_true q xs ≡ Some (Some r) → Has (guarded_routes xs) r) → (b : Bool) (o : Option ℕ) → condition_at q g.0 ≡ b → g.1 ≡ o → Has (guarded_routes (g ∷ xs)) r
    by k true None eb eo = let m = rw (eb, eo) at h in absurd (cc)
    by k true (Some j) eb eo = let m = rw (eb, eo) at h in rw eo (inl (cc))
    by k false None eb eo = rw eo (k (rw eb at h))
    by k false (Some j) eb eo = rw eo (inr (k (rw eb at h)))

pub led_in : (q : Shown) (r : ℕ) (gs : List Guard) → guarded_route q gs ≡ Some r → Has (guarded_routes gs) r
led_in q r gs e = routed_led q r gs (led_both (first_true q gs) r e)
