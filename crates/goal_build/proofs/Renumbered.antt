-- Formulas over atoms that are numbered anew, by their parts.
use Rattle.std.proofs.Common.{◌≡◌, ℕ, zero, suc, ◌+◌, ◌<◌, true, ◌⊎◌, inl, inr, List, [], ◌∷◌, ◌++◌, map, length, Option, None, Some, slice_get, get_or, take, refl, sym, ap, subst, ◌∙◌, arith, rules, append-nil, lt-ltb, replicate, set}
use Rattle.std.specs.Prelude.{flat_map, nat_lt}
use Rattle.std.specs.List.{list_all}
use Rattle.text_base.proofs.Lists.{slice_get-front}
use Rattle.std.proofs.lemmas.Bool.{and_parts}
use Rattle.std.proofs.lemmas.Grind.{flat_map-append}
use Rattle.std.proofs.lemmas.List.{map-append, take_more, length-set, get_or-replicate, length-replicate}
use Rattle.std.proofs.lemmas.Option.{slice_get_within, get_or_from_slice_get}
use Rattle.goal_form.specs.declared.atom.Atom.{Atom}
use Rattle.goal_form.specs.declared.formula.Formula.{Formula}
use Rattle.goal_form.specs.declared.formula.Formula as formula
use Rattle.goal_form.specs.declared.formula.Formula.TheFolds.{the_lemmas}
use Rattle.goal_form.specs.declared.sight.Condition.{Condition}
use Rattle.goal_form.specs.declared.sight.Condition as of
use Rattle.goal_form.specs.Formulas.{leaves_below}
use Rattle.goal_form.specs.Numbers.{Grows, Numbers}
use Rattle.goal_form.specs.Conditions.{leaf_condition, condition_of, IsMeant, AreMeant}
use Rattle.goal_form.proofs.Meanings.{meant_not, meant_all, meant_any, grows_on, grows_none, are_none, are_more, numbered_get, numbered_grows}
use Rattle.goal_build.specs.Numbering.{numbers_in}
use Rattle.goal_build.specs.Renumbering.{IsKept, IsFound, IsRenumbered, AreRenumbered, AreRefused}
use Rattle.goal_build.proofs.Orders.{order_none, order_on, order_to, order_numbered, order_kept}

-- ---- one layer

numbers_yes : numbers_in formula.Yes ≡ []
numbers_yes = search (rules, the_lemmas)

numbers_no : numbers_in formula.No ≡ []
numbers_no = search (rules, the_lemmas)

numbers_leaf : (k : ℕ) → numbers_in (formula.Leaf k) ≡ k ∷ []
numbers_leaf k = search (rules, the_lemmas)

pub numbers_all : (xs : List Formula) → numbers_in (formula.All xs) ≡ flat_map (λ k. k) (map numbers_in xs)
numbers_all xs = search (rules, the_lemmas)

numbers_any : (xs : List Formula) → numbers_in (formula.Any xs) ≡ flat_map (λ k. k) (map numbers_in xs)
numbers_any xs = search (rules, the_lemmas)

numbers_not : (x : Formula) → numbers_in (formula.Not x) ≡ numbers_in x
numbers_not x = search (rules, the_lemmas)

module _ (pool : List Atom) where
  pub renumbered_yes : (a : List Atom) → IsRenumbered pool formula.Yes a a formula.Yes
  renumbered_yes a =
      record {
        grows = grows_none a;
        meant = record { leaves = search (rules, the_lemmas); is = search (rules, the_lemmas) };
        order = order_to a a [] (numbers_in formula.Yes) (sym numbers_yes) (order_none a);
      }

  pub renumbered_no : (a : List Atom) → IsRenumbered pool formula.No a a formula.No
  renumbered_no a =
      record {
        grows = grows_none a;
        meant = record { leaves = search (rules, the_lemmas); is = search (rules, the_lemmas) };
        order = order_to a a [] (numbers_in formula.No) (sym numbers_no) (order_none a);
      }

  pub renumbered_leaf : (a b : List Atom) (k j : ℕ) → IsFound pool k a b j → IsRenumbered pool (formula.Leaf k) a b (formula.Leaf j)
  renumbered_leaf a b k j h =
      let below : leaves_below (length b) (formula.Leaf j) ≡ nat_lt j (length b) = search (rules, the_lemmas) in
      let new : condition_of b (formula.Leaf j) ≡ leaf_condition (slice_get b j) = search (rules, the_lemmas) in
      let old : condition_of pool (formula.Leaf k) ≡ leaf_condition (slice_get pool k) = search (rules, the_lemmas) in
      record {
        grows = h.grows;
        meant = record {
          leaves = below ∙ lt-ltb j (length b) (slice_get_within b j h.atom h.there);
          is = new ∙ ap leaf_condition h.there ∙ sym (old ∙ ap leaf_condition h.is);
        };
        order = order_to a b (j ∷ []) (numbers_in (formula.Leaf j)) (sym (numbers_leaf j)) h.order;
      }

  pub renumbered_not : (a b : List Atom) (x y : Formula) → IsRenumbered pool x a b y → IsRenumbered pool (formula.Not x) a b (formula.Not y)
  renumbered_not a b x y h =
      let old : condition_of pool (formula.Not x) ≡ of.Not (condition_of pool x) = search (rules, the_lemmas) in
      record {
        grows = h.grows;
        meant = subst (IsMeant b (formula.Not y)) (sym old) (meant_not b y (condition_of pool x) h.meant);
        order = order_to a b (numbers_in y) (numbers_in (formula.Not y)) (sym (numbers_not y)) h.order;
      }

  pub renumbered_all : (a b : List Atom) (xs ys : List Formula) → AreRenumbered pool xs a b ys → IsRenumbered pool (formula.All xs) a b (formula.All ys)
  renumbered_all a b xs ys h =
      let old : condition_of pool (formula.All xs) ≡ of.All (map (condition_of pool) xs) = search (rules, the_lemmas) in
      record {
        grows = h.grows;
        meant = subst (IsMeant b (formula.All ys)) (sym old) (meant_all b ys (map (condition_of pool) xs) h.meant);
        order = order_to a b (flat_map (λ k. k) (map numbers_in ys)) (numbers_in (formula.All ys)) (sym (numbers_all ys)) h.order;
      }

  pub renumbered_any : (a b : List Atom) (xs ys : List Formula) → AreRenumbered pool xs a b ys → IsRenumbered pool (formula.Any xs) a b (formula.Any ys)
  renumbered_any a b xs ys h =
      let old : condition_of pool (formula.Any xs) ≡ of.Any (map (condition_of pool) xs) = search (rules, the_lemmas) in
      record {
        grows = h.grows;
        meant = subst (IsMeant b (formula.Any ys)) (sym old) (meant_any b ys (map (condition_of pool) xs) h.meant);
        order = order_to a b (flat_map (λ k. k) (map numbers_in ys)) (numbers_in (formula.Any ys)) (sym (numbers_any ys)) h.order;
      }

  -- ---- lists

  flat_push : (ys : List Formula) (y : Formula) → flat_map (λ k. k) (map numbers_in ys) ++ numbers_in y ≡ flat_map (λ k. k) (map numbers_in (ys ++ y ∷ []))
  flat_push ys y =
      sym (ap (flat_map (λ k. k)) (map-append numbers_in ys (y ∷ [])) ∙ flat_map-append (λ k. k) (map numbers_in ys) (numbers_in y ∷ [])
      ∙ ap (λ l. flat_map (λ k. k) (map numbers_in ys) ++ l) (append-nil (numbers_in y)))

  pub renumbered_none : (a : List Atom) → AreRenumbered pool [] a a []
  renumbered_none a = record { grows = grows_none a; meant = are_none a; order = order_none a }

  pub refused_none : (a : List Atom) → AreRefused pool [] a a []
  refused_none a = record { grows = grows_none a; meant = are_none a; order = order_none a }

  pub renumbered_push : (a b c : List Atom) (xs ys : List Formula) (x y : Formula) → AreRenumbered pool xs a b ys → IsRenumbered pool x b c y →
      AreRenumbered pool (xs ++ x ∷ []) a c (ys ++ y ∷ [])
  renumbered_push a b c xs ys x y h k =
      record {
        grows = grows_on a b c h.grows k.grows;
        meant = subst (AreMeant c (ys ++ y ∷ [])) (sym (map-append (condition_of pool) xs (x ∷ [])))
            (are_more b c ys (map (condition_of pool) xs) y (condition_of pool x) k.grows h.meant k.meant);
        order = order_to a c _ _ (flat_push ys y) (order_on a b c (flat_map (λ n. n) (map numbers_in ys)) (numbers_in y) h.order k.order);
      }

  pub refused_push : (a b c : List Atom) (xs ys : List Formula) (x y : Formula) → AreRefused pool xs a b ys → IsRenumbered pool x b c y →
      AreRefused pool (xs ++ x ∷ []) a c (ys ++ formula.Not y ∷ [])
  refused_push a b c xs ys x y h k =
      record {
        grows = grows_on a b c h.grows k.grows;
        meant = subst (AreMeant c (ys ++ formula.Not y ∷ [])) (sym (map-append (λ f. of.Not (condition_of pool f)) xs (x ∷ [])))
            (are_more b c ys (map (λ f. of.Not (condition_of pool f)) xs) (formula.Not y) (of.Not (condition_of pool x)) k.grows h.meant (meant_not c y (condition_of pool x) k.meant));
        order = order_to a c _ _ (ap (λ l. flat_map (λ n. n) (map numbers_in ys) ++ l) (sym (numbers_not y)) ∙ flat_push ys (formula.Not y))
            (order_on a b c (flat_map (λ n. n) (map numbers_in ys)) (numbers_in y) h.order k.order);
      }

-- ---- numbers that are kept

pub kept_grows : (pool : List Atom) (places : List (Option ℕ)) (a b : List Atom) → Grows a b → IsKept pool places a → IsKept pool places b
kept_grows pool places a b g h =
    record {
      long = h.long;
      same = λ k j x e f. ap (λ l. slice_get l j) g.is ∙ get_front a g.more j x (h.same k j x e f);
    }
  where
    get_front : (xs ys : List Atom) (j : ℕ) (x : Atom) → slice_get xs j ≡ Some x → slice_get (xs ++ ys) j ≡ Some x
    get_front xs ys j x e = slice_get-front xs ys j (slice_get_within xs j x e) ∙ e

some_there : (xs : List Atom) (k : ℕ) → k < length xs → (x : Atom) × (slice_get xs k ≡ Some x)
some_there [] k l = absurd (omega (arith, l))
some_there (x ∷ xs) zero l = (x, refl)
some_there (x ∷ xs) (suc k) l = some_there xs k (omega (arith, l))

pub found_kept : (pool : List Atom) (places : List (Option ℕ)) (a : List Atom) (n j : ℕ) → n < length pool → IsKept pool places a → slice_get places n ≡ Some (Some j) → IsFound pool n a a j
found_kept pool places a n j l h e =
    let (x, f) = some_there pool n l in
    let g = h.same n j x e f in
    record { atom = x; is = f; there = g; grows = grows_none a; order = order_kept a x j g }

pub found_numbered : (pool a b : List Atom) (x : Atom) (n j : ℕ) → slice_get pool n ≡ Some x → Numbers a b x j → IsFound pool n a b j
found_numbered pool a b x n j f h =
    record { atom = x; is = f; there = numbered_get a b x j h; grows = numbered_grows a b x j h; order = order_numbered a b x j h }

get_set : (xs : List (Option ℕ)) (i k : ℕ) (v w : Option ℕ) → slice_get (set xs i v) k ≡ Some w → ((k ≡ i) × (w ≡ v)) ⊎ (slice_get xs k ≡ Some w)
get_set [] i k v w e = inr e
get_set (x ∷ xs) zero zero v w e = let s : v ≡ w = cc in inl (refl, sym s)
get_set (x ∷ xs) zero (suc k) v w e = inr e
get_set (x ∷ xs) (suc i) zero v w e = inr e
get_set (x ∷ xs) (suc i) (suc k) v w e = elim (get_set xs i k v w e) [ inl h ↦ inl (ap suc h.0, h.1) | inr h ↦ inr h ]

pub kept_set : (pool a b : List Atom) (places : List (Option ℕ)) (x : Atom) (n j : ℕ) → slice_get pool n ≡ Some x → Numbers a b x j → IsKept pool places a →
    IsKept pool (set places n (Some j)) b
kept_set pool a b places x n j f h k =
    let m = kept_grows pool places a b (numbered_grows a b x j h) k in
    record { long = length-set places n (Some j) ∙ k.long; same = λ i t y e g. by_place i t y g (get_set places n i (Some j) (Some t) e) m }
  where
    by_place : (i t : ℕ) (y : Atom) → slice_get pool i ≡ Some y → ((i ≡ n) × (Some t ≡ Some j)) ⊎ (slice_get places i ≡ Some (Some t)) → IsKept pool places b → slice_get b t ≡ Some y
    by_place i t y g (inl s) m =
        let u : t ≡ j = (let z = s.1 in cc) in
        let same : Some x ≡ Some y = sym f ∙ ap (slice_get pool) (sym s.0) ∙ g in
        ap (slice_get b) u ∙ numbered_get a b x j h ∙ same
    by_place i t y g (inr s) m = m.same i t y s g

pub kept_start : (pool : List Atom) (n : ℕ) → n ≡ length pool → IsKept pool (replicate n None) []
kept_start pool n e = record { long = length-replicate n None ∙ e; same = λ k j a h g. absurd (none_kept n k j h) }
  where
    none_kept : (n k j : ℕ) → slice_get (replicate n None) k ≡ Some (Some j) → ⊥
    none_kept n k j h =
        let l = slice_get_within (replicate n None) k (Some j) h in
        let s : get_or (replicate n None) k None ≡ Some j = get_or_from_slice_get (replicate n None) k (Some j) None h in
        let r : get_or (replicate n None) k None ≡ None = get_or-replicate n k None None (let m = length-replicate {A = Option ℕ} n None in omega (arith, l, m)) in
        let b : None ≡ Some j = sym r ∙ s in cc

pub below_at : (n : ℕ) (xs : List Formula) (i : ℕ) (x : Formula) → list_all (λ b. b) (map (leaves_below n) xs) ≡ true → i < length xs → x ≡ get_or xs i x → leaves_below n x ≡ true
below_at n [] i x h l e = absurd (omega (arith, l))
below_at n (y ∷ xs) zero x h l e = subst (λ z. leaves_below n z ≡ true) (sym e) (and_parts (leaves_below n y) (list_all (λ b. b) (map (leaves_below n) xs)) h).0
below_at n (y ∷ xs) (suc i) x h l e = below_at n xs i x (and_parts (leaves_below n y) (list_all (λ b. b) (map (leaves_below n) xs)) h).1 (omega (arith, l)) e

pub take_through : (xs : List Formula) (i : ℕ) (x : Formula) → i < length xs → x ≡ get_or xs i x → take (i + 1) xs ≡ take i xs ++ x ∷ []
take_through xs i x l e = take_more xs i x l ∙ ap (λ y. take i xs ++ y ∷ []) (sym e)

pub renumbered_next : (pool a b c : List Atom) (xs : List Formula) (i : ℕ) (x : Formula) (ys zs : List Formula) (y : Formula) → i < length xs → x ≡ get_or xs i x → zs ≡ ys ++ y ∷ [] →
    AreRenumbered pool (take i xs) a b ys → IsRenumbered pool x b c y → AreRenumbered pool (take (i + 1) xs) a c zs
renumbered_next pool a b c xs i x ys zs y l e s h k =
    subst (λ v. AreRenumbered pool v a c zs) (sym (take_through xs i x l e))
    (subst (AreRenumbered pool (take i xs ++ x ∷ []) a c) (sym s) (renumbered_push pool a b c (take i xs) ys x y h k))

pub refused_next : (pool a b c : List Atom) (xs : List Formula) (i : ℕ) (x : Formula) (ys zs : List Formula) (y z : Formula) → i < length xs → x ≡ get_or xs i x → z ≡ formula.Not y → zs ≡ ys ++ z ∷ [] →
    AreRefused pool (take i xs) a b ys → IsRenumbered pool x b c y → AreRefused pool (take (i + 1) xs) a c zs
refused_next pool a b c xs i x ys zs y z l e n s h k =
    subst (λ v. AreRefused pool v a c zs) (sym (take_through xs i x l e))
    (subst (AreRefused pool (take i xs ++ x ∷ []) a c) (sym (s ∙ ap (λ v. ys ++ v ∷ []) n)) (refused_push pool a b c (take i xs) ys x y h k))
