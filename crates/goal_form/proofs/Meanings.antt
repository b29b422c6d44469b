-- A formula and the condition that it means are true at the same texts, and more atoms at the end change nothing.
use Rattle.std.proofs.Common.{◌≡◌, ℕ, ◌<◌, ◌≤◌, ◌+◌, Bool, true, false, not, ◌&&◌, ◌||◌, List, [], ◌∷◌, ◌++◌, map, length, append_assoc, append-nil, Option, None, Some, slice_get, nat_lt, ltb-true, lt-ltb, length-append, zero, suc, refl, sym, ap, ap₂, subst, ◌∙◌, arith, rules}
use Rattle.std.specs.List.{list_all, list_any}
use Rattle.std.proofs.lemmas.Bool.{and_parts, and_from}
use Rattle.goal_form.specs.declared.atom.Atom.{Atom}
use Rattle.goal_form.specs.declared.formula.Formula.{Formula}
use Rattle.goal_form.specs.declared.formula.Formula as formula
use Rattle.goal_form.specs.declared.formula.Formula.TheOpen.{Formula-F}
use Rattle.goal_form.specs.declared.formula.Formula.TheFolds.{fold-Formula, fold-roll-Formula, map-Formula, ind-Formula, the_lemmas}
use Rattle.goal_form.specs.declared.formula.Formula.TheViews.{roll-Formula}
use Rattle.goal_form.specs.declared.sight.Condition.{Condition}
use Rattle.goal_form.specs.declared.sight.Condition as of
use Rattle.goal_form.specs.declared.sight.Condition.TheFolds as folds
use Rattle.goal_form.specs.Formulas.{truth_step, truth_at, below_step, leaves_below}
use Rattle.goal_form.specs.Goals.{Shown, atom_at, truths}
use Rattle.goal_form.specs.Conditions.{leaf_condition, condition_step, condition_of, shown_step, condition_at, IsMeant, AreMeant}
use Rattle.goal_form.specs.Numbers.{Numbers, found, added, Grows}

-- ---- conditions, variant by variant

pub at_yes : (q : Shown) → condition_at q of.Yes ≡ true
at_yes q = search (rules, folds.the_lemmas)

pub at_no : (q : Shown) → condition_at q of.No ≡ false
at_no q = search (rules, folds.the_lemmas)

pub at_leaf : (q : Shown) (a : Atom) → condition_at q (of.Leaf a) ≡ atom_at q (Some a)
at_leaf q a = search (rules, folds.the_lemmas)

pub at_all : (q : Shown) (cs : List Condition) → condition_at q (of.All cs) ≡ list_all (λ b. b) (map (condition_at q) cs)
at_all q cs = search (rules, folds.the_lemmas)

pub at_any : (q : Shown) (cs : List Condition) → condition_at q (of.Any cs) ≡ list_any (λ b. b) (map (condition_at q) cs)
at_any q cs = search (rules, folds.the_lemmas)

pub at_not : (q : Shown) (c : Condition) → condition_at q (of.Not c) ≡ not (condition_at q c)
at_not q c = search (rules, folds.the_lemmas)

-- ---- a formula is true where its condition is

leaf_agrees : (q : Shown) (o : Option Atom) → condition_at q (leaf_condition o) ≡ atom_at q o
leaf_agrees q None = at_no q
leaf_agrees q (Some a) = at_leaf q a

module _ (q : Shown) (atoms : List Atom) where
  abbrev Agrees : Formula → Type 0
  Agrees f = condition_at q (condition_of atoms f) ≡ truth_at (truths q atoms) f

  all_agree : (es : List ((f : Formula) × Agrees f)) →
      list_all (λ b. b) (map (condition_at q) (map (condition_of atoms) (map (λ e. e.0) es))) ≡ list_all (λ b. b) (map (truth_at (truths q atoms)) (map (λ e. e.0) es))
  all_agree [] = refl
  all_agree (e ∷ es) = ap₂ (λ x y. x && y) e.1 (all_agree es)

  any_agree : (es : List ((f : Formula) × Agrees f)) →
      list_any (λ b. b) (map (condition_at q) (map (condition_of atoms) (map (λ e. e.0) es))) ≡ list_any (λ b. b) (map (truth_at (truths q atoms)) (map (λ e. e.0) es))
  any_agree [] = refl
  any_agree (e ∷ es) = ap₂ (λ x y. x || y) e.1 (any_agree es)

  agree_step : (y : Formula-F ((f : Formula) × Agrees f)) →
      condition_at q (condition_step atoms (map-Formula Formula Condition (condition_of atoms) (map-Formula ((f : Formula) × Agrees f) Formula (λ e. e.0) y)))
      ≡ truth_step (truths q atoms) (map-Formula Formula Bool (truth_at (truths q atoms)) (map-Formula ((f : Formula) × Agrees f) Formula (λ e. e.0) y))
  agree_step Formula-F.Yes = at_yes q
  agree_step Formula-F.No = at_no q
  agree_step (Formula-F.Leaf k) = leaf_agrees q (slice_get atoms k)
  agree_step (Formula-F.All es) = at_all q (map (condition_of atoms) (map (λ e. e.0) es)) ∙ all_agree es
  agree_step (Formula-F.Any es) = at_any q (map (condition_of atoms) (map (λ e. e.0) es)) ∙ any_agree es
  agree_step (Formula-F.Not e) = at_not q (condition_of atoms e.0) ∙ ap not e.1

  agree_roll : (x : Formula-F Formula) →
      condition_at q (condition_step atoms (map-Formula Formula Condition (condition_of atoms) x)) ≡ truth_step (truths q atoms) (map-Formula Formula Bool (truth_at (truths q atoms)) x) → Agrees (roll-Formula x)
  agree_roll x h = rw (fold-roll-Formula Condition (condition_step atoms) x, fold-roll-Formula Bool (truth_step (truths q atoms)) x) h

  pub condition_true : (f : Formula) → Agrees f
  condition_true = ind-Formula Agrees (λ x y is. subst (λ z. Agrees (roll-Formula z)) is (agree_roll _ (agree_step y)))

-- ---- more atoms

get_front : {A : Type 0} (xs ys : List A) (k : ℕ) → k < length xs → slice_get (xs ++ ys) k ≡ slice_get xs k
get_front [] ys k h = absurd (omega arith)
get_front (x ∷ xs) ys zero h = refl
get_front (x ∷ xs) ys (suc k) h = get_front xs ys k (omega arith)

module _ (atoms more : List Atom) where
  abbrev Kept : Formula → Type 0
  Kept f = leaves_below (length atoms) f ≡ true → (condition_of (atoms ++ more) f ≡ condition_of atoms f) × (leaves_below (length (atoms ++ more)) f ≡ true)

  leaf_kept : (k : ℕ) → k < length atoms → (leaf_condition (slice_get (atoms ++ more) k) ≡ leaf_condition (slice_get atoms k)) × (nat_lt k (length (atoms ++ more)) ≡ true)
  leaf_kept k h = (ap leaf_condition (get_front atoms more k h), let long = length-append atoms more in lt-ltb k (length (atoms ++ more)) (omega arith))

  list_kept : (es : List ((f : Formula) × Kept f)) → list_all (λ b. b) (map (leaves_below (length atoms)) (map (λ e. e.0) es)) ≡ true →
      (map (condition_of (atoms ++ more)) (map (λ e. e.0) es) ≡ map (condition_of atoms) (map (λ e. e.0) es))
      × (list_all (λ b. b) (map (leaves_below (length (atoms ++ more))) (map (λ e. e.0) es)) ≡ true)
  list_kept [] h = (refl, refl)
  list_kept (e ∷ es) h =
      let both = and_parts (leaves_below (length atoms) e.0) (list_all (λ b. b) (map (leaves_below (length atoms)) (map (λ z. z.0) es))) h in
      let first = e.1 both.0 in
      let rest = list_kept es both.1 in
      (ap₂ (λ x y. x ∷ y) first.0 rest.0, and_from _ _ first.1 rest.1)

  kept_step : (y : Formula-F ((f : Formula) × Kept f)) → below_step (length atoms) (map-Formula Formula Bool (leaves_below (length atoms)) (map-Formula ((f : Formula) × Kept f) Formula (λ e. e.0) y)) ≡ true →
      (condition_step (atoms ++ more) (map-Formula Formula Condition (condition_of (atoms ++ more)) (map-Formula ((f : Formula) × Kept f) Formula (λ e. e.0) y))
      ≡ condition_step atoms (map-Formula Formula Condition (condition_of atoms) (map-Formula ((f : Formula) × Kept f) Formula (λ e. e.0) y)))
      × (below_step (length (atoms ++ more)) (map-Formula Formula Bool (leaves_below (length (atoms ++ more))) (map-Formula ((f : Formula) × Kept f) Formula (λ e. e.0) y)) ≡ true)
  kept_step Formula-F.Yes h = (refl, refl)
  kept_step Formula-F.No h = (refl, refl)
  kept_step (Formula-F.Leaf k) h = leaf_kept k (ltb-true k (length atoms) h)
  kept_step (Formula-F.All es) h = let k = list_kept es h in (ap of.All k.0, k.1)
  kept_step (Formula-F.Any es) h = let k = list_kept es h in (ap of.Any k.0, k.1)
  kept_step (Formula-F.Not e) h = let k = e.1 h in (ap of.Not k.0, k.1)

  kept_roll : (x : Formula-F Formula) →
      (below_step (length atoms) (map-Formula Formula Bool (leaves_below (length atoms)) x) ≡ true →
      (condition_step (atoms ++ more) (map-Formula Formula Condition (condition_of (atoms ++ more)) x) ≡ condition_step atoms (map-Formula Formula Condition (condition_of atoms) x))
      × (below_step (length (atoms ++ more)) (map-Formula Formula Bool (leaves_below (length (atoms ++ more))) x) ≡ true)) → Kept (roll-Formula x)
  kept_roll x h =
      rw (
        fold-roll-Formula Condition (condition_step (atoms ++ more)) x,
        fold-roll-Formula Condition (condition_step atoms) x,
        fold-roll-Formula Bool (below_step (length atoms)) x,
        fold-roll-Formula Bool (below_step (length (atoms ++ more))) x,
      ) h

  condition_kept : (f : Formula) → Kept f
  condition_kept = ind-Formula Kept (λ x y is. subst (λ z. Kept (roll-Formula z)) is (kept_roll _ (kept_step y)))

-- a formula means over more atoms what it meant
pub meant_grows : (old new : List Atom) (f : Formula) (c : Condition) → Grows old new → IsMeant old f c → IsMeant new f c
meant_grows old new f c g m =
    let k = condition_kept old g.more f m.leaves in
    subst (λ x. IsMeant x f c) (sym g.is) (record { leaves = k.1; is = k.0 ∙ m.is })

pub grows_on : (a b c : List Atom) → Grows a b → Grows b c → Grows a c
grows_on a b c g h = record { more = g.more ++ h.more; is = h.is ∙ ap (λ x. x ++ h.more) g.is ∙ append_assoc a g.more h.more }

pub grows_none : (a : List Atom) → Grows a a
grows_none a = record { more = []; is = sym (append-nil a) }

-- ---- formulas by their parts

pub meant_yes : (atoms : List Atom) → IsMeant atoms formula.Yes of.Yes
meant_yes atoms = record { leaves = search (rules, the_lemmas); is = search (rules, the_lemmas) }

pub meant_no : (atoms : List Atom) → IsMeant atoms formula.No of.No
meant_no atoms = record { leaves = search (rules, the_lemmas); is = search (rules, the_lemmas) }

pub meant_not : (atoms : List Atom) (f : Formula) (c : Condition) → IsMeant atoms f c → IsMeant atoms (formula.Not f) (of.Not c)
meant_not atoms f c m =
    let below : leaves_below (length atoms) (formula.Not f) ≡ leaves_below (length atoms) f = search (rules, the_lemmas) in
    let read : condition_of atoms (formula.Not f) ≡ of.Not (condition_of atoms f) = search (rules, the_lemmas) in
    record { leaves = below ∙ m.leaves; is = read ∙ ap of.Not m.is }

pub all_below : (n : ℕ) (fs : List Formula) → list_all (λ b. b) (map (leaves_below n) fs) ≡ list_all (leaves_below n) fs
all_below n [] = refl
all_below n (f ∷ fs) = ap (λ x. leaves_below n f && x) (all_below n fs)

pub meant_all : (atoms : List Atom) (fs : List Formula) (cs : List Condition) → AreMeant atoms fs cs → IsMeant atoms (formula.All fs) (of.All cs)
meant_all atoms fs cs m =
    let below : leaves_below (length atoms) (formula.All fs) ≡ list_all (λ b. b) (map (leaves_below (length atoms)) fs) = search (rules, the_lemmas) in
    let read : condition_of atoms (formula.All fs) ≡ of.All (map (condition_of atoms) fs) = search (rules, the_lemmas) in
    record { leaves = below ∙ all_below (length atoms) fs ∙ m.leaves; is = read ∙ ap of.All m.are }

pub meant_any : (atoms : List Atom) (fs : List Formula) (cs : List Condition) → AreMeant atoms fs cs → IsMeant atoms (formula.Any fs) (of.Any cs)
meant_any atoms fs cs m =
    let below : leaves_below (length atoms) (formula.Any fs) ≡ list_all (λ b. b) (map (leaves_below (length atoms)) fs) = search (rules, the_lemmas) in
    let read : condition_of atoms (formula.Any fs) ≡ of.Any (map (condition_of atoms) fs) = search (rules, the_lemmas) in
    record { leaves = below ∙ all_below (length atoms) fs ∙ m.leaves; is = read ∙ ap of.Any m.are }

pub are_none : (atoms : List Atom) → AreMeant atoms [] []
are_none atoms = record { leaves = refl; are = refl }

pub list_grows : (old new : List Atom) (fs : List Formula) (cs : List Condition) → Grows old new → AreMeant old fs cs → AreMeant new fs cs
list_grows old new [] cs g m = record { leaves = refl; are = m.are }
list_grows old new (f ∷ fs) cs g m =
    let both = and_parts (leaves_below (length old) f) (list_all (leaves_below (length old)) fs) m.leaves in
    let first = meant_grows old new f (condition_of old f) g (record { leaves = both.0; is = refl }) in
    let rest = list_grows old new fs (map (condition_of old) fs) g (record { leaves = both.1; are = refl }) in
    record { leaves = and_from _ _ first.leaves rest.leaves; are = ap₂ (λ x y. x ∷ y) first.is rest.are ∙ m.are }

all_snoc : (n : ℕ) (fs : List Formula) (f : Formula) → list_all (leaves_below n) fs ≡ true → leaves_below n f ≡ true → list_all (leaves_below n) (fs ++ f ∷ []) ≡ true
all_snoc n [] f h k = and_from _ true k refl
all_snoc n (x ∷ fs) f h k = let both = and_parts (leaves_below n x) (list_all (leaves_below n) fs) h in and_from _ _ both.0 (all_snoc n fs f both.1 k)

map_snoc : {A B : Type 0} (g : A → B) (xs : List A) (x : A) → map g (xs ++ x ∷ []) ≡ map g xs ++ g x ∷ []
map_snoc g [] x = refl
map_snoc g (y ∷ xs) x = ap (λ z. g y ∷ z) (map_snoc g xs x)

-- one more formula at the end, whose atoms may come at the end too
pub are_more : (old new : List Atom) (fs : List Formula) (cs : List Condition) (f : Formula) (c : Condition) → Grows old new → AreMeant old fs cs → IsMeant new f c → AreMeant new (fs ++ f ∷ []) (cs ++ c ∷ [])
are_more old new fs cs f c g m h =
    let k = list_grows old new fs cs g m in
    record {
      leaves = all_snoc (length new) fs f k.leaves h.leaves;
      are = map_snoc (condition_of new) fs f ∙ ap₂ (λ x y. x ++ y ∷ []) k.are h.is;
    }

-- ---- a leaf for an atom that was numbered

get_last : (xs : List Atom) (x : Atom) → slice_get (xs ++ x ∷ []) (length xs) ≡ Some x
get_last [] x = refl
get_last (y ∷ xs) x = get_last xs x

get_below : (xs : List Atom) (k : ℕ) (x : Atom) → slice_get xs k ≡ Some x → k < length xs
get_below [] k x h = cc
get_below (y ∷ xs) zero x h = omega arith
get_below (y ∷ xs) (suc k) x h = let lower = get_below xs k x h in omega arith

pub numbered_get : (old new : List Atom) (a : Atom) (k : ℕ) → Numbers old new a k → slice_get new k ≡ Some a
numbered_get old new a k (found at same) = subst (λ x. slice_get x k ≡ Some a) (sym same) at
numbered_get old new a k (added none last is) = subst (λ x. slice_get x k ≡ Some a) (sym is) (subst (λ j. slice_get (old ++ a ∷ []) j ≡ Some a) (sym last) (get_last old a))

pub numbered_grows : (old new : List Atom) (a : Atom) (k : ℕ) → Numbers old new a k → Grows old new
numbered_grows old new a k (found at same) = subst (Grows old) (sym same) (grows_none old)
numbered_grows old new a k (added none last is) = record { more = a ∷ []; is = is }

pub meant_leaf : (old new : List Atom) (a : Atom) (k : ℕ) → Numbers old new a k → IsMeant new (formula.Leaf k) (of.Leaf a)
meant_leaf old new a k n =
    let got = numbered_get old new a k n in
    let below : leaves_below (length new) (formula.Leaf k) ≡ nat_lt k (length new) = search (rules, the_lemmas) in
    let read : condition_of new (formula.Leaf k) ≡ leaf_condition (slice_get new k) = search (rules, the_lemmas) in
    record { leaves = below ∙ lt-ltb k (length new) (get_below new k a got); is = read ∙ ap leaf_condition got }
