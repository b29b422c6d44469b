-- Lists of guards over more and more atoms: put together, asked one after another, and asked where a condition is true.
use Rattle.std.proofs.Common.{◌≡◌, ℕ, ◌+◌, ◌-◌, ◌<◌, ◌≤◌, zero, suc, List, [], ◌∷◌, ◌++◌, length, map, get_or, take, Some, None, slice_get, refl, sym, ap, subst, ◌∙◌, arith, append_assoc}
use Rattle.std.proofs.lemmas.List.{append-nil, map-append}
use Rattle.goal_form.specs.Conditions.{IsMeant}
use Rattle.goal_form.specs.Numbers.{Grows}
use Rattle.goal_form.specs.declared.atom.Atom.{Atom}
use Rattle.goal_form.specs.declared.formula.Formula.{Formula}
use Rattle.goal_form.specs.declared.formula.Formula as formula
use Rattle.goal_form.specs.declared.sight.Condition.{Condition}
use Rattle.goal_form.specs.declared.sight.Condition as of
use Rattle.goal_form.proofs.Meanings.{meant_grows}
use Rattle.goal_form.specs.Meant.{AreMeant}
use Rattle.goal_form.proofs.Meant.{meant_every, are_later, are_both, map_through}
use Rattle.match_tree.specs.Guards.{Guard as Meant, Asking, nothing_asked, then_asked, asked_in_turn, asked_where, guards_where, route_guards}
use Rattle.match_tree.specs.Told.{AreGuards, AddsGuards, AreRules, IsAsked}
use Rattle.match_tree.specs.declared.guard.Guard.{Guard}

-- ---- lists of guards

guards_later : (a b : List Atom) (xs : List Guard) (gs : List Meant) → Grows a b → AreGuards a xs gs → AreGuards b xs gs
guards_later a b [] [] g h = tt
guards_later a b [] (c ∷ cs) g h = h
guards_later a b (x ∷ xs) [] g h = h
guards_later a b (x ∷ xs) (c ∷ cs) g h = (meant_grows a b x.formula c.0 g h.0, h.1, guards_later a b xs cs g h.2)

guards_both : (a : List Atom) (xs ys : List Guard) (gs hs : List Meant) → AreGuards a xs gs → AreGuards a ys hs → AreGuards a (xs ++ ys) (gs ++ hs)
guards_both a [] ys [] hs h k = k
guards_both a [] ys (c ∷ cs) hs h k = elim h [ ]
guards_both a (x ∷ xs) ys [] hs h k = elim h [ ]
guards_both a (x ∷ xs) ys (c ∷ cs) hs h k = (h.0, h.1, guards_both a xs ys cs hs h.2 k)

pub adds_nothing : (a : List Atom) (l : List Guard) → AddsGuards a l l []
adds_nothing a l = record { added = []; is = sym (append-nil l); meant = tt }

-- more guards, over more atoms
pub adds_more : (a b : List Atom) (l m n : List Guard) (gs hs : List Meant) → Grows a b → AddsGuards a l m gs → AddsGuards b m n hs → AddsGuards b l n (gs ++ hs)
adds_more a b l m n gs hs g h k = record {
  added = h.added ++ k.added;
  is = k.is ∙ ap (λ x. x ++ k.added) h.is ∙ append_assoc l h.added k.added;
  meant = guards_both b h.added k.added gs hs (guards_later a b h.added gs g h.meant) k.meant;
}

-- one more guard
pub adds_last : (a : List Atom) (l m n : List Guard) (gs : List Meant) (x : Guard) (c : Meant) → AddsGuards a l m gs → n ≡ m ++ x ∷ [] → IsMeant a x.formula c.0 → x.route ≡ c.1 →
    AddsGuards a l n (gs ++ c ∷ [])
adds_last a l m n gs x c h e f r = record {
  added = h.added ++ x ∷ [];
  is = e ∙ ap (λ y. y ++ x ∷ []) h.is ∙ append_assoc l h.added (x ∷ []);
  meant = guards_both a h.added (x ∷ []) gs (c ∷ []) h.meant (f, r, tt);
}

pub adds_are : (a : List Atom) (l xs : List Guard) (gs : List Meant) → l ≡ [] → AddsGuards a l xs gs → AreGuards a xs gs
adds_are a l xs gs e h = subst (λ z. AreGuards a z gs) (sym (h.is ∙ ap (λ z. z ++ h.added) e)) h.meant

-- ---- the rules of routes

pub rules_later : (a b : List Atom) (first : ℕ) (fs : List Formula) (rule : ℕ → Condition) → Grows a b → AreRules a first fs rule → AreRules b first fs rule
rules_later a b first fs rule g h = λ k f e. meant_grows a b f (rule (first + k)) g (h k f e)

pub rule_meant : (a : List Atom) (first : ℕ) (fs : List Formula) (rule : ℕ → Condition) (route : ℕ) (f : Formula) → AreRules a first fs rule → first ≤ route →
    slice_get fs (route - first) ≡ Some f → IsMeant a f (rule route)
rule_meant a first fs rule route f h l e = let n : first + (route - first) ≡ route = omega arith in subst (λ k. IsMeant a f (rule k)) n (h (route - first) f e)

routes-more : (rule : ℕ → Condition) (first many : ℕ) → route_guards rule first (suc many) ≡ route_guards rule first many ++ (rule (first + many), Some (first + many)) ∷ []
routes-more rule first zero = let e : first ≡ first + 0 = omega arith in ap (λ n. (rule n, Some n) ∷ []) e
routes-more rule first (suc many) =
    let e : first + 1 + many ≡ first + suc many = omega arith in
    ap (λ l. (rule first, Some first) ∷ l) (routes-more rule (first + 1) many ∙ ap (λ n. route_guards rule (first + 1) many ++ (rule n, Some n) ∷ []) e)

-- the guard of one more route
pub adds_route : (a : List Atom) (rule : ℕ → Condition) (first many next : ℕ) (l m n : List Guard) (x : Guard) → next ≡ first + many → AddsGuards a l m (route_guards rule first many) →
    n ≡ m ++ x ∷ [] → IsMeant a x.formula (rule next) → x.route ≡ Some next → AddsGuards a l n (route_guards rule first (many + 1))
adds_route a rule first many next l m n x s h e f r =
    let one : many + 1 ≡ suc many = omega arith in
    let k = adds_last a l m n (route_guards rule first many) x (rule next, Some next) h e f r in
    let is = ap (route_guards rule first) one ∙ routes-more rule first many ∙ ap (λ z. route_guards rule first many ++ (rule z, Some z) ∷ []) (sym s) in
    subst (AddsGuards a l n) (sym is) k

-- ---- guards that are asked where a condition is true

-- each guard, asked where the condition is true too
abbrev pub each_where : Condition → List Meant → List Meant
each_where c gs = map (λ (g : Meant). (of.All (c ∷ g.0 ∷ []), g.1)) gs

-- what the guard at a place means
record IsGuardAt (a : List Atom) (i : ℕ) (x : Guard) (gs : List Meant) : Type 0 where
  own : Meant
  is : take (i + 1) gs ≡ take i gs ++ own ∷ []
  meant : IsMeant a x.formula own.0
  route : x.route ≡ own.1

guard_at : (a : List Atom) (xs : List Guard) (i : ℕ) (x : Guard) (gs : List Meant) → i < length xs → x ≡ get_or xs i x → AreGuards a xs gs → IsGuardAt a i x gs
guard_at a [] i x gs l e h = absurd (omega (arith, l))
guard_at a (y ∷ xs) i x [] l e h = elim h [ ]
guard_at a (y ∷ xs) zero x (c ∷ cs) l e h = record { own = c; is = refl; meant = subst (λ z. IsMeant a z.formula c.0) (sym e) h.0; route = ap (λ z. z.route) e ∙ h.1 }
guard_at a (y ∷ xs) (suc i) x (c ∷ cs) l e h =
    let k = guard_at a xs i x cs (omega (arith, l)) e h.2 in
    let one : suc i + 1 ≡ suc (i + 1) = omega arith in
    record { own = k.own; is = ap (λ n. take n (c ∷ cs)) one ∙ ap (λ z. c ∷ z) k.is; meant = k.meant; route = k.route }

pub where_more : (a : List Atom) (c : Condition) (xs : List Guard) (i : ℕ) (x : Guard) (gs : List Meant) (l m n : List Guard) (y : Guard) → i < length xs → x ≡ get_or xs i x →
    AreGuards a xs gs → AddsGuards a l m (each_where c (take i gs)) → n ≡ m ++ y ∷ [] → ((d : Condition) → IsMeant a x.formula d → IsMeant a y.formula (of.All (c ∷ d ∷ []))) →
    y.route ≡ x.route → AddsGuards a l n (each_where c (take (i + 1) gs))
where_more a c xs i x gs l m n y lt e h k p f r =
    let g = guard_at a xs i x gs lt e h in
    let is = ap (each_where c) g.is ∙ map-append (λ (z : Meant). (of.All (c ∷ z.0 ∷ []), z.1)) (take i gs) (g.own ∷ []) in
    subst (AddsGuards a l n) (sym is) (adds_last a l m n (each_where c (take i gs)) y (of.All (c ∷ g.own.0 ∷ []), g.own.1) k p (f g.own.0 g.meant) (r ∙ g.route))

all_guards : (a : List Atom) (xs : List Guard) (i : ℕ) (gs : List Meant) → length xs ≤ i → AreGuards a xs gs → take i gs ≡ gs
all_guards a [] zero [] l h = refl
all_guards a [] (suc i) [] l h = refl
all_guards a [] i (c ∷ cs) l h = elim h [ ]
all_guards a (x ∷ xs) i [] l h = elim h [ ]
all_guards a (x ∷ xs) zero (c ∷ cs) l h = absurd (omega (arith, l))
all_guards a (x ∷ xs) (suc i) (c ∷ cs) l h = ap (λ z. c ∷ z) (all_guards a xs i cs (omega (arith, l)) h.2)

-- the last guard, which is asked where the condition is true and none of the others is
pub where_all : (a : List Atom) (c : Condition) (xs : List Guard) (i : ℕ) (gs : List Meant) (l m n : List Guard) (y : Guard) → length xs ≤ i → AreGuards a xs gs →
    AddsGuards a l m (each_where c (take i gs)) → n ≡ m ++ y ∷ [] → IsMeant a y.formula (of.All (c ∷ [])) → y.route ≡ None → AddsGuards a l n (guards_where c gs)
where_all a c xs i gs l m n y past h k e f r =
    adds_last a l m n (each_where c gs) y (of.All (c ∷ []), None) (subst (λ z. AddsGuards a l m (each_where c z)) (all_guards a xs i gs past h) k) e f r

pub meant_alone : (a : List Atom) (x : Formula) (c : Condition) (none xs : List Formula) → none ≡ [] → xs ≡ none ++ x ∷ [] → IsMeant a x c → IsMeant a (formula.All xs) (of.All (c ∷ []))
meant_alone a x c none xs e p m =
    subst (λ z. IsMeant a (formula.All z) (of.All (c ∷ []))) (sym (p ∙ ap (λ z. z ++ x ∷ []) e)) (meant_every a (x ∷ []) (c ∷ []) (m, tt))

-- ---- formulas over more and more atoms

-- one more element's formula
pub meant_more : {X : Type 0} (g : X → Condition) (a b : List Atom) (l m : List Formula) (f : Formula) (xs : List X) (i : ℕ) (x : X) → i < length xs → x ≡ get_or xs i x → Grows a b →
    AreMeant a l (map g (take i xs)) → IsMeant b f (g x) → m ≡ l ++ f ∷ [] → AreMeant b m (map g (take (i + 1) xs))
meant_more g a b l m f xs i x lt is grows h k e =
    subst (λ z. AreMeant b z (map g (take (i + 1) xs))) (sym e)
    (subst (AreMeant b (l ++ f ∷ [])) (sym (map_through g xs i x lt is)) (are_both b l (f ∷ []) (map g (take i xs)) (g x ∷ []) (are_later a b l (map g (take i xs)) grows h) (k, tt)))

-- ---- what is asked, part by part

pub asked_nothing : (a : List Atom) (l : List Guard) (first : ℕ) → IsAsked nothing_asked first first a l l
asked_nothing a l first = record { size = omega arith; guards = adds_nothing a l }

pub asked_then : (x y : Asking) (first next after : ℕ) (a b : List Atom) (l m n : List Guard) → Grows a b → IsAsked x first next a l m → IsAsked y next after b m n →
    IsAsked (then_asked x y) first after b l n
asked_then x y first next after a b l m n g h k =
    let e = h.size in
    let f = k.size in
    record { size = omega arith; guards = adds_more a b l m n (x.guards first) (y.guards (first + x.size)) g h.guards (subst (λ z. AddsGuards b m n (y.guards z)) e k.guards) }

turns-size : (as_ : List Asking) (b : Asking) → (asked_in_turn (as_ ++ b ∷ [])).size ≡ (asked_in_turn as_).size + b.size
turns-size [] b = omega arith
turns-size (x ∷ as_) b = let e = turns-size as_ b in omega arith

turns-guards : (as_ : List Asking) (b : Asking) (first : ℕ) → (asked_in_turn (as_ ++ b ∷ [])).guards first ≡ (asked_in_turn as_).guards first ++ b.guards (first + (asked_in_turn as_).size)
turns-guards [] b first = let e : first ≡ first + 0 = omega arith in append-nil (b.guards first) ∙ ap b.guards e
turns-guards (x ∷ as_) b first =
    let rest = asked_in_turn as_ in
    let e : first + x.size + rest.size ≡ first + (x.size + rest.size) = omega arith in
    ap (λ z. x.guards first ++ z) (turns-guards as_ b (first + x.size))
    ∙ sym (append_assoc (x.guards first) (rest.guards (first + x.size)) (b.guards (first + x.size + rest.size)))
    ∙ ap (λ z. (x.guards first ++ rest.guards (first + x.size)) ++ b.guards z) e

asked_last : (as_ : List Asking) (x : Asking) (first next after : ℕ) (a b : List Atom) (l m n : List Guard) → Grows a b → IsAsked (asked_in_turn as_) first next a l m →
    IsAsked x next after b m n → IsAsked (asked_in_turn (as_ ++ x ∷ [])) first after b l n
asked_last as_ x first next after a b l m n g h k =
    let t = asked_then (asked_in_turn as_) x first next after a b l m n g h k in
    record { size = t.size ∙ ap (λ z. first + z) (sym (turns-size as_ x)); guards = subst (AddsGuards b l n) (sym (turns-guards as_ x first)) t.guards }

-- what one more element asks
pub asked_more : {X : Type 0} (f : X → Asking) (xs : List X) (i : ℕ) (x : X) (own : Asking) (first next after : ℕ) (a b : List Atom) (l m n : List Guard) → i < length xs →
    x ≡ get_or xs i x → f x ≡ own → Grows a b → IsAsked (asked_in_turn (map f (take i xs))) first next a l m → IsAsked own next after b m n →
    IsAsked (asked_in_turn (map f (take (i + 1) xs))) first after b l n
asked_more f xs i x own first next after a b l m n lt e o g h k =
    subst (λ z. IsAsked (asked_in_turn z) first after b l n) (sym (map_through f xs i x lt e))
    (asked_last (map f (take i xs)) (f x) first next after a b l m n g h (subst (λ z. IsAsked z next after b m n) (sym o) k))

pub asked_if : (c : Condition) (x : Asking) (first next : ℕ) (a : List Atom) (none inner l m : List Guard) → none ≡ [] → IsAsked x first next a none inner →
    (AreGuards a inner (x.guards first) → AddsGuards a l m (guards_where c (x.guards first))) → IsAsked (asked_where c x) first next a l m
asked_if c x first next a none inner l m e h f = record { size = h.size; guards = f (adds_are a none inner (x.guards first) e h.guards) }
