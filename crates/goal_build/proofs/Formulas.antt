-- Lists of formulas that mean conditions, in both forms.
use Rattle.std.proofs.Common.{◌≡◌, ℕ, ◌≤◌, take, true, List, [], ◌∷◌, ◌++◌, map, length, refl, ap₂, subst, ◌∙◌}
use Rattle.std.specs.List.{list_all}
use Rattle.std.proofs.lemmas.List.{take_all}
use Rattle.std.proofs.lemmas.Bool.{and_from}
use Rattle.goal_form.specs.declared.atom.Atom.{Atom}
use Rattle.goal_form.specs.declared.formula.Formula.{Formula}
use Rattle.goal_form.specs.declared.sight.Condition.{Condition}
use Rattle.goal_form.specs.Formulas.{leaves_below}
use Rattle.goal_form.specs.declared.formula.Formula as f
use Rattle.goal_form.specs.declared.sight.Condition as of
use Rattle.goal_form.specs.Numbers.{Grows}
use Rattle.goal_form.specs.Conditions.{IsMeant, AreMeant}
use Rattle.goal_form.specs.Meant.{AreMeant as AreEach, AddsMeant}
use Rattle.goal_form.proofs.Meanings.{grows_none, all_below}
use Rattle.goal_form.proofs.Meant.{adds_are, adds_on, adds_push, adds_none, all_from, meant_some}

pub are_meant_from : (a : List Atom) (xs : List Formula) (cs : List Condition) → AreEach a xs cs → AreMeant a xs cs
are_meant_from a [] [] h = record { leaves = refl; are = refl }
are_meant_from a [] (c ∷ cs) h = elim h [ ]
are_meant_from a (x ∷ xs) [] h = elim h [ ]
are_meant_from a (x ∷ xs) (c ∷ cs) h =
    let k = are_meant_from a xs cs h.1 in
    record { leaves = and_from (leaves_below (length a) x) (list_all (leaves_below (length a)) xs) h.0.leaves k.leaves; are = ap₂ (λ u v. u ∷ v) h.0.is k.are }

pub are_meant_of : (a : List Atom) (l xs : List Formula) (cs : List Condition) → l ≡ [] → AddsMeant a l xs cs → AreMeant a xs cs
are_meant_of a l xs cs e h = are_meant_from a xs cs (adds_are a xs cs (subst (λ z. AddsMeant a z xs cs) e h))

pub each_below : (a : List Atom) (xs : List Formula) (cs : List Condition) → AreMeant a xs cs → list_all (λ b. b) (map (leaves_below (length a)) xs) ≡ true
each_below a xs cs h = all_below (length a) xs ∙ h.leaves

pub adds_first : (a b : List Atom) (l m n : List Formula) (x : Formula) (y : Condition) (cs : List Condition) → l ≡ [] → IsMeant a x y → m ≡ l ++ x ∷ [] → Grows a b →
    AddsMeant b m n cs → AddsMeant b [] n (y ∷ cs)
adds_first a b l m n x y cs none is push g h =
    subst (λ z. AddsMeant b z n (y ∷ cs)) none
    (adds_on a b l m n (y ∷ []) cs g (adds_push a a l l m [] x y (grows_none a) (adds_none a l) is push) h)

pub first_meant : (a b : List Atom) (l m n : List Formula) (x : Formula) (y : Condition) (cs : List Condition) → l ≡ [] → IsMeant a x y → m ≡ l ++ x ∷ [] → Grows a b →
    AddsMeant b m n cs → IsMeant b (f.All n) (of.All (y ∷ cs))
first_meant a b l m n x y cs none is push g h = all_from b [] n (y ∷ cs) refl (adds_first a b l m n x y cs none is push g h)

pub any_from : (a : List Atom) (l n : List Formula) (cs : List Condition) → l ≡ [] → AddsMeant a l n cs → IsMeant a (f.Any n) (of.Any cs)
any_from a l n cs e h = meant_some a n cs (adds_are a n cs (subst (λ z. AddsMeant a z n cs) e h))

pub any_all : {X : Type 0} (a : List Atom) (l n : List Formula) (g : X → Condition) (xs : List X) (i : ℕ) → l ≡ [] → length xs ≤ i → AddsMeant a l n (map g (take i xs)) → IsMeant a (f.Any n) (of.Any (map g xs))
any_all a l n g xs i e h k = any_from a l n (map g xs) e (subst (λ z. AddsMeant a l n (map g z)) (take_all i xs h) k)
