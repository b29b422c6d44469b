-- The guards of a host as formulas, place by place.
use Rattle.std.proofs.Common.{◌≡◌, ℕ, zero, suc, ◌<◌, ◌≤◌, List, [], ◌∷◌, ◌++◌, map, length, take, get_or, Some, slice_get, refl, sym, ap, ap₂, arith}
use Rattle.std.specs.List.{list_all}
use Rattle.std.proofs.lemmas.Bool.{and_from}
use Rattle.std.proofs.lemmas.List.{take_all}
use Rattle.goal_form.specs.declared.atom.Atom.{Atom}
use Rattle.goal_form.specs.declared.sight.Condition.{Condition}
use Rattle.goal_form.specs.Formulas.{leaves_below}
use Rattle.goal_form.specs.Conditions.{AreMeant}
use Rattle.match_tree.specs.Guards.{Guard as Meant}
use Rattle.match_tree.specs.Told.{AreGuards}
use Rattle.match_tree.specs.declared.guard.Guard.{Guard}
use Rattle.goal_build.specs.Parts.{asked, taken}

-- the formulas of guards are their conditions
pub asked_meant : (atoms : List Atom) (gs : List Guard) (cs : List Meant) → AreGuards atoms gs cs → AreMeant atoms (asked gs) (map (λ (c : Meant). c.0) cs)
asked_meant atoms [] [] h = record { leaves = refl; are = refl }
asked_meant atoms [] (c ∷ cs) h = elim h [ ]
asked_meant atoms (g ∷ gs) [] h = elim h [ ]
asked_meant atoms (g ∷ gs) (c ∷ cs) h =
    let k = asked_meant atoms gs cs h.2 in
    record {
      leaves = and_from (leaves_below (length atoms) g.formula) (list_all (leaves_below (length atoms)) (asked gs)) h.0.leaves k.leaves;
      are = ap₂ (λ u v. u ∷ v) h.0.is k.are;
    }

-- the routes of guards are theirs
pub taken_are : (atoms : List Atom) (gs : List Guard) (cs : List Meant) → AreGuards atoms gs cs → taken gs ≡ map (λ (c : Meant). c.1) cs
taken_are atoms [] [] h = refl
taken_are atoms [] (c ∷ cs) h = elim h [ ]
taken_are atoms (g ∷ gs) [] h = elim h [ ]
taken_are atoms (g ∷ gs) (c ∷ cs) h = ap₂ (λ u v. u ∷ v) h.1 (taken_are atoms gs cs h.2)

-- the guard at a place, with those before it and after it
pub record IsAt (cs : List Meant) (at r : ℕ) : Type 0 where
  pub own : Condition
  pub after : List Meant
  pub is : cs ≡ take at cs ++ ((own, Some r) ∷ after)
  pub cond : slice_get (map (λ (c : Meant). c.0) cs) at ≡ Some own

pub guard_at : (cs : List Meant) (at r : ℕ) → slice_get (map (λ (c : Meant). c.1) cs) at ≡ Some (Some r) → IsAt cs at r
guard_at [] at r e = absurd (cc)
guard_at (c ∷ cs) zero r e =
    let same : c.1 ≡ Some r = (cc) in
    record { own = c.0; after = cs; is = ap (λ o. (c.0, o) ∷ cs) same; cond = refl }
guard_at (c ∷ cs) (suc at) r e =
    let h = guard_at cs at r e in
    record { own = h.own; after = h.after; is = ap (λ l. c ∷ l) h.is; cond = h.cond }

-- ---- the formulas, place by place

pub asked_long : (gs : List Guard) → length (asked gs) ≡ length gs
asked_long [] = refl
asked_long (g ∷ gs) = ap suc (asked_long gs)

pub asked_read : (gs : List Guard) (i : ℕ) (g : Guard) → i < length gs → g ≡ get_or gs i g → g.formula ≡ get_or (asked gs) i g.formula
asked_read [] i g l e = absurd (omega (arith, l))
asked_read (x ∷ gs) zero g l e = ap (λ z. z.formula) e
asked_read (x ∷ gs) (suc i) g l e = asked_read gs i g (omega (arith, l)) e

pub asked_at : (gs : List Guard) (i : ℕ) (g : Guard) → i < length gs → g ≡ get_or gs i g → slice_get (asked gs) i ≡ Some g.formula
asked_at [] i g l e = absurd (omega (arith, l))
asked_at (x ∷ gs) zero g l e = ap (λ z. Some z.formula) (sym e)
asked_at (x ∷ gs) (suc i) g l e = asked_at gs i g (omega (arith, l)) e

pub asked_take : (gs : List Guard) (n : ℕ) → asked (take n gs) ≡ take n (asked gs)
asked_take gs zero = refl
asked_take [] (suc n) = refl
asked_take (g ∷ gs) (suc n) = ap (λ l. g.formula ∷ l) (asked_take gs n)

pub asked_all : (gs : List Guard) (n : ℕ) → length gs ≤ n → take n (asked gs) ≡ asked gs
asked_all gs n l = take_all n (asked gs) (let m = asked_long gs in omega (arith, l, m))
