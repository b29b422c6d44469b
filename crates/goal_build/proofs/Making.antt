-- The goal that is made of a host's formulas.
use Rattle.std.proofs.Common.{◌≡◌, ℕ, zero, suc, true, List, [], ◌∷◌, ◌++◌, map, length, take, Some, slice_get, refl, sym, ap, ap₂, subst, ◌∙◌, append_assoc}
use Rattle.std.specs.Prelude.{flat_map}
use Rattle.std.specs.List.{list_all}
use Rattle.std.proofs.lemmas.Bool.{and_parts, and_from}
use Rattle.std.proofs.lemmas.Grind.{flat_map-append}
use Rattle.std.proofs.lemmas.List.{map-append}
use Rattle.std.proofs.lemmas.List.Folds.{list_all-append}
use Rattle.goal_form.specs.declared.atom.Atom.{Atom}
use Rattle.goal_form.specs.declared.formula.Formula.{Formula}
use Rattle.goal_form.specs.declared.formula.Formula as f
use Rattle.goal_form.specs.declared.sight.Condition.{Condition}
use Rattle.goal_form.specs.declared.sight.Condition as of
use Rattle.goal_form.specs.Formulas.{leaves_below}
use Rattle.goal_form.specs.Goals.{AreDistinct}
use Rattle.goal_form.specs.Conditions.{condition_of, IsMeant, AreMeant}
use Rattle.goal_form.proofs.Meanings.{meant_all, are_more, list_grows}
use Rattle.cfg_types.specs.declared.configs.Config.{Config}
use Rattle.goal_build.specs.declared.host_goals.HostGoals.{HostGoals}
use Rattle.goal_build.specs.Hosts.{host_condition, tls_conditions}
use Rattle.match_tree.specs.Guards.{Guard}
use Rattle.goal_build.specs.Guards.{guards}
use Rattle.goal_build.specs.Numbering.{numbers_in}
use Rattle.goal_build.specs.Renumbering.{IsRenumbered, AreRenumbered, AreRefused, InOrder}
use Rattle.goal_build.specs.Goals.{IsGoal}
use Rattle.goal_build.specs.HostGoals.{AreGoalsOf}
use Rattle.goal_build.specs.Parts.{asked, taken}
use Rattle.goal_build.proofs.Orders.{order_on, order_to}
use Rattle.goal_build.proofs.Renumbered.{numbers_all}
use Rattle.goal_build.proofs.Guarding.{IsAt, guard_at, asked_meant, taken_are}

pub below_take : (n : ℕ) (xs : List Formula) (at : ℕ) → list_all (λ b. b) (map (leaves_below n) xs) ≡ true → list_all (λ b. b) (map (leaves_below n) (take at xs)) ≡ true
below_take n xs zero h = refl
below_take n [] (suc at) h = refl
below_take n (x ∷ xs) (suc at) h =
    let k = and_parts (leaves_below n x) (list_all (λ b. b) (map (leaves_below n) xs)) h in
    and_from (leaves_below n x) (list_all (λ b. b) (map (leaves_below n) (take at xs))) k.0 (below_take n xs at k.1)

are_append : (a : List Atom) (xs ys : List Formula) (cs ds : List Condition) → AreMeant a xs cs → AreMeant a ys ds → AreMeant a (xs ++ ys) (cs ++ ds)
are_append a xs ys cs ds h k =
    record {
      leaves = list_all-append (leaves_below (length a)) xs ys ∙ and_from (list_all (leaves_below (length a)) xs) (list_all (leaves_below (length a)) ys) h.leaves k.leaves;
      are = map-append (condition_of a) xs ys ∙ ap₂ (λ u v. u ++ v) h.are k.are;
    }

nots : (cf : Formula → Condition) (xs : List Formula) (gs : List Guard) (at : ℕ) → map cf xs ≡ map (λ (g : Guard). g.0) gs →
    map (λ x. of.Not (cf x)) (take at xs) ≡ map (λ (g : Guard). of.Not g.0) (take at gs)
nots cf xs gs zero e = refl
nots cf [] [] (suc at) e = refl
nots cf [] (g ∷ gs) (suc at) e = absurd (cc)
nots cf (x ∷ xs) [] (suc at) e = absurd (cc)
nots cf (x ∷ xs) (g ∷ gs) (suc at) e =
    let head : cf x ≡ g.0 = (cc) in
    let rest : map cf xs ≡ map (λ (z : Guard). z.0) gs = (cc) in
    ap₂ (λ u v. u ∷ v) (ap of.Not head) (nots cf xs gs at rest)

get_map : {A B : Type 0} (g : A → B) (xs : List A) (i : ℕ) (x : A) → slice_get xs i ≡ Some x → slice_get (map g xs) i ≡ Some (g x)
get_map g [] i x e = absurd (cc)
get_map g (y ∷ xs) zero x e = let s : y ≡ x = cc in ap (λ z. Some (g z)) s
get_map g (y ∷ xs) (suc i) x e = get_map g xs i x e

flat_both : (xs ys : List Formula) → flat_map (λ k. k) (map numbers_in xs) ++ flat_map (λ k. k) (map numbers_in ys) ≡ flat_map (λ k. k) (map numbers_in (xs ++ ys))
flat_both xs ys = sym (ap (flat_map (λ k. k)) (map-append numbers_in xs ys) ∙ flat_map-append (λ k. k) (map numbers_in xs) (map numbers_in ys))

module _ (g : HostGoals) (c : Config) (h r at : ℕ) (own : Formula) (a b d : List Atom) (shared members refused all : List Formula) (y : Formula)
    (are : AreGoalsOf c h g) (there : slice_get (asked g.guards) at ≡ Some own) (route : slice_get (taken g.guards) at ≡ Some (Some r))
    (shares : AreRenumbered g.atoms g.shared [] a shared) (guard : IsRenumbered g.atoms own a b y) (push : members ≡ shared ++ y ∷ [])
    (nones : AreRefused g.atoms (take at (asked g.guards)) b d refused) (append : all ≡ members ++ refused) (apart : AreDistinct d) where
  abbrev gs : List Guard
  gs = guards c h are.host

  abbrev cf : Formula → Condition
  cf = condition_of g.atoms

  asked_are : map cf (asked g.guards) ≡ map (λ (x : Guard). x.0) gs
  asked_are = (asked_meant g.atoms g.guards gs are.guarded).are

  place : IsAt gs at r
  place = guard_at gs at r (ap (λ l. slice_get l at) (sym (taken_are g.atoms g.guards gs are.guarded)) ∙ route)

  own_is : cf own ≡ place.own
  own_is =
      let same : Some (cf own) ≡ Some place.own = sym (get_map cf (asked g.guards) at own there) ∙ ap (λ l. slice_get l at) asked_are ∙ place.cond in
      (cc)

  abbrev before : List Guard
  before = take at gs

  abbrev whole : List Formula
  whole = (shared ++ y ∷ []) ++ refused

  all_is : all ≡ whole
  all_is = append ∙ ap (λ l. l ++ refused) push

  conditions : AreMeant d whole ((map cf g.shared ++ cf own ∷ []) ++ map (λ x. of.Not (cf x)) (take at (asked g.guards)))
  conditions =
      are_append d (shared ++ y ∷ []) refused (map cf g.shared ++ cf own ∷ []) (map (λ x. of.Not (cf x)) (take at (asked g.guards)))
      (list_grows b d (shared ++ y ∷ []) (map cf g.shared ++ cf own ∷ []) nones.grows (are_more a b shared (map cf g.shared) y (cf own) guard.grows shares.meant guard.meant))
      nones.meant

  abbrev listed : List Condition
  listed = host_condition c h are.host ∷ (tls_conditions are.host.tls ++ (place.own ∷ map (λ (x : Guard). of.Not x.0) before))

  listed_is : (map cf g.shared ++ cf own ∷ []) ++ map (λ x. of.Not (cf x)) (take at (asked g.guards)) ≡ listed
  listed_is =
      ap₂ (λ u v. u ++ v) (ap₂ (λ u v. u ++ v ∷ []) are.shared.are own_is) (nots cf (asked g.guards) gs at asked_are)
      ∙ ap (λ l. host_condition c h are.host ∷ l) (append_assoc (tls_conditions are.host.tls) (place.own ∷ []) (map (λ (x : Guard). of.Not x.0) before))

  meant : IsMeant d (f.All all) (of.All listed)
  meant = meant_all d all listed (subst (λ l. AreMeant d l listed) (sym all_is) (subst (AreMeant d whole) listed_is conditions))

  single : numbers_in y ≡ flat_map (λ k. k) (map numbers_in (y ∷ []))
  single = sym (append_nil_of (numbers_in y))
    where
      append_nil_of : (l : List ℕ) → l ++ [] ≡ l
      append_nil_of [] = refl
      append_nil_of (x ∷ l) = ap (λ k. x ∷ k) (append_nil_of l)

  ordered : InOrder [] d (numbers_in (f.All all))
  ordered =
      order_to [] d _ _
      (ap (λ l. (flat_map (λ k. k) (map numbers_in shared) ++ l) ++ flat_map (λ k. k) (map numbers_in refused)) single
      ∙ ap (λ l. l ++ flat_map (λ k. k) (map numbers_in refused)) (flat_both shared (y ∷ []))
      ∙ flat_both (shared ++ y ∷ []) refused ∙ ap (λ l. flat_map (λ k. k) (map numbers_in l)) (sym all_is) ∙ sym (numbers_all all))
      (order_on [] b d (flat_map (λ k. k) (map numbers_in shared) ++ numbers_in y) (flat_map (λ k. k) (map numbers_in refused))
      (order_on [] a b (flat_map (λ k. k) (map numbers_in shared)) (numbers_in y) shares.order guard.order) nones.order)

  pub goal_made : IsGoal c r (record { atoms = d; formula = f.All all })
  goal_made =
      record {
        h = h;
        host = are.host;
        own = place.own;
        before = before;
        guarded = record { after = place.after; is_host = are.is_host; is = place.is };
        numbered = record { meant = meant; apart = apart; order = ordered [] refl };
      }
