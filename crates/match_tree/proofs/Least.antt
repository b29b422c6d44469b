-- The room that the parts of a matcher need is no more than the whole's.
use Rattle.std.proofs.Common.{rules, ◌≡◌, ◌≤◌, ◌<◌, ℕ, zero, suc, List, [], ◌∷◌, Some, length, map, take, get_or, slice_get, max, ap, arith}
use Rattle.text_base.specs.Asked.{Bytes}
use Rattle.match_tree.specs.KeyOrder.{AreWithin}
use Rattle.std.specs.Prelude.{option_map}
use Rattle.match_tree.specs.Rooms.{greatest, or_zero, check_room, checks_room, selector_room, matcher_room, step_room, steps_room}
use Rattle.match_tree.specs.declared.check.Check.{Check}
use Rattle.match_tree.specs.declared.tree.Matcher.{Matcher}
use Rattle.match_tree.specs.declared.tree.Step.{Step}
use Rattle.match_tree.specs.declared.tree.Step.TheFolds.{the_lemmas}

pub greatest_at : {A : Type 0} (f : A → ℕ) (xs : List A) (i : ℕ) (x : A) → i < length xs → x ≡ get_or xs i x → f x ≤ greatest (map f xs)
greatest_at f [] i x lt e = absurd (omega arith)
greatest_at f (y ∷ xs) zero x lt e = let h : f x ≡ f y = ap f e in omega (arith, h)
greatest_at f (y ∷ xs) (suc i) x lt e = let h = greatest_at f xs i x (omega arith) e in omega (arith, h)

pub greatest_get : {A : Type 0} (f : A → ℕ) (xs : List A) (i : ℕ) (x : A) → Some x ≡ slice_get xs i → f x ≤ greatest (map f xs)
greatest_get f [] i x e = absurd (cc e)
greatest_get f (y ∷ xs) zero x e = let s : x ≡ y = cc e in let h : f x ≡ f y = ap f s in omega (arith, h)
greatest_get f (y ∷ xs) (suc i) x e = let h = greatest_get f xs i x e in omega (arith, h)

-- a part of a whole that fits, fits
pub part_fits : {A : Type 0} (f : A → ℕ) (xs : List A) (i : ℕ) (x : A) (room : ℕ) → i < length xs → x ≡ get_or xs i x → greatest (map f xs) ≤ room → f x ≤ room
part_fits f xs i x room lt e h = let p = greatest_at f xs i x lt e in omega (arith, p, h)

module _ {I : Type 0} where
  pub check_fits : (cs : List (Check I)) (i : ℕ) (x : Check I) (room : ℕ) → x ≡ get_or cs i x → i < length cs → checks_room cs ≤ room → check_room x ≤ room
  check_fits cs i x room e lt h = part_fits check_room cs i x room lt e h

module _ {I A : Type 0} where
  pub matcher_room-is : (n : Matcher I A) → matcher_room n ≡ max (max (selector_room n.selector) (greatest (map step_room n.steps))) (or_zero (option_map step_room n.otherwise))
  matcher_room-is n = first_of (search (rules, the_lemmas), grind (arith, the_lemmas))

  pub selector_fits : (n : Matcher I A) (room : ℕ) → matcher_room n ≤ room → selector_room n.selector ≤ room
  selector_fits n room h = let e = matcher_room-is n in omega (arith, e, h)

  pub steps_fit : (n : Matcher I A) (room : ℕ) → matcher_room n ≤ room → steps_room n.steps ≤ room
  steps_fit n room h = let r = matcher_room-is n in omega (arith, r, h)

  pub step_fits : (ss : List (Step I A)) (i : ℕ) (x : Step I A) (room : ℕ) → x ≡ get_or ss i x → i < length ss → steps_room ss ≤ room → step_room x ≤ room
  step_fits ss i x room e lt h = part_fits step_room ss i x room lt e h

  pub left_fits : (n : Matcher I A) (x : Step I A) (room : ℕ) → n.otherwise ≡ Some x → matcher_room n ≤ room → step_room x ≤ room
  left_fits n x room e h = let r = matcher_room-is n in let p : or_zero (option_map step_room n.otherwise) ≡ step_room x = ap (λ o. or_zero (option_map step_room o)) e in omega (arith, r, p, h)

-- one more key
pub within_more : (most : ℕ) (ks : List Bytes) (i : ℕ) (k : Bytes) → i < length ks → k ≡ get_or ks i k → AreWithin most (take i ks) → AreWithin (max most (length k)) (take (suc i) ks)
within_more most [] i k lt e w = absurd (omega arith)
within_more most (x ∷ ks) zero k lt e w = (let h : length k ≡ length x = ap length e in omega (arith, h), tt)
within_more most (x ∷ ks) (suc i) k lt e w = (omega (arith, w.0), within_more most ks i k (omega arith) e w.1)
