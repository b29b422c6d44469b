-- The layers of a check and of the predicate that it is built from.
use Rattle.std.proofs.Common.{rules, ◌≡◌, ℕ, ◌+◌, ◌<◌, not, List, [], ◌∷◌, ◌++◌, Option, map, length, get_or, take, ap, sym, ◌∙◌, arith}
use Rattle.std.specs.List.{list_any, list_all}
use Rattle.std.proofs.lemmas.List.{take_more, map-append}
use Rattle.text_base.specs.Asked.{Bytes, Asked}
use Rattle.cfg_types.specs.Trees.{input_of, predicate_holds, single_holds}
use Rattle.cfg_types.specs.declared.rules.TextRule.{TextRule}
use Rattle.cfg_types.specs.declared.trees.InputRule.{InputRule}
use Rattle.cfg_types.specs.declared.trees.Predicate.{Predicate}
use Rattle.cfg_types.specs.declared.trees.Predicate as predicate
use Rattle.cfg_types.specs.declared.trees.Predicate.TheFolds as folds
use Rattle.text_match.specs.Meanings.{TextMeaning}
use Rattle.match_tree.specs.Checks.{check_holds}
use Rattle.match_tree.specs.declared.check.Check.{Check, Single, Any, All, Not}
use Rattle.match_tree.specs.declared.check.Check.TheFolds.{the_lemmas}

module _ {I : Type 0} (sees : I → Asked → Option Bytes) (q : Asked) where
  pub same-Single : (i : I) (t : TextMeaning) (r : InputRule) (x : TextRule) → t.rule ≡ x → sees i q ≡ input_of r q →
      check_holds sees q (Single i t) ≡ predicate_holds q (predicate.Single r x)
  same-Single i t r x e s =
      let left : check_holds sees q (Single i t) ≡ single_holds t.rule (sees i q) = first_of (search (rules, the_lemmas), grind (arith, the_lemmas)) in
      let right : predicate_holds q (predicate.Single r x) ≡ single_holds x (input_of r q) = first_of (search (rules, folds.the_lemmas), grind (arith, folds.the_lemmas)) in
      left ∙ ap (λ y. single_holds y (sees i q)) e ∙ ap (single_holds x) s ∙ sym right

  pub same-Any : (cs : List (Check I)) (ps : List Predicate) → map (check_holds sees q) cs ≡ map (predicate_holds q) ps →
      check_holds sees q (Any cs) ≡ predicate_holds q (predicate.Any ps)
  same-Any cs ps e =
      let left : check_holds sees q (Any cs) ≡ list_any (λ b. b) (map (check_holds sees q) cs) = first_of (search (rules, the_lemmas), grind (arith, the_lemmas)) in
      let right : predicate_holds q (predicate.Any ps) ≡ list_any (λ b. b) (map (predicate_holds q) ps) = first_of (search (rules, folds.the_lemmas), grind (arith, folds.the_lemmas)) in
      left ∙ ap (list_any (λ b. b)) e ∙ sym right

  pub same-All : (cs : List (Check I)) (ps : List Predicate) → map (check_holds sees q) cs ≡ map (predicate_holds q) ps →
      check_holds sees q (All cs) ≡ predicate_holds q (predicate.All ps)
  same-All cs ps e =
      let left : check_holds sees q (All cs) ≡ list_all (λ b. b) (map (check_holds sees q) cs) = first_of (search (rules, the_lemmas), grind (arith, the_lemmas)) in
      let right : predicate_holds q (predicate.All ps) ≡ list_all (λ b. b) (map (predicate_holds q) ps) = first_of (search (rules, folds.the_lemmas), grind (arith, folds.the_lemmas)) in
      left ∙ ap (list_all (λ b. b)) e ∙ sym right

  pub same-Not : (c : Check I) (p : Predicate) → check_holds sees q c ≡ predicate_holds q p → check_holds sees q (Not c) ≡ predicate_holds q (predicate.Not p)
  same-Not c p e =
      let left : check_holds sees q (Not c) ≡ not (check_holds sees q c) = first_of (search (rules, the_lemmas), grind (arith, the_lemmas)) in
      let right : predicate_holds q (predicate.Not p) ≡ not (predicate_holds q p) = first_of (search (rules, folds.the_lemmas), grind (arith, folds.the_lemmas)) in
      left ∙ ap not e ∙ sym right

-- one more element behind those that correspond
pub one_more : {A B C : Type 0} (f : A → C) (g : B → C) (xs next : List A) (x : A) (ys : List B) (i : ℕ) (y : B) → map f xs ≡ map g (take i ys) → next ≡ xs ++ x ∷ [] → f x ≡ g y → i < length ys → y ≡ get_or ys i y →
    map f next ≡ map g (take (i + 1) ys)
one_more f g xs next x ys i y before e same lt is =
    ap (map f) e
    ∙ map-append f xs (x ∷ [])
    ∙ ap (λ l. l ++ f x ∷ []) before
    ∙ ap (λ z. map g (take i ys) ++ z ∷ []) same
    ∙ ap (λ z. map g (take i ys) ++ g z ∷ []) is
    ∙ sym (map-append g (take i ys) (get_or ys i y ∷ []))
    ∙ ap (map g) (sym (take_more ys i y lt))
