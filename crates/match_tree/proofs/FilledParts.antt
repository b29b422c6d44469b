-- The parts of filled trees and predicates are filled.
use Rattle.std.proofs.Common.{rules, ◌≡◌, ℕ, ◌<◌, zero, suc, Bool, true, not, ◌&&◌, List, [], ◌∷◌, ◌++◌, length, map, get_or, Some, refl, sym, ap, subst, ◌∙◌, arith, IsTrue, All}
use Rattle.std.specs.Prelude.{option_map}
use Rattle.std.specs.List.{list_all}
use Rattle.std.proofs.lemmas.Bool.{and_parts}
use Rattle.std.proofs.lemmas.List.Elements.{All-head, All-tail}
use Rattle.text_base.specs.Asked.{Bytes}
use Rattle.cfg_types.specs.Kinds.{is_empty, is_matcher_text, byte_order, longer_first}
use Rattle.cfg_types.specs.Lawful.{IsLawfulPredicate, IsLawfulTree, is_input, or_true, tree_is_filled, then_is_filled, body_is_filled, entry_is_filled, key_filled, tree_predicates, then_predicates, body_predicates, entry_predicates, key_predicates}
use Rattle.cfg_types.specs.Order.{joined, or_nothing}
use Rattle.cfg_types.specs.declared.trees.InputRule.{InputRule}
use Rattle.cfg_types.specs.declared.trees.Predicate.{Predicate}
use Rattle.cfg_types.specs.declared.trees.Tree.{Tree}
use Rattle.cfg_types.specs.declared.trees.Then.{Then, Inner}
use Rattle.cfg_types.specs.declared.trees.TreeBody.{TreeBody, List as Entries, Exact, Prefix}
use Rattle.cfg_types.specs.declared.trees.Entry.{Entry}
use Rattle.cfg_types.specs.declared.trees.KeyThen.{KeyThen}
use Rattle.cfg_types.specs.declared.trees.Then.TheFolds as folds
use Rattle.match_tree.specs.LawfulParts.{IsFilledPredicate, AreFilledPredicates, IsFilledTree, IsFilledThen, IsFilledBody, AreFilledEntries, AreFilledKeys}
use Rattle.match_tree.proofs.GuardPredicates.{All-split, filled-tail}
use Rattle.match_tree.proofs.GuardTrees.{filled-Inner, tests-Inner, filled-List, tests-List, filled-Exact, tests-Exact, filled-Prefix, tests-Prefix, IsFilledMap, map_parts}

-- ---- layers by their fields

filled-tree : (t : Tree) → tree_is_filled t ≡ (body_is_filled t.body && or_true (option_map then_is_filled t.otherwise))
filled-tree t = first_of (search (rules, folds.the_lemmas), grind (arith, folds.the_lemmas))

tests-tree : (t : Tree) → tree_predicates t ≡ body_predicates t.body ++ or_nothing (option_map then_predicates t.otherwise)
tests-tree t = first_of (search (rules, folds.the_lemmas), grind (arith, folds.the_lemmas))

filled-entry : (e : Entry) → entry_is_filled e ≡ then_is_filled e.next
filled-entry e = first_of (search (rules, folds.the_lemmas), grind (arith, folds.the_lemmas))

tests-entry : (e : Entry) → entry_predicates e ≡ e.test ∷ then_predicates e.next
tests-entry e = first_of (search (rules, folds.the_lemmas), grind (arith, folds.the_lemmas))

filled-key : (k : KeyThen) → key_filled k ≡ (k.key, then_is_filled k.next)
filled-key k = first_of (search (rules, folds.the_lemmas), grind (arith, folds.the_lemmas))

tests-key : (k : KeyThen) → key_predicates k ≡ then_predicates k.next
tests-key k = first_of (search (rules, folds.the_lemmas), grind (arith, folds.the_lemmas))

-- ---- trees

pub lawful_filled : (t : Tree) → IsLawfulTree t → IsFilledTree t
lawful_filled t h = record { filled = h.filled; predicates = h.predicates }

filled_both : (t : Tree) → IsFilledTree t → IsTrue (body_is_filled t.body) × IsTrue (or_true (option_map then_is_filled t.otherwise))
filled_both t h = and_parts (body_is_filled t.body) (or_true (option_map then_is_filled t.otherwise)) (sym (filled-tree t) ∙ h.filled)

tests_both : (t : Tree) → IsFilledTree t → All IsLawfulPredicate (body_predicates t.body) × All IsLawfulPredicate (or_nothing (option_map then_predicates t.otherwise))
tests_both t h =
    All-split IsLawfulPredicate (body_predicates t.body) (or_nothing (option_map then_predicates t.otherwise)) (subst (All IsLawfulPredicate) (tests-tree t) h.predicates)

pub filled_body : (t : Tree) → IsFilledTree t → IsFilledBody t.body
filled_body t h = record { filled = (filled_both t h).0; predicates = (tests_both t h).0 }

pub filled_otherwise : (t : Tree) (o : Then) → t.otherwise ≡ Some o → IsFilledTree t → IsFilledThen o
filled_otherwise t o e h = record {
  filled = subst (λ x. IsTrue (or_true (option_map then_is_filled x))) e (filled_both t h).1;
  predicates = subst (λ x. All IsLawfulPredicate (or_nothing (option_map then_predicates x))) e (tests_both t h).1;
}

pub filled_inner : (t : Then) (x y : Tree) → t ≡ Inner x → y ≡ x → IsFilledThen t → IsFilledTree y
filled_inner t x y e s h =
    let k : IsFilledThen (Inner x) = subst IsFilledThen e h in
    subst IsFilledTree (sym s) (record { filled = sym (filled-Inner x) ∙ k.filled; predicates = subst (All IsLawfulPredicate) (tests-Inner x) k.predicates })

-- ---- bodies

pub filled_list : (b : TreeBody) (es us : List Entry) → b ≡ Entries es → us ≡ es → IsFilledBody b → AreFilledEntries us
filled_list b es us e s h =
    let k : IsFilledBody (Entries es) = subst IsFilledBody e h in
    let f = and_parts (not (is_empty (map entry_is_filled es))) (list_all (λ z. z) (map entry_is_filled es)) (sym (filled-List es) ∙ k.filled) in
    subst AreFilledEntries (sym s) (record { filled = f.1; predicates = subst (All IsLawfulPredicate) (tests-List es) k.predicates })

all_texts : (ks : List KeyThen) → list_all (λ k. is_matcher_text k.0) (map key_filled ks) ≡ true → IsTrue (list_all (λ k. is_matcher_text k.key) ks)
all_texts ks h = sym (same ks) ∙ h
  where
    same : (ks : List KeyThen) → list_all (λ k. is_matcher_text k.0) (map key_filled ks) ≡ list_all (λ k. is_matcher_text k.key) ks
    same [] = refl
    same (k ∷ ks) = ap (λ z. is_matcher_text z.0 && list_all (λ x. is_matcher_text x.0) (map key_filled ks)) (filled-key k) ∙ ap (λ b. is_matcher_text k.key && b) (same ks)

all_filled : (ks : List KeyThen) → list_all (λ k. k.1) (map key_filled ks) ≡ true → IsTrue (list_all (λ k. (key_filled k).1) ks)
all_filled ks h = sym (same ks) ∙ h
  where
    same : (ks : List KeyThen) → list_all (λ k. k.1) (map key_filled ks) ≡ list_all (λ k. (key_filled k).1) ks
    same [] = refl
    same (k ∷ ks) = ap (λ b. (key_filled k).1 && b) (same ks)

keys_of_map : (order : Bytes → Bytes → Bool) (i : InputRule) (ks us : List KeyThen) → us ≡ ks → IsFilledMap order i ks → All IsLawfulPredicate (joined (map key_predicates ks)) →
    IsTrue (is_input i) × AreFilledKeys us
keys_of_map order i ks us s m p = (m.input, subst AreFilledKeys (sym s) (record { keys = all_texts ks m.texts; filled = all_filled ks m.filled; predicates = p }))

pub filled_exact : (b : TreeBody) (i : InputRule) (ks us : List KeyThen) → b ≡ Exact i ks → us ≡ ks → IsFilledBody b → IsTrue (is_input i) × AreFilledKeys us
filled_exact b i ks us e s h =
    let k : IsFilledBody (Exact i ks) = subst IsFilledBody e h in
    keys_of_map byte_order i ks us s (map_parts byte_order i ks (sym (filled-Exact i ks) ∙ k.filled)) (subst (All IsLawfulPredicate) (tests-Exact i ks) k.predicates)

pub filled_prefix : (b : TreeBody) (i : InputRule) (ks us : List KeyThen) → b ≡ Prefix i ks → us ≡ ks → IsFilledBody b → IsTrue (is_input i) × AreFilledKeys us
filled_prefix b i ks us e s h =
    let k : IsFilledBody (Prefix i ks) = subst IsFilledBody e h in
    keys_of_map longer_first i ks us s (map_parts longer_first i ks (sym (filled-Prefix i ks) ∙ k.filled)) (subst (All IsLawfulPredicate) (tests-Prefix i ks) k.predicates)

-- ---- entries

lawful_test : (p : Predicate) → IsLawfulPredicate p → IsFilledPredicate p
lawful_test p h = record { filled = h.filled; rules = h.rules }

first_entry : (e : Entry) → IsTrue (entry_is_filled e) → All IsLawfulPredicate (entry_predicates e) → IsFilledPredicate e.test × IsFilledThen e.next
first_entry e f p =
    let q = subst (All IsLawfulPredicate) (tests-entry e) p in (
      lawful_test e.test (All-head IsLawfulPredicate e.test (then_predicates e.next) q),
      record { filled = sym (filled-entry e) ∙ f; predicates = All-tail IsLawfulPredicate e.test (then_predicates e.next) q },
    )

pub filled_entry : (es : List Entry) (i : ℕ) (e : Entry) → i < length es → e ≡ get_or es i e → AreFilledEntries es → IsFilledPredicate e.test × IsFilledThen e.next
filled_entry [] i e l is h = absurd (omega (arith, l))
filled_entry (x ∷ es) zero e l is h =
    let f = and_parts (entry_is_filled x) (list_all (λ z. z) (map entry_is_filled es)) h.filled in
    let p = All-split IsLawfulPredicate (entry_predicates x) (joined (map entry_predicates es)) h.predicates in
    subst (λ z. IsFilledPredicate z.test × IsFilledThen z.next) (sym is) (first_entry x f.0 p.0)
filled_entry (x ∷ es) (suc i) e l is h =
    let f = and_parts (entry_is_filled x) (list_all (λ z. z) (map entry_is_filled es)) h.filled in
    let p = All-split IsLawfulPredicate (entry_predicates x) (joined (map entry_predicates es)) h.predicates in
    filled_entry es i e (omega (arith, l)) is (record { filled = f.1; predicates = p.1 })

first_key : (k : KeyThen) → IsTrue (is_matcher_text k.key) → IsTrue (key_filled k).1 → All IsLawfulPredicate (key_predicates k) → IsTrue (is_matcher_text k.key) × IsFilledThen k.next
first_key k t f p = (t, record { filled = sym (ap (λ z. z.1) (filled-key k)) ∙ f; predicates = subst (All IsLawfulPredicate) (tests-key k) p })

pub filled_key : (ks : List KeyThen) (i : ℕ) (k : KeyThen) → i < length ks → k ≡ get_or ks i k → AreFilledKeys ks → IsTrue (is_matcher_text k.key) × IsFilledThen k.next
filled_key [] i k l is h = absurd (omega (arith, l))
filled_key (x ∷ ks) zero k l is h =
    let t = and_parts (is_matcher_text x.key) (list_all (λ z. is_matcher_text z.key) ks) h.keys in
    let f = and_parts (key_filled x).1 (list_all (λ z. (key_filled z).1) ks) h.filled in
    let p = All-split IsLawfulPredicate (key_predicates x) (joined (map key_predicates ks)) h.predicates in
    subst (λ z. IsTrue (is_matcher_text z.key) × IsFilledThen z.next) (sym is) (first_key x t.0 f.0 p.0)
filled_key (x ∷ ks) (suc i) k l is h =
    let t = and_parts (is_matcher_text x.key) (list_all (λ z. is_matcher_text z.key) ks) h.keys in
    let f = and_parts (key_filled x).1 (list_all (λ z. (key_filled z).1) ks) h.filled in
    let p = All-split IsLawfulPredicate (key_predicates x) (joined (map key_predicates ks)) h.predicates in
    filled_key ks i k (omega (arith, l)) is (record { keys = t.1; filled = f.1; predicates = p.1 })

-- ---- predicates

pub filled_member : (ps : List Predicate) (i : ℕ) (p : Predicate) → i < length ps → p ≡ get_or ps i p → AreFilledPredicates ps → IsFilledPredicate p
filled_member [] i p l is h = absurd (omega (arith, l))
filled_member (x ∷ ps) zero p l is h = subst IsFilledPredicate (sym is) (filled-tail x ps h).0
filled_member (x ∷ ps) (suc i) p l is h = filled_member ps i p (omega (arith, l)) is (filled-tail x ps h).1
