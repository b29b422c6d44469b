-- Conditions of inputs, of keys and of predicates are true at a valid request exactly where these hold.
use Rattle.std.proofs.Common.{rules, ◌≡◌, Bool, true, false, not, ◌&&◌, List, [], ◌∷◌, ◌++◌, map, Option, Some, None, refl, sym, ap, ap₂, subst, ◌∙◌, arith, IsTrue, All, bytes_eq}
use Rattle.std.specs.List.{list_all, list_any}
use Rattle.std.proofs.lemmas.Bool.{and_parts}
use Rattle.std.proofs.lemmas.List.Elements.{All-head, All-tail, All-nil, All-cons}
use Rattle.text_base.specs.Asked.{Bytes, Asked}
use Rattle.text_base.specs.Requests.{is_valid}
use Rattle.text_base.specs.Seen.{seen, field_named}
use Rattle.text_base.specs.declared.request.Field.TheVariants as field
use Rattle.rx_term.specs.declared.terms.Term.{Term}
use Rattle.rx_rows.specs.Rows.{IsPrinted}
use Rattle.rx_build.specs.Texts.{exact_term, prefix_term}
use Rattle.rx_build.specs.Queries.{IsKey}
use Rattle.rx_build.specs.Rules.{text_term, is_pattern}
use Rattle.rx_build.proofs.RuleTerms.{in_is, matcher_printed, text_law}
use Rattle.rx_build.proofs.TextRules.{exact_law, prefix_law}
use Rattle.rx_build.proofs.SeenTexts.{seen_law}
use Rattle.rx_build.proofs.QueryRules.{query_value_law}
use Rattle.goal_form.specs.Conditions.{condition_at}
use Rattle.goal_form.specs.Goals.{text_in}
use Rattle.goal_form.specs.declared.sight.Condition.{Condition}
use Rattle.goal_form.specs.declared.sight.Condition as of
use Rattle.goal_form.proofs.ConditionTruths.{at_within}
use Rattle.goal_form.proofs.Meanings.{at_all, at_any, at_not}
use Rattle.cfg_types.specs.Kinds.{is_empty, is_matcher_text, is_query_name}
use Rattle.cfg_types.specs.Lawful.{IsLawfulText, is_input, two_or_more, predicate_is_filled, predicate_rules}
use Rattle.cfg_types.specs.Order.{joined}
use Rattle.cfg_types.specs.Trees.{input_of, single_holds, predicate_holds, equal_key, prefix_key}
use Rattle.cfg_types.specs.declared.rules.TextRule.{TextRule}
use Rattle.cfg_types.specs.declared.trees.InputRule.{InputRule}
use Rattle.cfg_types.specs.declared.trees.InputRule.TheVariants as input
use Rattle.cfg_types.specs.declared.trees.Predicate.{Predicate}
use Rattle.cfg_types.specs.declared.trees.Predicate as predicate
use Rattle.cfg_types.specs.declared.trees.Predicate.TheOpen as layer
use Rattle.cfg_types.specs.declared.trees.Predicate.TheVariants.{rolls-Single, rolls-Any, rolls-All, rolls-Not}
use Rattle.cfg_types.specs.declared.trees.Predicate.TheViews.{roll-Predicate}
use Rattle.cfg_types.specs.declared.trees.Predicate.TheFolds as folds
use Rattle.cfg_types.specs.declared.trees.Predicate.TheFolds.{ind-Predicate, map-Predicate}
use Rattle.match_tree.specs.Guards.{input_condition, key_condition, predicate_condition}
use Rattle.match_tree.specs.GuardLaws.{PredicateLaw}
use Rattle.match_tree.specs.InputLaw.{told_law, target_is}
use Rattle.match_tree.specs.LawfulParts.{IsFilledPredicate, AreFilledPredicates}
use Rattle.match_tree.specs.declared.input.SeenInput.TheVariants as seen_input

-- ---- inputs

pub query_key : (n : Bytes) → IsTrue (is_query_name n) → IsKey n
query_key n h =
    let k = and_parts (is_matcher_text n && not (is_empty n)) (not (list_any _ n)) h in
    (matcher_printed n (and_parts (is_matcher_text n) (not (is_empty n)) k.0).0, k.1)

-- the condition of a lawful input is true where its text is there and in the term
pub input_law : (i : InputRule) (t : Term) (user : Bool) (q : Asked) → IsTrue (is_input i) → IsTrue (is_valid q) →
    condition_at (seen q) (input_condition i t user) ≡ text_in t (input_of i q)
input_law (input.Header name) t user q l v = at_within (seen q) (field_named name) t user
input_law (input.Query key) t user q l v = told_law (seen_input.Query key) t user q (query_key key l) v

-- the text that an input sees of a valid request is printed
pub input_printed : (i : InputRule) (q : Asked) (w : Bytes) → IsTrue (is_valid q) → input_of i q ≡ Some w → IsPrinted w
input_printed (input.Header name) q w v e = seen_law q (field_named name) w v e
input_printed (input.Query key) q w v e = query_value_law key w q.target (seen_law q field.Target q.target v (target_is q)) e

-- ---- texts that may be absent

text_at : (r : TextRule) (o : Option Bytes) → IsLawfulText r → ((w : Bytes) → o ≡ Some w → IsPrinted w) → text_in (text_term r) o ≡ single_holds r o
text_at r None l p = refl
text_at r (Some w) l p = text_law r w l (p w refl)

exact_at : (key : Bytes) (o : Option Bytes) → IsTrue (is_matcher_text key) → text_in (exact_term false key) o ≡ equal_key o key
exact_at key None l = refl
exact_at key (Some w) l = in_is (exact_term false key) w (bytes_eq w key) (exact_law false key w (matcher_printed key l))

prefix_at : (key : Bytes) (o : Option Bytes) → IsTrue (is_matcher_text key) → ((w : Bytes) → o ≡ Some w → IsPrinted w) → text_in (prefix_term false key) o ≡ prefix_key o key
prefix_at key None l p = refl
prefix_at key (Some w) l p = in_is (prefix_term false key) w (prefix_key (Some w) key) (prefix_law false key w (matcher_printed key l) (p w refl))

-- ---- keys

pub exact_key_law : (i : InputRule) (key : Bytes) (q : Asked) → IsTrue (is_input i) → IsTrue (is_matcher_text key) → IsTrue (is_valid q) →
    condition_at (seen q) (key_condition false i key) ≡ equal_key (input_of i q) key
exact_key_law i key q l k v = input_law i (exact_term false key) false q l v ∙ exact_at key (input_of i q) k

pub prefix_key_law : (i : InputRule) (key : Bytes) (q : Asked) → IsTrue (is_input i) → IsTrue (is_matcher_text key) → IsTrue (is_valid q) →
    condition_at (seen q) (key_condition true i key) ≡ prefix_key (input_of i q) key
prefix_key_law i key q l k v = input_law i (prefix_term false key) false q l v ∙ prefix_at key (input_of i q) k (λ w e. input_printed i q w v e)

-- ---- layers of predicates

pub condition-Single : (i : InputRule) (r : TextRule) → predicate_condition (predicate.Single i r) ≡ input_condition i (text_term r) (is_pattern r.form)
condition-Single i r = first_of (search (rules, folds.the_lemmas), grind (arith, folds.the_lemmas))

pub condition-Any : (ps : List Predicate) → predicate_condition (predicate.Any ps) ≡ of.Any (map predicate_condition ps)
condition-Any ps = first_of (search (rules, folds.the_lemmas), grind (arith, folds.the_lemmas))

pub condition-All : (ps : List Predicate) → predicate_condition (predicate.All ps) ≡ of.All (map predicate_condition ps)
condition-All ps = first_of (search (rules, folds.the_lemmas), grind (arith, folds.the_lemmas))

pub condition-Not : (p : Predicate) → predicate_condition (predicate.Not p) ≡ of.Not (predicate_condition p)
condition-Not p = first_of (search (rules, folds.the_lemmas), grind (arith, folds.the_lemmas))

module _ (q : Asked) where
  holds-Single : (i : InputRule) (r : TextRule) → predicate_holds q (predicate.Single i r) ≡ single_holds r (input_of i q)
  holds-Single i r = first_of (search (rules, folds.the_lemmas), grind (arith, folds.the_lemmas))

  holds-Any : (ps : List Predicate) → predicate_holds q (predicate.Any ps) ≡ list_any (λ b. b) (map (predicate_holds q) ps)
  holds-Any ps = first_of (search (rules, folds.the_lemmas), grind (arith, folds.the_lemmas))

  holds-All : (ps : List Predicate) → predicate_holds q (predicate.All ps) ≡ list_all (λ b. b) (map (predicate_holds q) ps)
  holds-All ps = first_of (search (rules, folds.the_lemmas), grind (arith, folds.the_lemmas))

  holds-Not : (p : Predicate) → predicate_holds q (predicate.Not p) ≡ not (predicate_holds q p)
  holds-Not p = first_of (search (rules, folds.the_lemmas), grind (arith, folds.the_lemmas))

-- ---- what a filled predicate is made of

pub filled-Single : (i : InputRule) (r : TextRule) → predicate_is_filled (predicate.Single i r) ≡ is_input i
filled-Single i r = first_of (search (rules, folds.the_lemmas), grind (arith, folds.the_lemmas))

pub filled-Any : (ps : List Predicate) → predicate_is_filled (predicate.Any ps) ≡ two_or_more (map predicate_is_filled ps)
filled-Any ps = first_of (search (rules, folds.the_lemmas), grind (arith, folds.the_lemmas))

pub filled-All : (ps : List Predicate) → predicate_is_filled (predicate.All ps) ≡ two_or_more (map predicate_is_filled ps)
filled-All ps = first_of (search (rules, folds.the_lemmas), grind (arith, folds.the_lemmas))

pub filled-Not : (p : Predicate) → predicate_is_filled (predicate.Not p) ≡ predicate_is_filled p
filled-Not p = first_of (search (rules, folds.the_lemmas), grind (arith, folds.the_lemmas))

rules-Single : (i : InputRule) (r : TextRule) → predicate_rules (predicate.Single i r) ≡ r ∷ []
rules-Single i r = first_of (search (rules, folds.the_lemmas), grind (arith, folds.the_lemmas))

rules-Any : (ps : List Predicate) → predicate_rules (predicate.Any ps) ≡ joined (map predicate_rules ps)
rules-Any ps = first_of (search (rules, folds.the_lemmas), grind (arith, folds.the_lemmas))

rules-All : (ps : List Predicate) → predicate_rules (predicate.All ps) ≡ joined (map predicate_rules ps)
rules-All ps = first_of (search (rules, folds.the_lemmas), grind (arith, folds.the_lemmas))

rules-Not : (p : Predicate) → predicate_rules (predicate.Not p) ≡ predicate_rules p
rules-Not p = first_of (search (rules, folds.the_lemmas), grind (arith, folds.the_lemmas))

-- what holds of each element of two lists together holds of each of either
pub All-split : {X : Type 0} (P : X → Type 0) (xs ys : List X) → All P (xs ++ ys) → All P xs × All P ys
All-split P [] ys h = (All-nil P, h)
All-split P (x ∷ xs) ys h =
    let k = All-split P xs ys (All-tail P x (xs ++ ys) h) in (All-cons P x xs (All-head P x (xs ++ ys) h) k.0, k.1)

pub filled-tail : (p : Predicate) (ps : List Predicate) → AreFilledPredicates (p ∷ ps) → IsFilledPredicate p × AreFilledPredicates ps
filled-tail p ps h =
    let f = and_parts (predicate_is_filled p) (list_all (λ b. b) (map predicate_is_filled ps)) h.filled in
    let r = All-split IsLawfulText (predicate_rules p) (joined (map predicate_rules ps)) h.rules in
    (record { filled = f.0; rules = r.0 }, record { filled = f.1; rules = r.1 })

pub filled_members-Any : (ps : List Predicate) → IsFilledPredicate (predicate.Any ps) → AreFilledPredicates ps
filled_members-Any ps h = record {
  filled = (and_parts _ _ (sym (filled-Any ps) ∙ h.filled)).1;
  rules = subst (All IsLawfulText) (rules-Any ps) h.rules;
}

pub filled_members-All : (ps : List Predicate) → IsFilledPredicate (predicate.All ps) → AreFilledPredicates ps
filled_members-All ps h = record {
  filled = (and_parts _ _ (sym (filled-All ps) ∙ h.filled)).1;
  rules = subst (All IsLawfulText) (rules-All ps) h.rules;
}

pub filled_member-Not : (p : Predicate) → IsFilledPredicate (predicate.Not p) → IsFilledPredicate p
filled_member-Not p h = record { filled = sym (filled-Not p) ∙ h.filled; rules = subst (All IsLawfulText) (rules-Not p) h.rules }

pub filled-input : (i : InputRule) (r : TextRule) → IsFilledPredicate (predicate.Single i r) → IsTrue (is_input i) × IsLawfulText r
filled-input i r h = (sym (filled-Single i r) ∙ h.filled, All-head IsLawfulText r [] (subst (All IsLawfulText) (rules-Single i r) h.rules))

-- ---- the law

module _ (q : Asked) (valid : IsTrue (is_valid q)) where
  abbrev Agrees : Predicate → Type 0
  Agrees p = IsFilledPredicate p → condition_at (seen q) (predicate_condition p) ≡ predicate_holds q p

  single_agrees : (i : InputRule) (r : TextRule) → Agrees (predicate.Single i r)
  single_agrees i r h =
      let f = filled-input i r h in
      ap (condition_at (seen q)) (condition-Single i r)
      ∙ input_law i (text_term r) (is_pattern r.form) q f.0 valid
      ∙ text_at r (input_of i q) f.1 (λ w e. input_printed i q w valid e)
      ∙ sym (holds-Single q i r)

  members_agree : (es : List ((p : Predicate) × Agrees p)) → AreFilledPredicates (map (λ e. e.0) es) →
      map (condition_at (seen q)) (map predicate_condition (map (λ e. e.0) es)) ≡ map (predicate_holds q) (map (λ e. e.0) es)
  members_agree [] h = refl
  members_agree (e ∷ es) h =
      let f = filled-tail e.0 (map (λ e. e.0) es) h in ap₂ (λ x y. x ∷ y) (e.1 f.0) (members_agree es f.1)

  any_agrees : (es : List ((p : Predicate) × Agrees p)) → Agrees (predicate.Any (map (λ e. e.0) es))
  any_agrees es h =
      ap (condition_at (seen q)) (condition-Any (map (λ e. e.0) es))
      ∙ at_any (seen q) (map predicate_condition (map (λ e. e.0) es))
      ∙ ap (list_any (λ b. b)) (members_agree es (filled_members-Any (map (λ e. e.0) es) h))
      ∙ sym (holds-Any q (map (λ e. e.0) es))

  all_agrees : (es : List ((p : Predicate) × Agrees p)) → Agrees (predicate.All (map (λ e. e.0) es))
  all_agrees es h =
      ap (condition_at (seen q)) (condition-All (map (λ e. e.0) es))
      ∙ at_all (seen q) (map predicate_condition (map (λ e. e.0) es))
      ∙ ap (list_all (λ b. b)) (members_agree es (filled_members-All (map (λ e. e.0) es) h))
      ∙ sym (holds-All q (map (λ e. e.0) es))

  not_agrees : (p : Predicate) → Agrees p → Agrees (predicate.Not p)
  not_agrees p a h =
      ap (condition_at (seen q)) (condition-Not p) ∙ at_not (seen q) (predicate_condition p) ∙ ap not (a (filled_member-Not p h)) ∙ sym (holds-Not q p)

  layer_agrees : (y : layer.Predicate-F ((p : Predicate) × Agrees p)) → Agrees (roll-Predicate (map-Predicate ((p : Predicate) × Agrees p) Predicate (λ e. e.0) y))
  layer_agrees (layer.Single i r) = subst Agrees (sym (rolls-Single i r)) (single_agrees i r)
  layer_agrees (layer.Any es) = subst Agrees (sym (rolls-Any (map (λ e. e.0) es))) (any_agrees es)
  layer_agrees (layer.All es) = subst Agrees (sym (rolls-All (map (λ e. e.0) es))) (all_agrees es)
  layer_agrees (layer.Not e) = subst Agrees (sym (rolls-Not e.0)) (not_agrees e.0 e.1)

  predicate_agrees : (p : Predicate) → Agrees p
  predicate_agrees = ind-Predicate Agrees (λ x y is. subst (λ z. Agrees (roll-Predicate z)) is (layer_agrees y))

pub predicate_law : PredicateLaw
predicate_law p q f v = predicate_agrees q v p f
