-- The conditions of the product's inputs are true at a valid request exactly where their texts are there and in the term.
use Rattle.std.proofs.Common.{◌≡◌, Bool, false, Option, Some, None, refl, sym, ap, subst, ◌∙◌, IsTrue}
use Rattle.text_base.specs.Asked.{Bytes, Asked}
use Rattle.text_base.specs.Requests.{is_valid}
use Rattle.text_base.specs.Seen.{seen, query_of}
use Rattle.text_base.specs.declared.request.Field.TheVariants as field
use Rattle.rx_term.specs.declared.terms.Term.{Term}
use Rattle.rx_term.specs.Language.{In, is_in}
use Rattle.rx_term.proofs.Language.{membership_law}
use Rattle.rx_rows.specs.Rows.{IsPrinted}
use Rattle.rx_build.specs.Queries.{query_first_term, IsKey}
use Rattle.rx_build.proofs.QueryRules.{query_first_law}
use Rattle.rx_build.proofs.RuleTerms.{in_is}
use Rattle.rx_build.proofs.SeenTexts.{seen_law}
use Rattle.goal_form.specs.Conditions.{condition_at}
use Rattle.goal_form.specs.Goals.{text_in}
use Rattle.goal_form.proofs.ConditionTruths.{at_within}
use Rattle.match_tree.specs.Inputs.{seen_by, told_by, IsLawfulInput}
use Rattle.match_tree.specs.declared.input.SeenInput.{SeenInput}
use Rattle.match_tree.specs.declared.input.SeenInput.TheVariants as input

pub target_is : (q : Asked) → seen q field.Target ≡ Some q.target
unfolding seen
target_is q = refl

module _ (key : Bytes) (t : Term) (w : Bytes) (k : IsKey key) (p : IsPrinted w) where
  no_value : query_of w key ≡ None → In w (query_first_term key t) → IsTrue false
  no_value e h = let v = (query_first_law key t w k p).0 h in let b : None ≡ Some v.0 = sym e ∙ v.1 in absurd (cc)

  of_value : (v : Bytes) → query_of w key ≡ Some v → In w (query_first_term key t) → IsTrue (is_in t v)
  of_value v e h =
      let x = (query_first_law key t w k p).0 h in
      let b : Some v ≡ Some x.0 = sym e ∙ x.1 in
      let s : v ≡ x.0 = (cc) in
      (membership_law t v).1 (subst (λ y. In y t) (sym s) x.2)

  value_in : (o : Option Bytes) → query_of w key ≡ o → is_in (query_first_term key t) w ≡ text_in t o
  value_in None e = in_is (query_first_term key t) w false (no_value e, λ h. absurd (cc))
  value_in (Some v) e = in_is (query_first_term key t) w (is_in t v) (of_value v e, λ h. (query_first_law key t w k p).1 (v, e, (membership_law t v).0 h))

pub told_law : (i : SeenInput) (t : Term) (user : Bool) (q : Asked) → IsLawfulInput i → IsTrue (is_valid q) → condition_at (seen q) (told_by i t user) ≡ text_in t (seen_by i q)
told_law (input.Header f) t user q l v = at_within (seen q) f t user
told_law (input.Query key) t user q l v =
    at_within (seen q) field.Target (query_first_term key t) user ∙ ap (text_in (query_first_term key t)) (target_is q)
    ∙ value_in key t q.target l (seen_law q field.Target q.target v (target_is q)) (query_of q.target key) refl
