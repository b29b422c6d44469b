-- The law of header rules.
use Rattle.std.proofs.Common.{◌≡◌, ℕ, ℤ, Bool, true, false, not, ◌&&◌, ◌||◌, List, [], ◌∷◌, map, Option, None, Some, is_some, refl, sym, ap, subst, ◌∙◌, ◌↔◌, IsTrue, if◌then◌else◌}
use Rattle.std.specs.Prelude.{is_none, FitsSigned}
use Rattle.std.specs.Int.{w64}
use Rattle.std.proofs.Math.Bool.{or-false}
use Rattle.text_base.specs.Asked.{Bytes, Asked}
use Rattle.text_base.specs.Requests.{is_valid}
use Rattle.text_base.specs.Seen.{seen, field_named}
use Rattle.text_base.specs.Forms.{signed_value, within as in_bounds}
use Rattle.text_base.specs.declared.request.Field.{Field}
use Rattle.rx_term.specs.declared.terms.Term.{Term}
use Rattle.rx_term.specs.Language.{is_in, nullable}
use Rattle.rx_rows.specs.Rows.{IsPrinted}
use Rattle.rx_build.specs.Numbers.{range_term}
use Rattle.rx_build.proofs.SeenTexts.{seen_law}
use Rattle.rx_build.proofs.Ranges.{range_law}
use Rattle.goal_form.specs.Goals.{Shown, text_in}
use Rattle.goal_form.specs.Conditions.{condition_at}
use Rattle.goal_form.specs.declared.sight.Condition as of
use Rattle.cfg_types.specs.Lawful.{IsLawfulValue, IsLawfulHeader}
use Rattle.cfg_types.specs.TextRules.{agrees}
use Rattle.cfg_types.specs.HeaderRules.{turned, value_holds, form_holds, header_holds}
use Rattle.cfg_types.specs.declared.rules.HeaderForm.{HeaderForm}
use Rattle.cfg_types.specs.declared.rules.HeaderForm.TheVariants as header
use Rattle.rx_build.specs.Rules.{text_term, is_pattern}
use Rattle.goal_form.specs.Leaves.{within, present}
use Rattle.rule_form.specs.Conditions.{yes_or_no, or_absent, value_condition, presence_condition, form_condition}
use Rattle.rule_form.specs.Laws.{HeaderLaw}
use Rattle.goal_form.proofs.Meanings.{at_yes, at_no, at_all, at_any, at_not}
use Rattle.rx_build.proofs.RuleTerms.{in_is, empty_in, text_law}
use Rattle.goal_form.proofs.ConditionTruths.{at_present, at_within}

at_known : (q : Shown) (b : Bool) → condition_at q (yes_or_no b) ≡ b
at_known q true = at_yes q
at_known q false = at_no q

-- ---- value forms, by a term whose printed texts are those that a test takes

and-true : (b : Bool) → (b && true) ≡ b
and-true true = refl
and-true false = refl

module _ (q : Asked) (valid : IsTrue (is_valid q)) (f : Field) (term : Term) (user : Bool) (test : Bytes → Bool)
    (same : (w : Bytes) → IsPrinted w → is_in term w ≡ test w) where
  found : (o : Option Bytes) → seen q f ≡ o → Option Bool
  found None e = None
  found (Some w) e = Some (test w)

  within_none : seen q f ≡ None → condition_at (seen q) (within f term user) ≡ false
  within_none e = at_within (seen q) f term user ∙ ap (text_in term) e

  within_some : (w : Bytes) → seen q f ≡ Some w → condition_at (seen q) (within f term user) ≡ test w
  within_some w e = at_within (seen q) f term user ∙ ap (text_in term) e ∙ same w (seen_law q f w valid e)

  there_none : seen q f ≡ None → condition_at (seen q) (present f) ≡ false
  there_none e = at_present q f ∙ ap is_some e

  there_some : (w : Bytes) → seen q f ≡ Some w → condition_at (seen q) (present f) ≡ true
  there_some w e = at_present q f ∙ ap is_some e

  empty_counts : nullable term ≡ test []
  empty_counts = sym (empty_in term) ∙ same [] refl

  absent_at : condition_at (seen q) (of.All (of.Not (present f) ∷ yes_or_no (nullable term) ∷ [])) ≡ (not (condition_at (seen q) (present f)) && test [])
  absent_at = at_all (seen q) _ ∙ rw (at_not (seen q) (present f), at_known (seen q) (nullable term), and-true (nullable term), empty_counts) refl

  or_absent_at : (o : Option Bytes) → seen q f ≡ o → condition_at (seen q) (or_absent f term user) ≡ value_holds test false true o
  or_absent_at None e = at_any (seen q) _ ∙ rw (within_none e, absent_at, there_none e) (or-false (test []))
  or_absent_at (Some w) e = at_any (seen q) _ ∙ rw (within_some w e, absent_at, there_some w e) (or-false (test w))

  value_law : (invert missing_empty : Bool) (o : Option Bytes) → seen q f ≡ o →
      condition_at (seen q) (value_condition f term user invert missing_empty) ≡ value_holds test invert missing_empty o
  value_law false false None e = within_none e
  value_law false false (Some w) e = within_some w e
  value_law false true o e = or_absent_at o e
  value_law true false None e = at_all (seen q) _ ∙ rw (there_none e) refl
  value_law true false (Some w) e = at_all (seen q) _ ∙ rw (there_some w e, at_not (seen q) (within f term user), within_some w e) (and-true (not (test w)))
  value_law true true None e = at_not (seen q) (or_absent f term user) ∙ ap not (or_absent_at None e)
  value_law true true (Some w) e = at_not (seen q) (or_absent f term user) ∙ ap not (or_absent_at (Some w) e)

-- ---- presence

module _ (q : Asked) (f : Field) where
  presence_law : (invert b : Bool) (o : Option Bytes) → seen q f ≡ o →
      condition_at (seen q) (presence_condition f (turned invert b)) ≡ turned invert (if b then is_some o else is_none o)
  presence_law false true o e = at_present q f ∙ ap is_some e
  presence_law false false None e = at_not (seen q) (present f) ∙ ap not (at_present q f ∙ ap is_some e)
  presence_law false false (Some w) e = at_not (seen q) (present f) ∙ ap not (at_present q f ∙ ap is_some e)
  presence_law true true None e = at_not (seen q) (present f) ∙ ap not (at_present q f ∙ ap is_some e)
  presence_law true true (Some w) e = at_not (seen q) (present f) ∙ ap not (at_present q f ∙ ap is_some e)
  presence_law true false None e = at_present q f ∙ ap is_some e
  presence_law true false (Some w) e = at_present q f ∙ ap is_some e

  header_form_law : (h : HeaderForm) (invert missing_empty : Bool) → IsLawfulValue h → IsTrue (is_valid q) →
      condition_at (seen q) (form_condition f h invert missing_empty) ≡ form_holds h invert missing_empty (seen q f)
  header_form_law (header.Value r) invert missing_empty l v =
      value_law q v f (text_term r) (is_pattern r.form) (agrees r) (λ w p. text_law r w l p) invert missing_empty (seen q f) refl
  header_form_law (header.Range start end) invert missing_empty l v =
      value_law q v f (range_term start end) false (λ x. in_bounds start end (signed_value x))
      (λ w p. in_is _ w _ (range_law start end w l.0 l.1)) invert missing_empty (seen q f) refl
  header_form_law (header.Present b) invert missing_empty l v = presence_law invert b (seen q f) refl

pub header_law : HeaderLaw
header_law r q l v = header_form_law q (field_named r.name) r.form r.invert r.missing_empty l.form v
