-- The terms of text rules have the texts that agree with the rules.
use Rattle.std.proofs.Common.{◌≡◌, Bool, true, false, [], refl, sym, ◌↔◌, IsTrue}
use Rattle.std.proofs.Math.Bool.{or-false}
use Rattle.std.proofs.lemmas.Bool.{and_parts}
use Rattle.text_base.specs.Asked.{Bytes}
use Rattle.rx_term.specs.declared.terms.Term.{Term}
use Rattle.rx_term.specs.Language.{In, is_in, nullable}
use Rattle.rx_term.proofs.Language.{membership_law}
use Rattle.rx_rows.specs.Rows.{IsPrinted}
use Rattle.cfg_types.specs.Kinds.{is_matcher_text}
use Rattle.cfg_types.specs.Lawful.{IsLawfulForm}
use Rattle.cfg_types.specs.TextRules.{form_agrees}
use Rattle.cfg_types.specs.declared.rules.TextForm.{TextForm}
use Rattle.cfg_types.specs.declared.rules.TextForm.TheVariants as form
use Rattle.rx_build.specs.Rules.{form_term, TextRuleLaw}
use Rattle.rx_build.proofs.TextRules.{exact_law, prefix_law, suffix_law, contains_law}

pub same_truth : (a b : Bool) → (IsTrue a ↔ IsTrue b) → a ≡ b
same_truth true b h = sym (h.0 refl)
same_truth false true h = h.1 refl
same_truth false false h = refl

-- a law of a language as an equation
pub in_is : (t : Term) (w : Bytes) (b : Bool) → (In w t ↔ IsTrue b) → is_in t w ≡ b
in_is t w b h = same_truth (is_in t w) b ((λ e. h.0 ((membership_law t w).0 e)), (λ e. (membership_law t w).1 (h.1 e)))

-- the empty text is in a term exactly where the term has it
pub empty_in : (t : Term) → is_in t [] ≡ nullable t
empty_in t = or-false (nullable t)

-- a matcher text is printed
pub matcher_printed : (v : Bytes) → IsTrue (is_matcher_text v) → IsPrinted v
matcher_printed v h = (and_parts _ _ h).1

form_law : (fold : Bool) (f : TextForm) (t : Bytes) → IsLawfulForm f → IsPrinted t → is_in (form_term fold f) t ≡ form_agrees fold f t
form_law fold (form.Exact v) t l p = in_is _ t _ (exact_law fold v t (matcher_printed v l))
form_law fold (form.Prefix v) t l p = in_is _ t _ (prefix_law fold v t (matcher_printed v l) p)
form_law fold (form.Suffix v) t l p = in_is _ t _ (suffix_law fold v t (matcher_printed v l) p)
form_law fold (form.Contains v) t l p = in_is _ t _ (contains_law fold v t (matcher_printed v l) p)
form_law fold (form.Pattern x) t l p = refl

pub text_law : TextRuleLaw
text_law r t l p = form_law r.fold r.form t l p
