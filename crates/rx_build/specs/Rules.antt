-- The terms of text rules.
use Rattle.std.specs.Prelude.{◌≡◌, Bool, true, false}
use Rattle.text_base.specs.Asked.{Bytes}
use Rattle.rx_term.specs.Language.{is_in}
use Rattle.rx_rows.specs.Rows.{IsPrinted}
use Rattle.cfg_types.specs.Lawful.{IsLawfulText}
use Rattle.cfg_types.specs.TextRules.{agrees}
use Rattle.rx_term.specs.declared.terms.Term.{Term}
use Rattle.cfg_types.specs.declared.rules.TextRule.{TextRule}
use Rattle.cfg_types.specs.declared.rules.TextForm.{TextForm}
use Rattle.cfg_types.specs.declared.rules.TextForm.TheVariants as form
use Rattle.rx_build.specs.Texts.{exact_term, prefix_term, suffix_term, contains_term}

abbrev pub form_term : Bool → TextForm → Term
form_term fold (form.Exact v) = exact_term fold v
form_term fold (form.Prefix v) = prefix_term fold v
form_term fold (form.Suffix v) = suffix_term fold v
form_term fold (form.Contains v) = contains_term fold v
form_term fold (form.Pattern p) = p.term

-- the texts that agree with a rule
abbrev pub text_term : TextRule → Term
text_term r = form_term r.fold r.form

-- the form is a pattern of the configuration
abbrev pub is_pattern : TextForm → Bool
is_pattern (form.Exact v) = false
is_pattern (form.Prefix v) = false
is_pattern (form.Suffix v) = false
is_pattern (form.Contains v) = false
is_pattern (form.Pattern p) = true

-- a printed text is in the term of a lawful rule exactly where it agrees with the rule
abbrev pub TextRuleLaw : Type 0
TextRuleLaw = (r : TextRule) (t : Bytes) → IsLawfulText r → IsPrinted t → is_in (text_term r) t ≡ agrees r t
