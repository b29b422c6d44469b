-- The terms of rules: which texts of a field a rule holds on.
use Rattle.std.specs.Prelude.{Bool, true, false, Option, Some, None}
use Rattle.rx_term.specs.declared.terms.Term.{Term}
use Rattle.rx_rows.specs.Rows.{all}
use Rattle.rx_build.specs.Rules.{text_term, is_pattern}
use Rattle.rx_build.specs.Paths.{path_ends_set, path_prefix_term, path_exact_term, path_separated_term, path_pattern_term}
use Rattle.cfg_types.specs.declared.rules.TextRule.{TextRule}
use Rattle.cfg_types.specs.declared.rules.PathRule.{PathRule}
use Rattle.cfg_types.specs.declared.rules.PathRule.TheVariants as path

-- the values that a query rule takes: any where it has no form
abbrev pub value_term : Option TextRule → Term
value_term None = all
value_term (Some r) = text_term r

abbrev pub has_pattern : Option TextRule → Bool
has_pattern None = false
has_pattern (Some r) = is_pattern r.form

-- the targets whose path a rule holds on
abbrev pub path_term : Bool → Bool → PathRule → Term
path_term ignore_params fold (path.Prefix v) = path_prefix_term fold (path_ends_set ignore_params) v
path_term ignore_params fold (path.Exact v) = path_exact_term fold (path_ends_set ignore_params) v
path_term ignore_params fold (path.Separated v) = path_separated_term fold (path_ends_set ignore_params) v
path_term ignore_params fold (path.Pattern p) = path_pattern_term (path_ends_set ignore_params) p.term

abbrev pub is_path_pattern : PathRule → Bool
is_path_pattern (path.Prefix v) = false
is_path_pattern (path.Exact v) = false
is_path_pattern (path.Separated v) = false
is_path_pattern (path.Pattern p) = true
