-- The conditions that rules are: formulas with their atoms in place.
use Rattle.std.specs.Prelude.{Bool, true, false, ◌==◌, if◌then◌else◌, List, [], ◌∷◌, ◌++◌, map, Option, Some, None, codes}
use Rattle.text_base.specs.Asked.{Bytes}
use Rattle.text_base.specs.Seen.{field_named}
use Rattle.text_base.specs.declared.request.Field.{Field}
use Rattle.text_base.specs.declared.request.Field.TheVariants as field
use Rattle.rx_term.specs.declared.terms.Term.{Term}
use Rattle.rx_term.specs.Language.{nullable}
use Rattle.rx_build.specs.Texts.{exact_term, grpc_term}
use Rattle.rx_build.specs.Queries.{query_first_term}
use Rattle.rx_build.specs.Numbers.{digits_below_term, range_term}
use Rattle.goal_form.specs.declared.sight.Condition.{Condition}
use Rattle.goal_form.specs.declared.sight.Condition as of
use Rattle.goal_form.specs.Leaves.{within, present}
use Rattle.cfg_types.specs.HeaderRules.{turned}
use Rattle.cfg_types.specs.declared.rules.HeaderRule.{HeaderRule}
use Rattle.cfg_types.specs.declared.rules.HeaderForm.{HeaderForm}
use Rattle.cfg_types.specs.declared.rules.HeaderForm.TheVariants as header
use Rattle.cfg_types.specs.declared.rules.QueryRule.{QueryRule}
use Rattle.cfg_types.specs.declared.rules.Fraction.{Fraction}
use Rattle.cfg_types.specs.declared.rules.PathRule.{PathRule}
use Rattle.cfg_types.specs.declared.rules.RouteRule.{RouteRule}
use Rattle.rx_build.specs.Rules.{text_term, is_pattern}
use Rattle.rule_form.specs.Terms.{value_term, has_pattern, path_term, is_path_pattern}

abbrev pub yes_or_no : Bool → Condition
yes_or_no b = if b then of.Yes else of.No

-- there with a text in the term, or absent where the empty text is in it
abbrev pub or_absent : Field → Term → Bool → Condition
or_absent f term user = of.Any (within f term user ∷ of.All (of.Not (present f) ∷ yes_or_no (nullable term) ∷ []) ∷ [])

-- a value form by its term: as it is, with a missing header as empty, inverted, and both
abbrev pub value_condition : Field → Term → Bool → Bool → Bool → Condition
value_condition f term user false false = within f term user
value_condition f term user false true = or_absent f term user
value_condition f term user true false = of.All (present f ∷ of.Not (within f term user) ∷ [])
value_condition f term user true true = of.Not (or_absent f term user)

abbrev pub presence_condition : Field → Bool → Condition
presence_condition f there = if there then present f else of.Not (present f)

abbrev pub form_condition : Field → HeaderForm → Bool → Bool → Condition
form_condition f (header.Value r) invert missing_empty = value_condition f (text_term r) (is_pattern r.form) invert missing_empty
form_condition f (header.Range start end) invert missing_empty = value_condition f (range_term start end) false invert missing_empty
form_condition f (header.Present b) invert missing_empty = presence_condition f (turned invert b)

abbrev pub header_condition : HeaderRule → Condition
header_condition r = form_condition (field_named r.name) r.form r.invert r.missing_empty

abbrev pub query_condition : QueryRule → Condition
query_condition r = within field.Target (query_first_term r.name (value_term r.form)) (has_pattern r.form)

-- an empty key asks for nothing
abbrev pub key_conditions : Bytes → List Condition
key_conditions [] = []
key_conditions (b ∷ key) = within field.Runtime (exact_term false (b ∷ key)) false ∷ []

abbrev pub fraction_condition : Fraction → Condition
fraction_condition f = of.All (key_conditions f.key ++ within field.Random (digits_below_term f.of f.below) false ∷ [])

abbrev pub grpc_condition : Condition
grpc_condition = within (field.Header (codes "content-type")) grpc_term false

abbrev pub path_condition : Bool → Bool → PathRule → Condition
path_condition ignore_params fold r = within field.Target (path_term ignore_params fold r) (is_path_pattern r)

abbrev pub grpc_conditions : Bool → List Condition
grpc_conditions grpc = if grpc then grpc_condition ∷ [] else []

abbrev pub fraction_conditions : Option Fraction → List Condition
fraction_conditions None = []
fraction_conditions (Some f) = fraction_condition f ∷ []

-- the conditions of a route's rule, in order
abbrev pub rule_conditions : Bool → RouteRule → List Condition
rule_conditions ignore_params r =
    path_condition ignore_params r.fold r.path
    ∷ (map header_condition r.headers ++ (map query_condition r.queries ++ (grpc_conditions r.grpc ++ fraction_conditions r.fraction)))

-- all that a route's rule asks for
abbrev pub rule_condition : Bool → RouteRule → Condition
rule_condition ignore_params r = of.All (rule_conditions ignore_params r)
