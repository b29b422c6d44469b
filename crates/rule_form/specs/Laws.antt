-- What the conditions of lawful rules say: each is true at a valid request exactly where its rule holds.
use Rattle.std.specs.Prelude.{◌≡◌, Bool, true, IsTrue}
use Rattle.text_base.specs.Asked.{Asked}
use Rattle.text_base.specs.Requests.{is_valid}
use Rattle.text_base.specs.Seen.{seen, matched_path}
use Rattle.goal_form.specs.Conditions.{condition_at}
use Rattle.cfg_types.specs.Lawful.{IsLawfulHeader, IsLawfulQuery, IsLawfulFraction, IsLawfulPath, IsLawfulRule}
use Rattle.cfg_types.specs.HeaderRules.{header_holds}
use Rattle.cfg_types.specs.QueryRules.{query_holds}
use Rattle.cfg_types.specs.Fractions.{fraction_holds}
use Rattle.cfg_types.specs.GrpcRules.{grpc_holds}
use Rattle.cfg_types.specs.PathRules.{path_holds}
use Rattle.cfg_types.specs.RouteRules.{rule_holds}
use Rattle.cfg_types.specs.declared.rules.HeaderRule.{HeaderRule}
use Rattle.cfg_types.specs.declared.rules.QueryRule.{QueryRule}
use Rattle.cfg_types.specs.declared.rules.Fraction.{Fraction}
use Rattle.cfg_types.specs.declared.rules.PathRule.{PathRule}
use Rattle.cfg_types.specs.declared.rules.RouteRule.{RouteRule}
use Rattle.rule_form.specs.Conditions.{header_condition, query_condition, fraction_condition, grpc_condition, path_condition, rule_condition}
use Rattle.rule_form.specs.Leaves.{atoms_in, are_named_well}

abbrev pub HeaderLaw : Type 0
HeaderLaw = (r : HeaderRule) (q : Asked) → IsLawfulHeader r → IsTrue (is_valid q) → condition_at (seen q) (header_condition r) ≡ header_holds r q

abbrev pub QueryLaw : Type 0
QueryLaw = (r : QueryRule) (q : Asked) → IsLawfulQuery r → IsTrue (is_valid q) → condition_at (seen q) (query_condition r) ≡ query_holds r q

abbrev pub FractionLaw : Type 0
FractionLaw = (f : Fraction) (q : Asked) → IsLawfulFraction f → IsTrue (is_valid q) → condition_at (seen q) (fraction_condition f) ≡ fraction_holds f q

abbrev pub GrpcLaw : Type 0
GrpcLaw = (q : Asked) → IsTrue (is_valid q) → condition_at (seen q) grpc_condition ≡ grpc_holds q

abbrev pub PathLaw : Type 0
PathLaw = (ignore_params fold : Bool) (r : PathRule) (q : Asked) → IsLawfulPath r → IsTrue (is_valid q) →
    condition_at (seen q) (path_condition ignore_params fold r) ≡ path_holds r fold (matched_path ignore_params q.target)

abbrev pub RuleLaw : Type 0
RuleLaw = (ignore_params : Bool) (r : RouteRule) (q : Asked) → IsLawfulRule r → IsTrue (is_valid q) →
    condition_at (seen q) (rule_condition ignore_params r) ≡ rule_holds ignore_params r q

-- the conditions of lawful rules ask for fields that requests may have
abbrev pub RuleNamesLaw : Type 0
RuleNamesLaw = (ignore_params : Bool) (r : RouteRule) → IsLawfulRule r → are_named_well (atoms_in (rule_condition ignore_params r)) ≡ true
