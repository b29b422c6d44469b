-- The laws of query, fraction, gRPC and path rules, and of the rule of a route.
use Rattle.std.proofs.Common.{◌≡◌, ℕ, ◌%◌, max, Bool, true, false, not, ◌&&◌, ◌||◌, List, [], ◌∷◌, ◌++◌, map, Option, None, Some, is_some, refl, sym, ap, subst, ◌∙◌, ◌↔◌, IsTrue, All}
use Rattle.std.specs.Prelude.{nat_lt, bytes_eq, codes, IfSome}
use Rattle.std.specs.List.{list_all, list_any}
use Rattle.std.proofs.lemmas.Bool.{and_parts, and_from}
use Rattle.std.proofs.lemmas.List.Elements.{All-head, All-tail}
use Rattle.text_base.specs.Alphabets.{is_printed, is_path_byte}
use Rattle.text_base.specs.Asked.{Bytes, Asked}
use Rattle.text_base.specs.Requests.{is_valid}
use Rattle.text_base.specs.Seen.{seen, not_empty, query_of, six_digits, matched_path}
use Rattle.text_base.specs.declared.request.Field.{Field}
use Rattle.text_base.specs.declared.request.Field.TheVariants as field
use Rattle.rx_term.specs.Language.{In, is_in}
use Rattle.rx_term.proofs.Language.{membership_law}
use Rattle.rx_rows.specs.Rows.{IsPrinted}
use Rattle.rx_rows.proofs.PrintedTexts.{printed_of}
use Rattle.rx_build.specs.Texts.{exact_term, grpc_term}
use Rattle.rx_build.specs.Queries.{query_first_term, IsKey}
use Rattle.rx_build.specs.Numbers.{digits_below_term}
use Rattle.rx_build.proofs.TextRules.{key_law, grpc_law as grpc_term_law}
use Rattle.rx_build.proofs.SeenTexts.{seen_law, target_printed}
use Rattle.rx_build.proofs.QueryRules.{query_first_law, query_value_law, query_there_law}
use Rattle.rx_build.proofs.PathRules.{rule_prefix_law, rule_exact_law, rule_separated_law, rule_pattern_law}
use Rattle.rx_build.proofs.Fractions.{fraction_law as random_law}
use Rattle.goal_form.specs.Goals.{text_in}
use Rattle.goal_form.specs.Conditions.{condition_at}
use Rattle.goal_form.specs.declared.sight.Condition.{Condition}
use Rattle.goal_form.specs.declared.sight.Condition as of
use Rattle.cfg_types.specs.Kinds.{is_matcher_text, is_path_text, is_query_name, is_empty}
use Rattle.cfg_types.specs.Lawful.{IsLawfulText, IsLawfulHeader, IsLawfulQuery, IsLawfulFraction, IsLawfulPath, IsLawfulRule}
use Rattle.cfg_types.specs.TextRules.{agrees}
use Rattle.cfg_types.specs.HeaderRules.{header_holds, headers_hold}
use Rattle.cfg_types.specs.QueryRules.{query_holds, value_agrees}
use Rattle.cfg_types.specs.Fractions.{fraction_holds, fraction_part}
use Rattle.cfg_types.specs.GrpcRules.{is_grpc, grpc_holds}
use Rattle.cfg_types.specs.PathRules.{path_holds}
use Rattle.cfg_types.specs.declared.rules.TextRule.{TextRule}
use Rattle.cfg_types.specs.declared.rules.HeaderRule.{HeaderRule}
use Rattle.cfg_types.specs.declared.rules.QueryRule.{QueryRule}
use Rattle.cfg_types.specs.declared.rules.Fraction.{Fraction}
use Rattle.cfg_types.specs.declared.rules.PathRule.{PathRule}
use Rattle.cfg_types.specs.declared.rules.PathRule.TheVariants as path
use Rattle.rx_build.specs.Rules.{text_term}
use Rattle.rule_form.specs.Terms.{value_term, has_pattern, path_term, is_path_pattern}
use Rattle.goal_form.specs.Leaves.{within}
use Rattle.rule_form.specs.Conditions.{header_condition, query_condition, key_conditions, fraction_condition, grpc_condition, grpc_conditions, fraction_conditions, path_condition, rule_conditions}
use Rattle.rule_form.specs.Laws.{QueryLaw, FractionLaw, GrpcLaw, PathLaw, RuleLaw}
use Rattle.goal_form.proofs.Meanings.{at_all}
use Rattle.rx_build.proofs.RuleTerms.{same_truth, in_is, matcher_printed, text_law}
use Rattle.goal_form.proofs.ConditionTruths.{at_within, all_at, all_at-append}
use Rattle.rule_form.proofs.HeaderLaws.{header_law}

target_is : (q : Asked) → seen q field.Target ≡ Some q.target
unfolding seen
target_is q = refl

-- the target of a valid request is printed
printed_target : (q : Asked) → IsTrue (is_valid q) → IsPrinted q.target
printed_target q v = seen_law q field.Target q.target v (target_is q)

at_target : (q : Asked) (r : _) (user : Bool) → condition_at (seen q) (within field.Target r user) ≡ is_in r q.target
at_target q r user = at_within (seen q) field.Target r user ∙ ap (text_in r) (target_is q)

-- ---- queries

query_key : (n : Bytes) → IsTrue (is_query_name n) → IsKey n
query_key n h =
    let k = and_parts (is_matcher_text n && not (is_empty n)) (not (list_any _ n)) h in
    (matcher_printed n (and_parts (is_matcher_text n) (not (is_empty n)) k.0).0, k.1)

module _ (q : Asked) (valid : IsTrue (is_valid q)) (name : Bytes) (key : IsKey name) where
  some_value : (r : TextRule) → IsLawfulText r → (o : Option Bytes) → query_of q.target name ≡ o →
      In q.target (query_first_term name (text_term r)) ↔ IsTrue (value_agrees (Some r) o)
  some_value r l None e = (no, λ h. cc)
    where
      no : In q.target (query_first_term name (text_term r)) → IsTrue (value_agrees (Some r) None)
      no h = let w = (query_first_law name (text_term r) q.target key (printed_target q valid)).0 h in let b : None ≡ Some w.0 = sym e ∙ w.1 in absurd (cc)
  some_value r l (Some t) e = (to, from)
    where
      is : is_in (text_term r) t ≡ agrees r t
      is = text_law r t l (query_value_law name t q.target (printed_target q valid) e)

      to : In q.target (query_first_term name (text_term r)) → IsTrue (value_agrees (Some r) (Some t))
      to h =
          let w = (query_first_law name (text_term r) q.target key (printed_target q valid)).0 h in
          let b : Some t ≡ Some w.0 = sym e ∙ w.1 in
          let s : t ≡ w.0 = (cc) in
          sym is ∙ (membership_law (text_term r) t).1 (subst (λ x. In x (text_term r)) (sym s) w.2)

      from : IsTrue (value_agrees (Some r) (Some t)) → In q.target (query_first_term name (text_term r))
      from h = (query_first_law name (text_term r) q.target key (printed_target q valid)).1 (t, e, (membership_law (text_term r) t).0 (is ∙ h))

  there_is : (o : Option Bytes) → is_some o ≡ value_agrees None o
  there_is None = refl
  there_is (Some t) = refl

  value_law : (form : Option TextRule) → IfSome form IsLawfulText → is_in (query_first_term name (value_term form)) q.target ≡ value_agrees form (query_of q.target name)
  value_law None l = in_is _ q.target _ (query_there_law name q.target key (printed_target q valid)) ∙ there_is (query_of q.target name)
  value_law (Some r) l = in_is _ q.target _ (some_value r l (query_of q.target name) refl)

pub query_law : QueryLaw
query_law r q l v = at_target q _ (has_pattern r.form) ∙ value_law q v r.name (query_key r.name l.name) r.form l.form

-- ---- fractions

runtime_is : (q : Asked) → seen q field.Runtime ≡ not_empty q.runtime
unfolding seen
runtime_is q = refl

random_is : (q : Asked) → seen q field.Random ≡ Some (six_digits (q.random % 1000000))
unfolding seen
random_is q = refl

key_is : (key : Bytes) (r : Bytes) → IsPrinted key → text_in (exact_term false key) (not_empty r) ≡ (is_some (not_empty r) && bytes_eq key r)
key_is key [] p = refl
key_is key (b ∷ r) p = in_is (exact_term false key) (b ∷ r) (bytes_eq key (b ∷ r)) (key_law key (b ∷ r) p)

key_law_of : (b : ℕ) (key r : Bytes) → (is_some (not_empty r) && bytes_eq (b ∷ key) r) ≡ (bytes_eq (b ∷ key) [] || bytes_eq (b ∷ key) r)
key_law_of b key [] = refl
key_law_of b key (c ∷ r) = refl

key_at : (q : Asked) (key : Bytes) → IsPrinted key → all_at (seen q) (key_conditions key) ≡ (bytes_eq key [] || bytes_eq key q.runtime)
key_at q [] p = refl
key_at q (b ∷ key) p =
    and-true (condition_at (seen q) (within field.Runtime (exact_term false (b ∷ key)) false))
    ∙ at_within (seen q) field.Runtime (exact_term false (b ∷ key)) false
    ∙ ap (text_in (exact_term false (b ∷ key))) (runtime_is q) ∙ key_is (b ∷ key) q.runtime p ∙ key_law_of b key q.runtime
  where
    and-true : (x : Bool) → (x && true) ≡ x
    and-true true = refl
    and-true false = refl

and-true : (x : Bool) → (x && true) ≡ x
and-true true = refl
and-true false = refl

random_at : (q : Asked) (f : Fraction) → IsLawfulFraction f → condition_at (seen q) (within field.Random (digits_below_term f.of f.below) false) ≡ nat_lt (q.random % f.of) (max f.below 1)
random_at q f l =
    at_within (seen q) field.Random (digits_below_term f.of f.below) false ∙ ap (text_in (digits_below_term f.of f.below)) (random_is q)
    ∙ in_is (digits_below_term f.of f.below) (six_digits (q.random % 1000000)) (nat_lt (q.random % f.of) (max f.below 1)) (random_law f.of f.below q.random l.of)

pub fraction_law : FractionLaw
fraction_law f q l v =
    at_all (seen q) (key_conditions f.key ++ within field.Random (digits_below_term f.of f.below) false ∷ [])
    ∙ all_at-append (seen q) (key_conditions f.key) (within field.Random (digits_below_term f.of f.below) false ∷ [])
    ∙ rw (key_at q f.key (matcher_printed f.key l.key), and-true (condition_at (seen q) (within field.Random (digits_below_term f.of f.below) false)), random_at q f l) refl

-- ---- gRPC

grpc_at : (q : Asked) → IsTrue (is_valid q) → (o : Option Bytes) → seen q (field.Header (codes "content-type")) ≡ o → text_in grpc_term o ≡ is_grpc o
grpc_at q v None e = refl
grpc_at q v (Some t) e = in_is grpc_term t _ (grpc_term_law t (seen_law q (field.Header (codes "content-type")) t v e))

pub grpc_law : GrpcLaw
grpc_law q v = at_within (seen q) (field.Header (codes "content-type")) grpc_term false ∙ grpc_at q v (seen q (field.Header (codes "content-type"))) refl

-- ---- paths

path_byte_printed : (b : ℕ) → is_path_byte b ≡ true → is_printed b ≡ true
path_byte_printed b h = (and_parts (is_printed b) _ (and_parts (is_printed b && not _) _ h).0).0

pub path_printed : (v : Bytes) → IsTrue (is_path_text v) → IsPrinted v
path_printed v h = printed_of is_path_byte path_byte_printed v (and_parts _ (list_all is_path_byte v) h).1

path_is : (ignore fold : Bool) (r : PathRule) (w : Bytes) → IsLawfulPath r → IsPrinted w → is_in (path_term ignore fold r) w ≡ path_holds r fold (matched_path ignore w)
path_is ignore fold (path.Prefix v) w l p = in_is _ w _ (rule_prefix_law fold ignore v w (path_printed v l) p)
path_is ignore fold (path.Exact v) w l p = in_is _ w _ (rule_exact_law fold ignore v w (path_printed v l) p)
path_is ignore fold (path.Separated v) w l p =
    in_is _ w _ (rule_separated_law fold ignore v w (path_printed v (and_parts (is_path_text v) _ (and_parts (is_path_text v && not _) _ l).0).0) p)
path_is ignore fold (path.Pattern x) w l p = in_is _ w _ (rule_pattern_law ignore x.term w p)

pub path_law : PathLaw
path_law ignore fold r q l v = at_target q (path_term ignore fold r) (is_path_pattern r) ∙ path_is ignore fold r q.target l (printed_target q v)

-- ---- the rule of a route

headers_at : (q : Asked) (hs : List HeaderRule) → IsTrue (is_valid q) → All IsLawfulHeader hs → all_at (seen q) (map header_condition hs) ≡ headers_hold hs q
headers_at q [] v l = refl
headers_at q (h ∷ hs) v l = rw (header_law h q (All-head IsLawfulHeader h hs l) v, headers_at q hs v (All-tail IsLawfulHeader h hs l)) refl

queries_at : (q : Asked) (xs : List QueryRule) → IsTrue (is_valid q) → All IsLawfulQuery xs → all_at (seen q) (map query_condition xs) ≡ list_all (λ x. query_holds x q) xs
queries_at q [] v l = refl
queries_at q (x ∷ xs) v l = rw (query_law x q (All-head IsLawfulQuery x xs l) v, queries_at q xs v (All-tail IsLawfulQuery x xs l)) refl

grpc_part_at : (q : Asked) (g : Bool) → IsTrue (is_valid q) → all_at (seen q) (grpc_conditions g) ≡ (not g || grpc_holds q)
grpc_part_at q true v = and-true (condition_at (seen q) grpc_condition) ∙ grpc_law q v
grpc_part_at q false v = refl

fraction_part_at : (q : Asked) (f : Option Fraction) → IsTrue (is_valid q) → IfSome f IsLawfulFraction → all_at (seen q) (fraction_conditions f) ≡ fraction_part f q
fraction_part_at q None v l = refl
fraction_part_at q (Some f) v l = and-true (condition_at (seen q) (fraction_condition f)) ∙ fraction_law f q l v

five : (p h x g f : Bool) → (p && (h && (x && (g && f)))) ≡ (p && h && x && g && f)
five true true true true f = refl
five true true true false f = refl
five true true false g f = refl
five true false x g f = refl
five false h x g f = refl

pub rule_law : RuleLaw
rule_law ignore r q l v =
    let hs = map header_condition r.headers in
    let xs = map query_condition r.queries in
    let gs = grpc_conditions r.grpc in
    let fs = fraction_conditions r.fraction in
    let last : all_at (seen q) (gs ++ fs) ≡ ((not r.grpc || grpc_holds q) && fraction_part r.fraction q) =
    all_at-append (seen q) gs fs ∙ rw (grpc_part_at q r.grpc v, fraction_part_at q r.fraction v l.fraction) refl in
    let more : all_at (seen q) (xs ++ (gs ++ fs)) ≡ (list_all (λ x. query_holds x q) r.queries && ((not r.grpc || grpc_holds q) && fraction_part r.fraction q)) =
    all_at-append (seen q) xs (gs ++ fs) ∙ rw (queries_at q r.queries v l.queries, last) refl in
    let all : all_at (seen q) (hs ++ (xs ++ (gs ++ fs))) ≡ (headers_hold r.headers q && (list_all (λ x. query_holds x q) r.queries && ((not r.grpc || grpc_holds q) && fraction_part r.fraction q))) =
    all_at-append (seen q) hs (xs ++ (gs ++ fs)) ∙ rw (headers_at q r.headers v l.headers, more) refl in
    at_all (seen q) (rule_conditions ignore r) ∙ rw (path_law ignore r.fold r.path q l.path v, all) (five (path_holds r.path r.fold (matched_path ignore q.target)) (headers_hold r.headers q) (list_all (λ x. query_holds x q) r.queries) (not r.grpc || grpc_holds q) (fraction_part r.fraction q))
