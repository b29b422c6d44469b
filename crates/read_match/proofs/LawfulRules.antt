-- Rules that are read are lawful.
use Rattle.std.proofs.Common.{◌≡◌, ◌≤◌, ℕ, List, [], ◌∷◌, length, Bool, true, false, not, ◌&&◌, ◌||◌, ◌==◌, if◌then◌else◌, Option, Some, None, IfOk, IsTrue, Ok, Err, refl, arith, nat_le, ℤ, pos, negsuc, leb-true}
use Rattle.std.specs.List.{list_any}
use Rattle.std.specs.Prelude.{All, IfSome, unwrap_or, FitsSigned, int_le}
use Rattle.std.specs.Int.{w64}
use Rattle.std.proofs.lemmas.Bool.{and_parts}
use Rattle.std.proofs.lemmas.List.Elements.{All-nil}
use Rattle.serde_json.specs.Data.{Data}
use Rattle.json_tables.specs.declared.message.Message.TheVariants as messages
use Rattle.json_tables.specs.Names as name
use Rattle.text_base.specs.Forms.{ends}
use Rattle.json_walk.specs.declared.refusal.Kind.TheVariants.{TooMany, BadText, WrongKind, OutOfRange}
use Rattle.json_walk.specs.Outcome.{offence, or_offence}
use Rattle.json_walk.specs.Places.{under}
use Rattle.json_walk.specs.Members.{members_at}
use Rattle.json_walk.specs.Fields.{optional, required, alone, must}
use Rattle.json_walk.specs.Leaves.{truth, choice, list_of}
use Rattle.json_walk.specs.Numbers.{count, whole, number_said}
use Rattle.json_walk.proofs.ReadFacts.{Reads, after, whatever, where_false, of_required, of_optional, of_maybe, of_list}
use Rattle.cfg_types.specs.Lawful.{IsLawfulPattern, IsLawfulForm, IsLawfulText, IsLawfulPath, IsLawfulValue, IsLawfulHeader, IsLawfulQuery, IsLawfulFraction, IsLawfulRule}
use Rattle.cfg_types.specs.Kinds.{is_path_text, is_separated_text, is_query_name}
use Rattle.cfg_types.specs.declared.rules.Fraction.{Fraction}
use Rattle.cfg_types.specs.declared.rules.HeaderRule.{HeaderRule}
use Rattle.cfg_types.specs.declared.rules.Pattern.{Pattern}
use Rattle.cfg_types.specs.declared.rules.PathRule.{PathRule}
use Rattle.cfg_types.specs.declared.rules.PathRule.TheVariants as path
use Rattle.cfg_types.specs.declared.rules.QueryRule.{QueryRule}
use Rattle.cfg_types.specs.declared.rules.TextForm.{TextForm}
use Rattle.cfg_types.specs.declared.rules.TextRule.{TextRule}
use Rattle.read_match.specs.Kinds.{matcher_text, path_text, field_name, query_name}
use Rattle.read_match.specs.Patterns.{pattern_from, pattern}
use Rattle.rx_parse.specs.declared.fault.RxFault.TheVariants.{Syntax, NotInSubset, TooLarge, OutOfMemory}
use Rattle.rx_parse.specs.Results.{Answer, IsAnswer}
use Rattle.rx_parse.specs.Answer.{answer}
use Rattle.rx_parse.proofs.ExactAnswers.{answer_is}
use Rattle.read_match.specs.Texts.{regex_text, regex_matcher, text_form, text_forms, ignores_case, string_matcher}
use Rattle.read_match.specs.Headers.{int_range, plain_forms, value_form, value_forms, header_form, header_forms, header_flags, header_matcher}
use Rattle.read_match.specs.Queries.{presence, query_matcher}
use Rattle.read_match.specs.Fractions.{denominator, denominators, denominator_of, fractional_percent, runtime_fraction}
use Rattle.read_match.specs.Routes.{path_form, path_forms, is_cut, separated, one_path, grpc, beside, route_match}
use Rattle.read_match.proofs.LawfulTexts.{IsMatcher, of_matcher_text, of_path_text, IsField, of_field_name, of_query_name}

pub must_is : {A : Type 0} (p : List ℕ) (o : Option A) (Q : A → Type 0) → IfSome o Q → IfOk (must p o) Q
must_is p None Q h = tt
must_is p (Some x) Q h = h

-- ---- patterns and texts

-- a text is read as the term that the grammar gives it
of_answer : (p t : List ℕ) (a : Answer) → length t ≤ 512 → IsMatcher t → IsAnswer t a → IfOk (pattern_from p t a) IsLawfulPattern
of_answer p t (Ok term) short is parsed = record { text = is; short = short; spelled = parsed }
of_answer p t (Err (Syntax a)) short is told = tt
of_answer p t (Err (NotInSubset a)) short is told = tt
of_answer p t (Err (TooLarge k)) short is told = tt
of_answer p t (Err OutOfMemory) short is told = tt

of_pattern : (p t : List ℕ) → length t ≤ 512 → IsMatcher t → IfOk (pattern p t) IsLawfulPattern
unfolding pattern
of_pattern p t short is = of_answer p t (answer t) short is (answer_is t)

of_regex_text : Reads IsLawfulPattern regex_text
unfolding regex_text
of_regex_text p d = after (matcher_text p d) (λ t. if nat_le (length t) 512 then pattern p t else offence p TooMany) IsMatcher IsLawfulPattern (of_matcher_text p d) (λ t is. step p t is (nat_le (length t) 512) refl)
  where
    step : (p t : List ℕ) → IsMatcher t → (v : Bool) → nat_le (length t) 512 ≡ v → IfOk (if v then pattern p t else offence p TooMany) IsLawfulPattern
    step p t is true e = of_pattern p t (grind (arith, e)) is
    step p t is false e = tt

of_regex : Reads IsLawfulPattern regex_matcher
unfolding regex_matcher
of_regex p d = whatever (members_at messages.RegexMatcher p d) _ IsLawfulPattern (λ _. of_required p d name.regex regex_text IsLawfulPattern of_regex_text)

form_is : (e p s c : Option (List ℕ)) (x : Option Pattern) → IfSome e IsMatcher → IfSome p IsMatcher → IfSome s IsMatcher → IfSome c IsMatcher → IfSome x IsLawfulPattern → IfSome (text_form e p s c x) IsLawfulForm
unfolding text_form
form_is (Some t) p s c x a b d f g = a
form_is None (Some t) s c x a b d f g = b
form_is None None (Some t) c x a b d f g = d
form_is None None None (Some t) x a b d f g = f
form_is None None None None (Some t) a b d f g = g
form_is None None None None None a b d f g = tt

of_text_forms : (p : List ℕ) (d : Data) → IfOk (text_forms p d) (λ o. IfSome o IsLawfulForm)
unfolding text_forms
of_text_forms p d =
    after (optional p d name.exact matcher_text) _ (λ o. IfSome o IsMatcher) (λ o. IfSome o IsLawfulForm) (of_maybe p d name.exact matcher_text IsMatcher of_matcher_text) (λ e a.
    after (optional p d name.prefix matcher_text) _ (λ o. IfSome o IsMatcher) (λ o. IfSome o IsLawfulForm) (of_maybe p d name.prefix matcher_text IsMatcher of_matcher_text) (λ x b.
    after (optional p d name.suffix matcher_text) _ (λ o. IfSome o IsMatcher) (λ o. IfSome o IsLawfulForm) (of_maybe p d name.suffix matcher_text IsMatcher of_matcher_text) (λ s f.
    after (optional p d name.contains matcher_text) _ (λ o. IfSome o IsMatcher) (λ o. IfSome o IsLawfulForm) (of_maybe p d name.contains matcher_text IsMatcher of_matcher_text) (λ c g.
    after (optional p d name.safe_regex regex_matcher) _ (λ o. IfSome o IsLawfulPattern) (λ o. IfSome o IsLawfulForm) (of_maybe p d name.safe_regex regex_matcher IsLawfulPattern of_regex) (λ r h.
    form_is e x s c r a b f g h)))))

pub of_text_rule : Reads IsLawfulText string_matcher
unfolding string_matcher
of_text_rule p d =
    whatever (members_at messages.StringMatcher p d) _ IsLawfulText (λ _.
    after (text_forms p d) _ (λ o. IfSome o IsLawfulForm) IsLawfulText (of_text_forms p d) (λ found is.
    whatever (ignores_case p d) _ IsLawfulText (λ fold.
    after (must p found) _ IsLawfulForm IsLawfulText (must_is p found IsLawfulForm is) (λ form lawful. lawful))))

-- ---- headers

of_plain_forms : (p : List ℕ) (d : Data) → IfOk (plain_forms p d) (λ o. IfSome o IsLawfulForm)
unfolding plain_forms
of_plain_forms p d =
    after (optional p d name.exact_match matcher_text) _ (λ o. IfSome o IsMatcher) (λ o. IfSome o IsLawfulForm) (of_maybe p d name.exact_match matcher_text IsMatcher of_matcher_text) (λ e a.
    after (optional p d name.prefix_match matcher_text) _ (λ o. IfSome o IsMatcher) (λ o. IfSome o IsLawfulForm) (of_maybe p d name.prefix_match matcher_text IsMatcher of_matcher_text) (λ x b.
    after (optional p d name.suffix_match matcher_text) _ (λ o. IfSome o IsMatcher) (λ o. IfSome o IsLawfulForm) (of_maybe p d name.suffix_match matcher_text IsMatcher of_matcher_text) (λ s f.
    after (optional p d name.contains_match matcher_text) _ (λ o. IfSome o IsMatcher) (λ o. IfSome o IsLawfulForm) (of_maybe p d name.contains_match matcher_text IsMatcher of_matcher_text) (λ c g.
    after (optional p d name.safe_regex_match regex_matcher) _ (λ o. IfSome o IsLawfulPattern) (λ o. IfSome o IsLawfulForm) (of_maybe p d name.safe_regex_match regex_matcher IsLawfulPattern of_regex) (λ y h.
    form_is e x s c y a b f g h)))))

value_is : (r : Option TextRule) (o : Option TextForm) → IfSome r IsLawfulText → IfSome o IsLawfulForm → IfSome (value_form r o) IsLawfulText
unfolding value_form
value_is (Some r) o q a = q
value_is None (Some f) q a = a
value_is None None q a = tt

of_value_forms : (p : List ℕ) (d : Data) → IfOk (value_forms p d) (λ o. IfSome o IsLawfulText)
unfolding value_forms
of_value_forms p d =
    after (optional p d name.string_match string_matcher) _ (λ o. IfSome o IsLawfulText) (λ o. IfSome o IsLawfulText) (of_maybe p d name.string_match string_matcher IsLawfulText of_text_rule) (λ r q.
    after (plain_forms p d) _ (λ o. IfSome o IsLawfulForm) (λ o. IfSome o IsLawfulText) (of_plain_forms p d) (λ o a. value_is r o q a))

abbrev Is64 : ℤ → Type 0
Is64 n = FitsSigned w64 n

-- both bounds of a range have 64 bits
abbrev IsRange : ℤ × ℤ → Type 0
IsRange x = Is64 x.0 × Is64 x.1

fits_64 : (n : ℤ) → int_le (negsuc 9223372036854775807) n ≡ true → int_le n (pos 9223372036854775807) ≡ true → Is64 n
fits_64 (pos n) a b = record { sfits = let k = leb-true n 9223372036854775807 b in omega (arith, k) }
fits_64 (negsuc n) a b = record { sfits = let k = leb-true n 9223372036854775807 a in omega (arith, k) }

of_int64 : Reads Is64 (whole (negsuc 9223372036854775807) (pos 9223372036854775807))
unfolding whole
of_int64 p d = whatever (or_offence p WrongKind (number_said d)) _ Is64 (λ n. step p n (int_le (negsuc 9223372036854775807) n && int_le n (pos 9223372036854775807)) refl)
  where
    step : (p : List ℕ) (n : ℤ) (v : Bool) → (int_le (negsuc 9223372036854775807) n && int_le n (pos 9223372036854775807)) ≡ v → IfOk (if v then Ok n else offence p OutOfRange) Is64
    step p n true e = let k = and_parts (int_le (negsuc 9223372036854775807) n) (int_le n (pos 9223372036854775807)) e in fits_64 n k.0 k.1
    step p n false e = tt

bound_is : (o : Option ℤ) → IfSome o Is64 → Is64 (unwrap_or o (pos 0))
bound_is None h = record { sfits = omega arith }
bound_is (Some n) h = h

of_int_range : Reads IsRange int_range
unfolding int_range
of_int_range p d =
    whatever (members_at messages.Int64Range p d) _ IsRange (λ _.
    after (optional p d name.start (whole (negsuc 9223372036854775807) (pos 9223372036854775807))) _ (λ o. IfSome o Is64) IsRange (of_maybe p d name.start (whole (negsuc 9223372036854775807) (pos 9223372036854775807)) Is64 of_int64) (λ s a.
    after (optional p d name.end (whole (negsuc 9223372036854775807) (pos 9223372036854775807))) _ (λ o. IfSome o Is64) IsRange (of_maybe p d name.end (whole (negsuc 9223372036854775807) (pos 9223372036854775807)) Is64 of_int64) (λ e b.
    (bound_is s a, bound_is e b))))

header_form_is : (v : Option TextRule) (r : Option (ℤ × ℤ)) (b : Option Bool) → IfSome v IsLawfulText → IfSome r IsRange → IsLawfulValue (header_form v r b)
unfolding header_form
header_form_is (Some t) r b h k = h
header_form_is None (Some x) b h k = k
header_form_is None None (Some x) h k = tt
header_form_is None None None h k = tt

of_header_forms : Reads IsLawfulValue header_forms
unfolding header_forms
of_header_forms p d =
    after (value_forms p d) _ (λ o. IfSome o IsLawfulText) IsLawfulValue (of_value_forms p d) (λ v h.
    after (optional p d name.range_match int_range) _ (λ o. IfSome o IsRange) IsLawfulValue (of_maybe p d name.range_match int_range IsRange of_int_range) (λ r k.
    whatever (optional p d name.present_match truth) _ IsLawfulValue (λ b. header_form_is v r b h k)))

pub of_header : Reads IsLawfulHeader header_matcher
unfolding header_matcher
of_header p d =
    whatever (members_at messages.HeaderMatcher p d) _ IsLawfulHeader (λ _.
    after (required p d name.name field_name) _ IsField IsLawfulHeader (of_required p d name.name field_name IsField of_field_name) (λ called n.
    after (header_forms p d) _ IsLawfulValue IsLawfulHeader (of_header_forms p d) (λ form f.
    whatever (header_flags p d) _ IsLawfulHeader (λ flags. record { name = n; form = f }))))

-- ---- queries and fractions

pub of_query : Reads IsLawfulQuery query_matcher
unfolding query_matcher
of_query p d =
    whatever (members_at messages.QueryParameterMatcher p d) _ IsLawfulQuery (λ _.
    after (required p d name.name query_name) _ (λ t. IsTrue (is_query_name t)) IsLawfulQuery (of_required p d name.name query_name _ of_query_name) (λ called n.
    after (optional p d name.string_match string_matcher) _ (λ o. IfSome o IsLawfulText) IsLawfulQuery (of_maybe p d name.string_match string_matcher IsLawfulText of_text_rule) (λ form f.
    whatever (presence p d) _ IsLawfulQuery (λ _. record { name = n; form = f }))))

abbrev IsDenominator : ℕ → Type 0
IsDenominator of = IsTrue (list_any (λ n. of == n) (100 ∷ 10000 ∷ 1000000 ∷ []))

denominator_is : (k : ℕ) → IsDenominator (denominator_of k)
denominator_is k = step (k == 0) (k == 1) refl refl
  where
    step : (a b : Bool) → (k == 0) ≡ a → (k == 1) ≡ b → IsDenominator (denominator_of k)
    step true b e f = rw e refl
    step false true e f = rw (e, f) refl
    step false false e f = rw (e, f) refl

of_denominator : Reads IsDenominator denominator
unfolding denominator
of_denominator p d = whatever (choice denominators p d) _ IsDenominator (λ k. denominator_is k)

of_percent : Reads (λ (x : ℕ × ℕ). IsDenominator x.1) fractional_percent
unfolding fractional_percent
of_percent p d =
    whatever (members_at messages.FractionalPercent p d) _ (λ (x : ℕ × ℕ). IsDenominator x.1) (λ _.
    whatever (optional p d name.numerator (count 0 4294967295)) _ (λ (x : ℕ × ℕ). IsDenominator x.1) (λ below.
    after (optional p d name.denominator denominator) _ (λ o. IsDenominator (unwrap_or o 100)) (λ (x : ℕ × ℕ). IsDenominator x.1) (of_optional p d name.denominator denominator 100 IsDenominator refl of_denominator) (λ of is. is)))

of_fraction : Reads IsLawfulFraction runtime_fraction
unfolding runtime_fraction
of_fraction p d =
    whatever (members_at messages.RuntimeFractionalPercent p d) _ IsLawfulFraction (λ _.
    after (required p d name.default_value fractional_percent) _ (λ (x : ℕ × ℕ). IsDenominator x.1) IsLawfulFraction (of_required p d name.default_value fractional_percent _ of_percent) (λ share of.
    after (optional p d name.runtime_key matcher_text) _ (λ o. IsMatcher (unwrap_or o [])) IsLawfulFraction (of_optional p d name.runtime_key matcher_text [] IsMatcher refl of_matcher_text) (λ key k. record { key = k; of = of })))

-- ---- routes

abbrev IsPath : List ℕ → Type 0
IsPath t = IsTrue (is_path_text t)

-- a path rule before its own rule is judged
abbrev IsPlainPath : PathRule → Type 0
IsPlainPath (path.Prefix v) = IsPath v
IsPlainPath (path.Exact v) = IsPath v
IsPlainPath (path.Separated v) = IsPath v
IsPlainPath (path.Pattern p) = IsLawfulPattern p

path_is : (a b : Option (List ℕ)) (x : Option Pattern) (c : Option (List ℕ)) → IfSome a IsPath → IfSome b IsPath → IfSome x IsLawfulPattern → IfSome c IsPath → IfSome (path_form a b x c) IsPlainPath
unfolding path_form
path_is (Some t) b x c e f g h = e
path_is None (Some t) x c e f g h = f
path_is None None (Some t) c e f g h = g
path_is None None None (Some t) e f g h = h
path_is None None None None e f g h = tt

of_path_forms : (p : List ℕ) (d : Data) → IfOk (path_forms p d) (λ o. IfSome o IsPlainPath)
unfolding path_forms
of_path_forms p d =
    after (optional p d name.prefix path_text) _ (λ o. IfSome o IsPath) (λ o. IfSome o IsPlainPath) (of_maybe p d name.prefix path_text IsPath of_path_text) (λ a e.
    after (optional p d name.path path_text) _ (λ o. IfSome o IsPath) (λ o. IfSome o IsPlainPath) (of_maybe p d name.path path_text IsPath of_path_text) (λ b f.
    after (optional p d name.safe_regex regex_matcher) _ (λ o. IfSome o IsLawfulPattern) (λ o. IfSome o IsPlainPath) (of_maybe p d name.safe_regex regex_matcher IsLawfulPattern of_regex) (λ x g.
    after (optional p d name.path_separated_prefix path_text) _ (λ o. IfSome o IsPath) (λ o. IfSome o IsPlainPath) (of_maybe p d name.path_separated_prefix path_text IsPath of_path_text) (λ c h.
    path_is a b x c e f g h))))

three : (x y z : Bool) → x ≡ true → y ≡ true → z ≡ false → (x && y && not z) ≡ true
three x y z p q r = rw (p, q, r) refl

no_right : (x y : Bool) → (x || y) ≡ false → y ≡ false
no_right true y e = absurd (cc e)
no_right false y e = e

uncut : (t : List ℕ) → is_path_text t ≡ true → is_cut t ≡ false → is_separated_text t ≡ true
uncut [] is e = absurd (cc e)
uncut (b ∷ t) is e = three (is_path_text (b ∷ t)) true (ends (b ∷ t) (47 ∷ [])) is refl (no_right (length (b ∷ t) == 0) (ends (b ∷ t) (47 ∷ [])) e)

separated_is : (p : List ℕ) (rule : PathRule) → IsPlainPath rule → IfOk (separated p rule) IsLawfulPath
unfolding separated
separated_is p (path.Prefix t) is = is
separated_is p (path.Exact t) is = is
separated_is p (path.Pattern x) is = is
separated_is p (path.Separated t) is = where_false (is_cut t) (Ok (path.Separated t)) (under p name.path_separated_prefix) BadText IsLawfulPath (λ e. uncut t is e)

one_path_is : (found : Option PathRule) → IfSome found IsPlainPath → Reads IsLawfulPath (one_path found)
unfolding one_path
one_path_is found is p d =
    whatever (alone p d _) _ IsLawfulPath (λ _.
    after (must p found) _ IsPlainPath IsLawfulPath (must_is p found IsPlainPath is) (λ rule plain. separated_is p rule plain))

pub record IsBeside (b : Option Fraction × List HeaderRule × List QueryRule × Bool) : Type 0 where
  pub fraction : IfSome b.0 IsLawfulFraction
  pub headers : All IsLawfulHeader b.1
  pub queries : All IsLawfulQuery b.2

of_beside : Reads IsBeside beside
unfolding beside
of_beside p d =
    after (optional p d name.runtime_fraction runtime_fraction) _ (λ o. IfSome o IsLawfulFraction) IsBeside (of_maybe p d name.runtime_fraction runtime_fraction IsLawfulFraction of_fraction) (λ fraction f.
    after (optional p d name.headers (list_of None header_matcher)) _ (λ o. All IsLawfulHeader (unwrap_or o [])) IsBeside (of_optional p d name.headers _ [] (All IsLawfulHeader) (All-nil IsLawfulHeader) (of_list None header_matcher IsLawfulHeader of_header)) (λ headers h.
    after (optional p d name.query_parameters (list_of None query_matcher)) _ (λ o. All IsLawfulQuery (unwrap_or o [])) IsBeside (of_optional p d name.query_parameters _ [] (All IsLawfulQuery) (All-nil IsLawfulQuery) (of_list None query_matcher IsLawfulQuery of_query)) (λ queries q.
    whatever (optional p d name.grpc grpc) _ IsBeside (λ calls. record { fraction = f; headers = h; queries = q }))))

pub of_rule : Reads IsLawfulRule route_match
unfolding route_match
of_rule p d =
    whatever (members_at messages.RouteMatch p d) _ IsLawfulRule (λ _.
    after (path_forms p d) _ (λ o. IfSome o IsPlainPath) IsLawfulRule (of_path_forms p d) (λ found is.
    whatever (optional p d name.case_sensitive truth) _ IsLawfulRule (λ cased.
    after (beside p d) _ IsBeside IsLawfulRule (of_beside p d) (λ asked b.
    after (one_path found p d) _ IsLawfulPath IsLawfulRule (one_path_is found is p d) (λ rule r.
    record { path = r; headers = b.headers; queries = b.queries; fraction = b.fraction })))))
