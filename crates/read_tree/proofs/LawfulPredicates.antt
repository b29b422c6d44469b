-- Predicates that are read are lawful.
use Rattle.std.proofs.Common.{rules, ◌≡◌, ◌≤◌, ◌+◌, ℕ, zero, suc, Bool, true, false, List, [], ◌∷◌, length, map, IfOk, IsTrue, Option, Some, None, Ok, if◌then◌else◌, refl, ◌∙◌, arith, nat_le}
use Rattle.std.proofs.Math.ListN.{length-map}
use Rattle.std.specs.Prelude.{All, IfSome, bytes_eq, nat_lt, flat_map, max}
use Rattle.std.specs.List.{list_all, fold}
use Rattle.std.proofs.lemmas.Bool.{and_from}
use Rattle.std.proofs.lemmas.Bool.Decides.{nat_tests}
use Rattle.std.proofs.lemmas.List.Elements.{All-nil, All-cons, All-head, All-tail, All-map, All-weaker, All-append}
use Rattle.serde_json.specs.Data.{Data}
use Rattle.json_tables.specs.declared.message.Message.TheVariants as messages
use Rattle.json_tables.specs.Names as name
use Rattle.json_walk.specs.declared.refusal.Kind.TheVariants.{NotInProfile, OutOfRange}
use Rattle.json_walk.specs.Outcome.{offence}
use Rattle.json_walk.specs.Places.{under}
use Rattle.json_walk.specs.Members.{members_at, is_object}
use Rattle.json_walk.specs.Fields.{optional, required, alone}
use Rattle.json_walk.specs.Leaves.{text, list_of}
use Rattle.json_walk.proofs.ReadFacts.{Reads, after, whatever, weaker, where_false, of_required, of_maybe, of_list}
use Rattle.cfg_types.specs.Kinds.{is_query_name}
use Rattle.cfg_types.specs.Order.{joined}
use Rattle.cfg_types.specs.Lawful.{IsLawfulText, is_input, greatest, two_or_more as two_or_more_are, predicate_depth, predicate_is_filled, predicate_rules, IsLawfulPredicate}
use Rattle.cfg_types.specs.declared.rules.TextRule.{TextRule}
use Rattle.cfg_types.specs.declared.trees.InputRule.{InputRule}
use Rattle.cfg_types.specs.declared.trees.Predicate.{Predicate, Single, Any, All as Every, Not}
use Rattle.cfg_types.specs.declared.trees.Predicate.TheFolds.{the_lemmas}
use Rattle.read_match.specs.Kinds.{field_name, query_name}
use Rattle.read_match.specs.Texts.{string_matcher}
use Rattle.read_match.proofs.LawfulTexts.{IsField, of_field_name, of_query_name}
use Rattle.read_match.proofs.LawfulRules.{must_is, of_text_rule}
use Rattle.read_tree.specs.Types.{type_at, header_input_type, query_input_type}
use Rattle.read_tree.specs.Inputs.{header_input, query_input, input_of_type, input_config, input}
use Rattle.read_tree.specs.Predicates.{single_predicate, two_or_more, predicate_list, predicate_form, predicate_forms, predicate_by, predicate}

-- ---- inputs

abbrev pub IsInput : InputRule → Type 0
IsInput i = IsTrue (is_input i)

of_header_input : Reads IsInput header_input
unfolding header_input
of_header_input p d =
    whatever (members_at messages.HeaderInput p d) _ IsInput (λ _. after (required p d name.header_name field_name) _ IsField IsInput (of_required p d name.header_name field_name IsField of_field_name) (λ n is. is))

abbrev IsQuery : List ℕ → Type 0
IsQuery n = IsTrue (is_query_name n)

of_query_input : Reads IsInput query_input
unfolding query_input
of_query_input p d =
    whatever (members_at messages.QueryInput p d) _ IsInput (λ _. after (required p d name.query_param query_name) _ IsQuery IsInput (of_required p d name.query_param query_name IsQuery of_query_name) (λ n is. is))

of_type : (t p : List ℕ) (d : Data) → IfOk (input_of_type t p d) IsInput
unfolding input_of_type
of_type t p d = by (bytes_eq t header_input_type) (bytes_eq t query_input_type)
  where
    by : (h q : Bool) → IfOk (if h then header_input p d else if q then query_input p d else offence (under p name.type_url) NotInProfile) IsInput
    by true q = of_header_input p d
    by false true = of_query_input p d
    by false false = tt

of_input_config : Reads IsInput input_config
unfolding input_config
of_input_config p d = whatever (type_at p d) _ IsInput (λ t. of_type t p d)

pub of_input : Reads IsInput input
unfolding input
of_input p d =
    whatever (members_at messages.Extension p d) _ IsInput (λ _. whatever (optional p d name.name text) _ IsInput (λ _. of_required p d name.typed_config input_config IsInput of_input_config))

-- ---- lists of numbers, tests and rules

fold_within : (n a : ℕ) (ns : List ℕ) → a ≤ n → All (λ k. k ≤ n) ns → fold max a ns ≤ n
fold_within n a [] le all = le
fold_within n a (k ∷ ns) le all = let h = All-head (λ x. x ≤ n) k ns all in fold_within n (max a k) ns (omega (arith, h)) (All-tail (λ x. x ≤ n) k ns all)

pub greatest_within : (n : ℕ) (ns : List ℕ) → All (λ k. k ≤ n) ns → greatest ns ≤ n
greatest_within n ns all = fold_within n 0 ns (omega arith) all

pub all_true : (bs : List Bool) → All IsTrue bs → list_all (λ b. b) bs ≡ true
all_true [] all = refl
all_true (b ∷ bs) all = and_from b (list_all (λ x. x) bs) (All-head IsTrue b bs all) (all_true bs (All-tail IsTrue b bs all))

pub all_joined : {A X : Type 0} (P : A → Type 0) (f : X → List A) (xs : List X) → All (λ x. All P (f x)) xs → All P (flat_map f xs)
all_joined P f [] all = All-nil P
all_joined P f (x ∷ xs) all =
    All-append P (f x) (flat_map f xs) (All-head (λ y. All P (f y)) x xs all) (all_joined P f xs (All-tail (λ y. All P (f y)) x xs all))

joined_all : {A : Type 0} (P : A → Type 0) (xss : List (List A)) → All (All P) xss → All P (joined xss)
joined_all P xss all = all_joined P (λ xs. xs) xss all

-- ---- predicates

-- what is lawful of a predicate with so many levels left
pub record IsKept (left : ℕ) (p : Predicate) : Type 0 where
  pub depth : predicate_depth p ≤ left
  pub filled : IsTrue (predicate_is_filled p)
  pub rules : All IsLawfulText (predicate_rules p)

abbrev IsSingle : InputRule × TextRule → Type 0
IsSingle s = IsInput s.0 × IsLawfulText s.1

of_single : Reads IsSingle single_predicate
unfolding single_predicate
of_single p d =
    whatever (members_at messages.SinglePredicate p d) _ IsSingle (λ _.
    after (required p d name.input input) _ IsInput IsSingle (of_required p d name.input input IsInput of_input) (λ i is.
    after (required p d name.value_match string_matcher) _ IsLawfulText IsSingle (of_required p d name.value_match string_matcher IsLawfulText of_text_rule) (λ r lawful. (is, lawful))))

-- two members or more
abbrev AreKept : ℕ → List Predicate → Type 0
AreKept left ps = All (IsKept left) ps × (2 ≤ length ps)

two_are : (left : ℕ) (p : List ℕ) (ps : List Predicate) → All (IsKept left) ps → IfOk (two_or_more p ps) (AreKept left)
unfolding two_or_more
two_are left p ps all = where_false (nat_lt (length ps) 2) (Ok ps) p OutOfRange (AreKept left) (λ e. (all, grind (arith, nat_tests, e)))

of_members : (left : ℕ) → Reads (IsKept left) (predicate left) → Reads (AreKept left) (predicate_list (predicate left))
unfolding predicate_list
of_members left one p d =
    whatever (members_at messages.PredicateList p d) _ (AreKept left) (λ _.
    after (required p d name.predicate (list_of None (predicate left))) _ (All (IsKept left)) (AreKept left) (of_required p d name.predicate _ _ (of_list None (predicate left) (IsKept left) one)) (λ ps all.
    two_are left (under p name.predicate) ps all))

single_kept : (left : ℕ) (s : InputRule × TextRule) → IsSingle s → IsKept (suc left) (Single s.0 s.1)
single_kept left s is = record {
  depth =
      let e : predicate_depth (Single s.0 s.1) ≡ 1 = first_of (search (rules, the_lemmas), grind (arith, the_lemmas)) in
      omega (arith, e);
  filled =
      let e : predicate_is_filled (Single s.0 s.1) ≡ is_input s.0 = first_of (search (rules, the_lemmas), grind (arith, the_lemmas)) in
      e ∙ is.0;
  rules =
      let e : predicate_rules (Single s.0 s.1) ≡ s.1 ∷ [] = first_of (search (rules, the_lemmas), grind (arith, the_lemmas)) in
      rw e (All-cons IsLawfulText s.1 [] is.1 (All-nil IsLawfulText));
}

two_filled : (left : ℕ) (ps : List Predicate) → AreKept left ps → two_or_more_are (map predicate_is_filled ps) ≡ true
two_filled left ps (all, two) =
    and_from (nat_le 2 (length (map predicate_is_filled ps))) (list_all (λ b. b) (map predicate_is_filled ps))
    (let l = length-map ps predicate_is_filled in grind (arith, nat_tests, l, two))
    (all_true (map predicate_is_filled ps) (All-map IsTrue predicate_is_filled ps (All-weaker (IsKept left) (λ p. IsTrue (predicate_is_filled p)) (λ p k. k.filled) ps all)))

deepest : (left : ℕ) (ps : List Predicate) → AreKept left ps → greatest (map predicate_depth ps) ≤ left
deepest left ps (all, two) = greatest_within left (map predicate_depth ps) (All-map (λ k. k ≤ left) predicate_depth ps (All-weaker (IsKept left) (λ p. predicate_depth p ≤ left) (λ p k. k.depth) ps all))

all_rules : (left : ℕ) (ps : List Predicate) → AreKept left ps → All IsLawfulText (joined (map predicate_rules ps))
all_rules left ps (all, two) =
    joined_all IsLawfulText (map predicate_rules ps) (All-map (All IsLawfulText) predicate_rules ps (All-weaker (IsKept left) (λ p. All IsLawfulText (predicate_rules p)) (λ p k. k.rules) ps all))

any_kept : (left : ℕ) (ps : List Predicate) → AreKept left ps → IsKept (suc left) (Any ps)
any_kept left ps are = record {
  depth =
      let e : predicate_depth (Any ps) ≡ 1 + greatest (map predicate_depth ps) = first_of (search (rules, the_lemmas), grind (arith, the_lemmas)) in
      let l = deepest left ps are in omega (arith, e, l);
  filled =
      let e : predicate_is_filled (Any ps) ≡ two_or_more_are (map predicate_is_filled ps) = first_of (search (rules, the_lemmas), grind (arith, the_lemmas)) in
      e ∙ two_filled left ps are;
  rules =
      let e : predicate_rules (Any ps) ≡ joined (map predicate_rules ps) = first_of (search (rules, the_lemmas), grind (arith, the_lemmas)) in
      rw e (all_rules left ps are);
}

every_kept : (left : ℕ) (ps : List Predicate) → AreKept left ps → IsKept (suc left) (Every ps)
every_kept left ps are = record {
  depth =
      let e : predicate_depth (Every ps) ≡ 1 + greatest (map predicate_depth ps) = first_of (search (rules, the_lemmas), grind (arith, the_lemmas)) in
      let l = deepest left ps are in omega (arith, e, l);
  filled =
      let e : predicate_is_filled (Every ps) ≡ two_or_more_are (map predicate_is_filled ps) = first_of (search (rules, the_lemmas), grind (arith, the_lemmas)) in
      e ∙ two_filled left ps are;
  rules =
      let e : predicate_rules (Every ps) ≡ joined (map predicate_rules ps) = first_of (search (rules, the_lemmas), grind (arith, the_lemmas)) in
      rw e (all_rules left ps are);
}

not_kept : (left : ℕ) (p : Predicate) → IsKept left p → IsKept (suc left) (Not p)
not_kept left p k = record {
  depth =
      let e : predicate_depth (Not p) ≡ 1 + predicate_depth p = first_of (search (rules, the_lemmas), grind (arith, the_lemmas)) in
      let l = k.depth in omega (arith, e, l);
  filled =
      let e : predicate_is_filled (Not p) ≡ predicate_is_filled p = first_of (search (rules, the_lemmas), grind (arith, the_lemmas)) in
      e ∙ k.filled;
  rules =
      let e : predicate_rules (Not p) ≡ predicate_rules p = first_of (search (rules, the_lemmas), grind (arith, the_lemmas)) in
      rw e k.rules;
}

form_kept : (left : ℕ) (single : Option (InputRule × TextRule)) (some every : Option (List Predicate)) (inner : Option Predicate) →
    IfSome single IsSingle → IfSome some (AreKept left) → IfSome every (AreKept left) → IfSome inner (IsKept left) → IfSome (predicate_form single some every inner) (IsKept (suc left))
unfolding predicate_form
form_kept left (Some s) some every inner a b e f = single_kept left s a
form_kept left None (Some ps) every inner a b e f = any_kept left ps b
form_kept left None None (Some ps) inner a b e f = every_kept left ps e
form_kept left None None None (Some q) a b e f = not_kept left q f
form_kept left None None None None a b e f = tt

abbrev MayBeKept : ℕ → Option Predicate → Type 0
MayBeKept left o = IfSome o (IsKept left)

of_forms : (left : ℕ) → Reads (IsKept left) (predicate left) → Reads (MayBeKept (suc left)) (predicate_forms (predicate left))
unfolding predicate_forms
of_forms left one p d =
    after (optional p d name.single_predicate single_predicate) _ (λ o. IfSome o IsSingle) (MayBeKept (suc left)) (of_maybe p d name.single_predicate single_predicate IsSingle of_single) (λ single a.
    after (optional p d name.or_matcher (predicate_list (predicate left))) _ (λ o. IfSome o (AreKept left)) (MayBeKept (suc left)) (of_maybe p d name.or_matcher _ (AreKept left) (of_members left one)) (λ some b.
    after (optional p d name.and_matcher (predicate_list (predicate left))) _ (λ o. IfSome o (AreKept left)) (MayBeKept (suc left)) (of_maybe p d name.and_matcher _ (AreKept left) (of_members left one)) (λ every e.
    after (optional p d name.not_matcher (predicate left)) _ (λ o. IfSome o (IsKept left)) (MayBeKept (suc left)) (of_maybe p d name.not_matcher (predicate left) (IsKept left) one) (λ inner f.
    form_kept left single some every inner a b e f))))

of_layer : (left : ℕ) → Reads (IsKept left) (predicate left) → Reads (IsKept (suc left)) (predicate_by (predicate left))
unfolding predicate_by
of_layer left one p d =
    whatever (members_at messages.Predicate p d) _ (IsKept (suc left)) (λ _.
    after (predicate_forms (predicate left) p d) _ (MayBeKept (suc left)) (IsKept (suc left)) (of_forms left one p d) (λ found is.
    whatever (alone p d _) _ (IsKept (suc left)) (λ _. must_is p found (IsKept (suc left)) is)))

of_predicate : (left : ℕ) → Reads (IsKept left) (predicate left)
unfolding predicate
of_predicate zero p d = whatever (is_object p d) _ (IsKept 0) (λ _. tt)
of_predicate (suc n) p d = of_layer n (of_predicate n) p d

pub lawful_predicate : Reads IsLawfulPredicate (predicate 8)
lawful_predicate p d = weaker (predicate 8 p d) (IsKept 8) IsLawfulPredicate (of_predicate 8 p d) (λ x k. record { depth = k.depth; filled = k.filled; rules = k.rules })
