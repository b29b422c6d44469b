-- The conditions of lawful rules ask for fields that requests may have.
use Rattle.std.proofs.Common.{◌≡◌, ℕ, Bool, true, false, not, ◌&&◌, ◌||◌, List, [], ◌∷◌, ◌++◌, map, Option, None, Some, refl, sym, ap, subst, ◌∙◌, IsTrue, All}
use Rattle.std.specs.Prelude.{bytes_eq, codes, IfSome, flat_map, nat_le, length}
use Rattle.std.specs.List.{list_all, list_any}
use Rattle.std.proofs.lemmas.Bool.{and_parts, and_from}
use Rattle.std.proofs.lemmas.List.Elements.{All-head, All-tail}
use Rattle.std.proofs.lemmas.List.Folds.{list_all-append}
use Rattle.text_base.specs.Asked.{Bytes}
use Rattle.text_base.specs.Alphabets.{is_token_byte, is_capital}
use Rattle.text_base.specs.Requests.{some_of, is_header_name}
use Rattle.text_base.specs.Seen.{field_named}
use Rattle.text_base.specs.declared.request.Field.{Field}
use Rattle.text_base.specs.declared.request.Field.TheVariants as field
use Rattle.rx_term.specs.declared.terms.Term.{Term}
use Rattle.rx_term.specs.Language.{nullable}
use Rattle.rx_build.specs.Texts.{exact_term}
use Rattle.rx_build.specs.Numbers.{digits_below_term}
use Rattle.goal_form.specs.declared.atom.Atom.{Atom}
use Rattle.goal_form.specs.declared.atom.Atom.TheVariants.{Present, Within}
use Rattle.goal_form.specs.declared.sight.Condition.{Condition}
use Rattle.goal_form.specs.declared.sight.Condition as of
use Rattle.goal_form.specs.declared.sight.Condition.TheOpen.{Condition-F}
use Rattle.goal_form.specs.declared.sight.Condition.TheFolds.{fold-roll-Condition}
use Rattle.goal_form.specs.declared.sight.Condition.TheViews.{roll-Condition}
use Rattle.goal_form.specs.Fields.{is_always}
use Rattle.goal_form.specs.Goals.{field_in, is_named_well}
use Rattle.cfg_types.specs.Kinds.{is_field_name, is_edit_name}
use Rattle.cfg_types.specs.Lawful.{IsLawfulHeader, IsLawfulRule}
use Rattle.cfg_types.specs.HeaderRules.{turned}
use Rattle.cfg_types.specs.declared.rules.HeaderRule.{HeaderRule}
use Rattle.cfg_types.specs.declared.rules.HeaderForm.{HeaderForm}
use Rattle.cfg_types.specs.declared.rules.HeaderForm.TheVariants as header
use Rattle.cfg_types.specs.declared.rules.QueryRule.{QueryRule}
use Rattle.cfg_types.specs.declared.rules.Fraction.{Fraction}
use Rattle.goal_form.specs.Leaves.{within, present}
use Rattle.rule_form.specs.Conditions.{yes_or_no, or_absent, value_condition, presence_condition, form_condition, header_condition, query_condition, key_conditions, fraction_condition, grpc_condition, grpc_conditions, fraction_conditions, path_condition, rule_conditions}
use Rattle.rule_form.specs.Leaves.{atoms_step, atoms_in, are_named_well}
use Rattle.rule_form.specs.Laws.{RuleNamesLaw}

-- ---- the atoms of one layer

pub in_yes : atoms_in of.Yes ≡ []
unfolding roll-Condition denote.Hole.Carrier.roll
in_yes = fold-roll-Condition (List Atom) atoms_step Condition-F.Yes

pub in_no : atoms_in of.No ≡ []
unfolding roll-Condition denote.Hole.Carrier.roll
in_no = fold-roll-Condition (List Atom) atoms_step Condition-F.No

pub in_leaf : (a : Atom) → atoms_in (of.Leaf a) ≡ a ∷ []
unfolding roll-Condition denote.Hole.Carrier.roll
in_leaf a = fold-roll-Condition (List Atom) atoms_step (Condition-F.Leaf a)

pub in_all : (cs : List Condition) → atoms_in (of.All cs) ≡ flat_map (λ a. a) (map atoms_in cs)
unfolding roll-Condition denote.Hole.Carrier.roll
in_all cs = fold-roll-Condition (List Atom) atoms_step (Condition-F.All cs)

pub in_any : (cs : List Condition) → atoms_in (of.Any cs) ≡ flat_map (λ a. a) (map atoms_in cs)
unfolding roll-Condition denote.Hole.Carrier.roll
in_any cs = fold-roll-Condition (List Atom) atoms_step (Condition-F.Any cs)

pub in_not : (c : Condition) → atoms_in (of.Not c) ≡ atoms_in c
unfolding roll-Condition denote.Hole.Carrier.roll
in_not c = fold-roll-Condition (List Atom) atoms_step (Condition-F.Not c)

-- all atoms of the condition have fields of requests
abbrev pub IsWell : Condition → Type 0
IsWell c = are_named_well (atoms_in c) ≡ true

abbrev pub AreWell : List Condition → Type 0
AreWell [] = Unit {0}
AreWell (c ∷ cs) = IsWell c × AreWell cs

are_from : (cs : List Condition) → AreWell cs → are_named_well (flat_map (λ a. a) (map atoms_in cs)) ≡ true
are_from [] h = refl
are_from (c ∷ cs) h =
    list_all-append (λ a. is_named_well (field_in a)) (atoms_in c) (flat_map (λ a. a) (map atoms_in cs))
    ∙ and_from (are_named_well (atoms_in c)) (are_named_well (flat_map (λ a. a) (map atoms_in cs))) h.0 (are_from cs h.1)

pub well_all : (cs : List Condition) → AreWell cs → IsWell (of.All cs)
well_all cs h = ap are_named_well (in_all cs) ∙ are_from cs h

pub well_any : (cs : List Condition) → AreWell cs → IsWell (of.Any cs)
well_any cs h = ap are_named_well (in_any cs) ∙ are_from cs h

pub well_not : (c : Condition) → IsWell c → IsWell (of.Not c)
well_not c h = ap are_named_well (in_not c) ∙ h

pub well_both : (cs ds : List Condition) → AreWell cs → AreWell ds → AreWell (cs ++ ds)
well_both [] ds h k = k
well_both (c ∷ cs) ds h k = (h.0, well_both cs ds h.1 k)

-- ---- rules

pub well_within : (f : Field) (t : Term) (user : Bool) → is_named_well f ≡ true → IsWell (within f t user)
well_within f t user h = ap are_named_well (in_leaf (Within f t user)) ∙ and_from (is_named_well f) true h refl

pub well_present : (f : Field) → is_named_well f ≡ true → IsWell (present f)
well_present f h = by_kind (is_always f) refl
  where
    by_kind : (v : Bool) → is_always f ≡ v → IsWell (present f)
    by_kind true e = rw e (ap are_named_well in_yes)
    by_kind false e = rw e (ap are_named_well (in_leaf (Present f)) ∙ and_from (is_named_well f) true h refl)

well_known : (b : Bool) → IsWell (yes_or_no b)
well_known true = ap are_named_well in_yes
well_known false = ap are_named_well in_no

module _ (f : Field) (h : is_named_well f ≡ true) where
  well_or_absent : (t : Term) (user : Bool) → IsWell (or_absent f t user)
  well_or_absent t user = well_any _ (well_within f t user h, (well_all _ (well_not _ (well_present f h), (well_known (nullable t), tt)), tt))

  well_value : (t : Term) (user invert missing_empty : Bool) → IsWell (value_condition f t user invert missing_empty)
  well_value t user false false = well_within f t user h
  well_value t user false true = well_or_absent t user
  well_value t user true false = well_all _ (well_present f h, (well_not _ (well_within f t user h), tt))
  well_value t user true true = well_not _ (well_or_absent t user)

  well_presence : (b : Bool) → IsWell (presence_condition f b)
  well_presence true = well_present f h
  well_presence false = well_not _ (well_present f h)

  well_form : (x : HeaderForm) (invert missing_empty : Bool) → IsWell (form_condition f x invert missing_empty)
  well_form (header.Value r) invert missing_empty = well_value _ _ invert missing_empty
  well_form (header.Range start end) invert missing_empty = well_value _ false invert missing_empty
  well_form (header.Present b) invert missing_empty = well_presence (turned invert b)

-- a lawful name that stands for none of the parts is that of a header
header_name : (h t l : Bool) → (l && t && not h) ≡ true → (t && not (h || false)) ≡ true
header_name true t l e = let k = and_parts (l && t) false e in absurd (cc)
header_name false true l e = refl
header_name false false true e = cc
header_name false false false e = cc

header_well : (n : Bytes) → bytes_eq n (codes "x-forwarded-proto") ≡ false → bytes_eq n (codes "x-envoy-internal") ≡ false → is_edit_name n ≡ true → is_header_name n ≡ true
header_well n ex ei e =
    rw (ex, ei) (header_name (bytes_eq n (codes "host")) (some_of (λ b. is_token_byte b && not (is_capital b)) n) (nat_le (length n) 1024) e)

pub field_well : (n : Bytes) → IsTrue (is_field_name n) → is_named_well (field_named n) ≡ true
field_well n e = by_authority (bytes_eq n (codes ":authority")) refl
  where
    by_internal : (a p m x : Bool) → bytes_eq n (codes ":authority") ≡ false → bytes_eq n (codes ":path") ≡ false → bytes_eq n (codes ":method") ≡ false →
        bytes_eq n (codes "x-forwarded-proto") ≡ false → (i : Bool) → bytes_eq n (codes "x-envoy-internal") ≡ i → is_named_well (field_named n) ≡ true
    by_internal a p m x ea ep em ex true ei = rw (ea, ep, em, ex, ei) refl
    by_internal a p m x ea ep em ex false ei =
        let k = rw (em, ea, ep) at e in
        rw (ea, ep, em, ex, ei) (header_well n ex ei k)

    by_proto : (a p m : Bool) → bytes_eq n (codes ":authority") ≡ false → bytes_eq n (codes ":path") ≡ false → bytes_eq n (codes ":method") ≡ false →
        (x : Bool) → bytes_eq n (codes "x-forwarded-proto") ≡ x → is_named_well (field_named n) ≡ true
    by_proto a p m ea ep em true ex = rw (ea, ep, em, ex) refl
    by_proto a p m ea ep em false ex = by_internal a p m false ea ep em ex (bytes_eq n (codes "x-envoy-internal")) refl

    by_method : bytes_eq n (codes ":authority") ≡ false → bytes_eq n (codes ":path") ≡ false → (m : Bool) → bytes_eq n (codes ":method") ≡ m → is_named_well (field_named n) ≡ true
    by_method ea ep true em = rw (ea, ep, em) refl
    by_method ea ep false em = by_proto false false false ea ep em (bytes_eq n (codes "x-forwarded-proto")) refl

    by_path : bytes_eq n (codes ":authority") ≡ false → (p : Bool) → bytes_eq n (codes ":path") ≡ p → is_named_well (field_named n) ≡ true
    by_path ea true ep = rw (ea, ep) refl
    by_path ea false ep = by_method ea ep (bytes_eq n (codes ":method")) refl

    by_authority : (a : Bool) → bytes_eq n (codes ":authority") ≡ a → is_named_well (field_named n) ≡ true
    by_authority true ea = rw ea refl
    by_authority false ea = by_path ea (bytes_eq n (codes ":path")) refl

well_headers : (hs : List HeaderRule) → All IsLawfulHeader hs → AreWell (map header_condition hs)
well_headers [] l = tt
well_headers (h ∷ hs) l =
    let k = All-head IsLawfulHeader h hs l in
    (well_form (field_named h.name) (field_well h.name k.name) h.form h.invert h.missing_empty, well_headers hs (All-tail IsLawfulHeader h hs l))

well_queries : (xs : List QueryRule) → AreWell (map query_condition xs)
well_queries [] = tt
well_queries (x ∷ xs) = (well_within field.Target _ _ refl, well_queries xs)

well_key : (key : Bytes) → AreWell (key_conditions key)
well_key [] = tt
well_key (b ∷ key) = (well_within field.Runtime (exact_term false (b ∷ key)) false refl, tt)

well_fraction : (f : Fraction) → IsWell (fraction_condition f)
well_fraction f = well_all _ (well_both (key_conditions f.key) _ (well_key f.key) (well_within field.Random (digits_below_term f.of f.below) false refl, tt))

well_fractions : (f : Option Fraction) → AreWell (fraction_conditions f)
well_fractions None = tt
well_fractions (Some f) = (well_fraction f, tt)

well_grpc : (g : Bool) → AreWell (grpc_conditions g)
well_grpc true = (well_within (field.Header (codes "content-type")) _ false refl, tt)
well_grpc false = tt

pub rule_names_law : RuleNamesLaw
rule_names_law ignore r l =
    well_all (rule_conditions ignore r) (
      well_within field.Target _ _ refl,
      well_both (map header_condition r.headers) _ (well_headers r.headers l.headers) (well_both (map query_condition r.queries) _ (well_queries r.queries)
          (well_both (grpc_conditions r.grpc) _ (well_grpc r.grpc) (well_fractions r.fraction))),
    )
