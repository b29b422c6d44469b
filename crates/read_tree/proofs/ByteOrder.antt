-- The members of a map in byte order: those of an object that is read stand so, and their names rise.
use Rattle.std.proofs.Common.{◌≡◌, ℕ, List, [], ◌∷◌, true, String, Global, Ordering, Less, Equal, Greater, string_bytes, string_cmp, nat_cmp, refl, sym, ap, ◌∙◌}
use Rattle.std.proofs.lemmas.Bool.{and_parts, and_from}
use Rattle.std.proofs.lemmas.Cmp.{nat_list_cmp_total}
use Rattle.std.specs.Cmp.Lexicographic.{slice_cmp}
use Rattle.std.specs.List.{AllByRecursion, list_all}
use Rattle.std.specs.List.Sorted.{IsStrictlySortedBy}
use Rattle.std.specs.Map.{keys_of}
use Rattle.std.specs.Ordering.{match_ordering, ordering_reverse, is_lt}
use Rattle.serde_json.specs.Data.{Data, Members, no_members, member, put}
use Rattle.serde_json.specs.View.{view, members_view}
use Rattle.serde_json.specs.declared.value.Value.{Value}
use Rattle.cfg_types.specs.Kinds.{byte_order, are_ordered}
use Rattle.cfg_types.proofs.KeyOrders.{byte_order-is}
use Rattle.read_tree.specs.Maps.{in_byte_order}

abbrev Entry : Type 0
Entry = String Global × Value

-- ---- members that stand in byte order stay

put_first : (e : Entry) (es : List Entry) → AllByRecursion (λ y. string_cmp e.0 y ≡ Less) (keys_of es) → put (string_bytes e.0) (view e.1) (members_view es) ≡ members_view (e ∷ es)
put_first e [] h = refl
put_first e (x ∷ es) h = let below : slice_cmp nat_cmp (string_bytes e.0) (string_bytes x.0) ≡ Less = h.0 in rw below refl

pub ordered_is : (es : List Entry) → IsStrictlySortedBy string_cmp (keys_of es) → in_byte_order (members_view es) ≡ members_view es
unfolding IsStrictlySortedBy
ordered_is [] h = refl
ordered_is (e ∷ es) h = ap (put (string_bytes e.0) (view e.1)) (ordered_is es h.1) ∙ put_first e es h.0

-- ---- members that are put into byte order rise

abbrev pub names : Members → List (List ℕ)
names no_members = []
names (member k d ms) = k ∷ names ms

below : (a b : List ℕ) → slice_cmp nat_cmp a b ≡ Less → byte_order a b ≡ true
below a b e = sym (byte_order-is a b) ∙ ap is_lt e

less : (a b : List ℕ) → byte_order a b ≡ true → slice_cmp nat_cmp a b ≡ Less
less a b e = only (slice_cmp nat_cmp a b) (byte_order-is a b ∙ e)
  where
    only : (o : Ordering) → is_lt o ≡ true → o ≡ Less
    only Less h = refl
    only Equal h = absurd (cc h)
    only Greater h = absurd (cc h)

above : (a b : List ℕ) → slice_cmp nat_cmp a b ≡ Greater → byte_order b a ≡ true
above a b e = below b a (nat_list_cmp_total.antisymm b a ∙ ap ordering_reverse e)

chained : (a b c : List ℕ) → byte_order a b ≡ true → byte_order b c ≡ true → byte_order a c ≡ true
chained a b c e f = below a c (nat_list_cmp_total.trans a b c (less a b e) (less b c f))

all_chained : (a b : List ℕ) (ks : List (List ℕ)) → byte_order a b ≡ true → list_all (byte_order b) ks ≡ true → list_all (byte_order a) ks ≡ true
all_chained a b [] e h = refl
all_chained a b (k ∷ ks) e h =
    let p = and_parts (byte_order b k) (list_all (byte_order b) ks) h in
    and_from (byte_order a k) (list_all (byte_order a) ks) (chained a b k e p.0) (all_chained a b ks e p.1)

-- what comes before a key and before all members comes before all of them when the key is put among them
before_put : (x k : List ℕ) (d : Data) (ms : Members) → byte_order x k ≡ true → list_all (byte_order x) (names ms) ≡ true → list_all (byte_order x) (names (put k d ms)) ≡ true
before_put x k d no_members a h = and_from (byte_order x k) true a refl
before_put x k d (member l e ms) a h =
    let p = and_parts (byte_order x l) (list_all (byte_order x) (names ms)) h in
    by (slice_cmp nat_cmp k l) (and_from (byte_order x l) (list_all (byte_order x) (names (put k d ms))) p.0 (before_put x k d ms a p.1))
  where
    by : (o : Ordering) → list_all (byte_order x) (l ∷ names (put k d ms)) ≡ true →
        list_all (byte_order x) (names (match_ordering o (member k d (member l e ms)) (member l d ms) (member l e (put k d ms)))) ≡ true
    by Less rest = and_from (byte_order x k) (list_all (byte_order x) (l ∷ names ms)) a h
    by Equal rest = h
    by Greater rest = rest

put_rises : (k : List ℕ) (d : Data) (ms : Members) → are_ordered byte_order (names ms) ≡ true → are_ordered byte_order (names (put k d ms)) ≡ true
put_rises k d no_members h = refl
put_rises k d (member l e ms) h =
    let p = and_parts (list_all (byte_order l) (names ms)) (are_ordered byte_order (names ms)) h in
    by (slice_cmp nat_cmp k l) refl p.0 (put_rises k d ms p.1)
  where
    by : (o : Ordering) → slice_cmp nat_cmp k l ≡ o → list_all (byte_order l) (names ms) ≡ true → are_ordered byte_order (names (put k d ms)) ≡ true →
        are_ordered byte_order (names (match_ordering o (member k d (member l e ms)) (member l d ms) (member l e (put k d ms)))) ≡ true
    by Less is all rest =
        let f = below k l is in
        and_from (list_all (byte_order k) (l ∷ names ms)) (are_ordered byte_order (l ∷ names ms)) (and_from (byte_order k l) (list_all (byte_order k) (names ms)) f (all_chained k l (names ms) f all)) h
    by Equal is all rest = h
    by Greater is all rest = and_from (list_all (byte_order l) (names (put k d ms))) (are_ordered byte_order (names (put k d ms))) (before_put l k d ms (above k l is) all) rest

pub rises : (ms : Members) → are_ordered byte_order (names (in_byte_order ms)) ≡ true
rises no_members = refl
rises (member k d ms) = put_rises k d (in_byte_order ms) (rises ms)
