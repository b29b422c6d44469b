-- The headers of a map through each change of it.
use Rattle.std.proofs.Common.{◌≡◌, ◌≢◌, ℕ, suc, ◌+◌, ◌<◌, ◌≤◌, Bool, true, false, if◌then◌else◌, List, [], ◌∷◌, ◌++◌, map, length, Option, Some, None, MatchOption, IsSome, swap_remove, slice_get, refl, sym, ap, subst, ◌∙◌, inl, inr, arith}
use Rattle.std.specs.List.{list_any, All}
use Rattle.std.specs.Str.{bytes_eq}
use Rattle.std.proofs.lemmas.List.{append-nil, map-append, length-map, length_push}
use Rattle.std.proofs.lemmas.List.Elements.{All-head, All-tail, All-cons, All-from_get_or, All-get_or}
use Rattle.std.proofs.lemmas.List.Sums.{sum_by-cons, sum_by-swap_remove}
use Rattle.std.proofs.lemmas.Slice.Eq.{bytes_eq-Decides}
use Rattle.http_header.specs.HeaderMap.{Entry, Entries, entry_at, value_count, pairs, entry_pairs, get_all, update, append, insert, remove, remove_at, index_of, ContainsKey, IsUnique, IsHeaderMap, RefusesAppend, RefusesInsert}
use Rattle.http_header.specs.FieldValue.{FieldValue}
use Rattle.http_header.specs.Places.{IsAt, IsAbsent}
use Rattle.http_header.proofs.PlacesLemmas.{index_of_cases}
use Rattle.http_header.proofs.BucketsLemmas.{IsUnique-push, IsUnique-with_values, IsUnique-swap_remove, entry_at-swap_remove, length-swap_remove}
use Rattle.http_header.proofs.CountLemmas.{length-pairs}
use Rattle.http_header.proofs.HeaderMapLemmas.{get_all-append_same, get_all-append_other, get_all-insert_same, get_all-insert_other, get_all-remove_same, get_all-remove_other, IsSome-get}
use Rattle.text_base.specs.Asked.{Bytes, Head}
use Rattle.text_base.specs.Seen.{values}
use Rattle.text_base.specs.Heads.{SameHeads}
use Rattle.cfg_types.specs.HeaderEdits.{without_names, has_name, overwritten}
use Rattle.head_edit.specs.Maps.{heads_of}
use Rattle.head_edit.proofs.NameValues.{values-append, values-appended, values-without, values-overwritten, has_name-values, is_filled, bytes_eq-swap}

abbrev Fields : Type 0
Fields = Entries FieldValue

abbrev bytes_of : List FieldValue → List Bytes
bytes_of vs = map (λ v. v.bytes) vs

abbrev IsFilled : Entry FieldValue → Type 0
IsFilled e = 0 < length e.1

abbrev head_of : Bytes × FieldValue → Head
head_of p = (p.0, p.1.bytes)

abbrev named : Bytes → List FieldValue → List Head
named n vs = map head_of (map (λ v. (n, v)) vs)

values-named : (q n : Bytes) (vs : List FieldValue) → values q (named n vs) ≡ (if bytes_eq n q then bytes_of vs else [])
values-named q n vs = by (bytes_eq n q) refl vs
  where
    by : (v : Bool) → bytes_eq n q ≡ v → (ws : List FieldValue) → values q (named n ws) ≡ (if v then bytes_of ws else [])
    by true e [] = refl
    by false e [] = refl
    by true e (w ∷ ws) = rw e (ap (λ t. w.bytes ∷ t) (by true e ws))
    by false e (w ∷ ws) = rw e (by false e ws)

values-entry : (q : Bytes) (e : Entry FieldValue) (m : Fields) →
    values q (heads_of (e ∷ m)) ≡ (if bytes_eq e.0 q then bytes_of e.1 else []) ++ values q (heads_of m)
values-entry q e m =
    ap (values q) (map-append head_of (entry_pairs e) (pairs m))
    ∙ values-append q (named e.0 e.1) (heads_of m)
    ∙ ap (λ t. t ++ values q (heads_of m)) (values-named q e.0 e.1)

-- a name that no entry has
values-absent : (q : Bytes) (m : Fields) → ((i : ℕ) → i < length m → (entry_at m i).0 ≡ q → ⊥) → values q (heads_of m) ≡ []
values-absent q [] none = refl
values-absent q (e ∷ m) none =
    values-entry q e m ∙ by (bytes_eq e.0 q) refl (values-absent q m (λ i l k. none (suc i) (omega arith) k))
  where
    by : (v : Bool) → bytes_eq e.0 q ≡ v → values q (heads_of m) ≡ [] → (if bytes_eq e.0 q then bytes_of e.1 else []) ++ values q (heads_of m) ≡ []
    by true t r = absurd (none 0 (omega arith) ((bytes_eq-Decides e.0 q).0 t))
    by false t r = rw t r

unique-tail : (e : Entry FieldValue) (m : Fields) → IsUnique (e ∷ m) → IsUnique m
unique-tail e m unique i j a b s =
    let k : suc i ≡ suc j = unique (suc i) (suc j) (omega arith) (omega arith) s in omega arith

-- the values of a name among the headers are those that the map gives
pub values-heads_of : (q : Bytes) (m : Fields) → IsUnique m → values q (heads_of m) ≡ bytes_of (get_all m q)
values-heads_of q [] unique = refl
values-heads_of q (e ∷ m) unique =
    values-entry q e m ∙ by (bytes_eq e.0 q) refl (values-heads_of q m (unique-tail e m unique))
  where
    by : (v : Bool) → bytes_eq e.0 q ≡ v → values q (heads_of m) ≡ bytes_of (get_all m q) →
        (if bytes_eq e.0 q then bytes_of e.1 else []) ++ values q (heads_of m) ≡ bytes_of (get_all (e ∷ m) q)
    by true t r =
        let same : e.0 ≡ q = (bytes_eq-Decides e.0 q).0 t in
        let none : values q (heads_of m) ≡ [] = values-absent q m (λ i l k.
        let z : 0 ≡ suc i = unique 0 (suc i) (omega arith) (omega arith) (same ∙ sym k) in omega arith) in
        rw (t, none) (append-nil (bytes_of e.1))
    by false t r = rw t r

-- ---- no name stands twice after a change

unique-update : (m : Fields) (n : Bytes) (f : List FieldValue → List FieldValue) → IsUnique m → IsUnique (update m n f)
unique-update m n f unique = by (index_of m n) (index_of_cases m n)
  where
    by : (o : Option ℕ) → MatchOption o (IsAbsent m n) (IsAt m n) → IsUnique (update m n f)
    by None x = subst IsUnique (sym (x.updates f)) (IsUnique-push m (n, f []) x.absent unique)
    by (Some i) x = subst IsUnique (sym (x.updates f)) (IsUnique-with_values m i (f (entry_at m i).1) x.within unique)

unique-remove : (m : Fields) (n : Bytes) → IsUnique m → IsUnique (remove m n)
unique-remove m n unique = by (index_of m n) (index_of_cases m n)
  where
    by : (o : Option ℕ) → MatchOption o (IsAbsent m n) (IsAt m n) → IsUnique (remove_at m o)
    by None x = unique
    by (Some i) x = IsUnique-swap_remove m i x.within unique

-- ---- what each change does to the headers

differ : (a b : Bytes) → bytes_eq a b ≡ false → a ≢ b
differ a b f s = absurd (let t = (bytes_eq-Decides a b).1 s in cc)

pub same-append : (m : Fields) (n : Bytes) (v : FieldValue) → IsUnique m → SameHeads (heads_of (append m n v)) (heads_of m ++ (n, v.bytes) ∷ [])
same-append m n v unique = λ q.
    values-heads_of q (append m n v) (unique-update m n (λ vs. vs ++ v ∷ []) unique)
    ∙ by q (bytes_eq n q) refl
    ∙ sym (values-appended q (n, v.bytes) (heads_of m))
  where
    by : (q : Bytes) (w : Bool) → bytes_eq n q ≡ w →
        bytes_of (get_all (append m n v) q) ≡ (if bytes_eq n q then values q (heads_of m) ++ v.bytes ∷ [] else values q (heads_of m))
    by q true e =
        let same : n ≡ q = (bytes_eq-Decides n q).0 e in
        rw e
        (subst (λ (x : Bytes). bytes_of (get_all (append m n v) x) ≡ values x (heads_of m) ++ v.bytes ∷ []) same
        (ap bytes_of (get_all-append_same m n v) ∙ map-append (λ x. x.bytes) (get_all m n) (v ∷ []) ∙ ap (λ t. t ++ v.bytes ∷ []) (sym (values-heads_of n m unique))))
    by q false e =
        rw e (ap bytes_of (get_all-append_other m n q v (differ n q e)) ∙ sym (values-heads_of q m unique))

pub same-insert : (m : Fields) (n : Bytes) (v : FieldValue) → IsUnique m → SameHeads (heads_of (insert m n v)) (overwritten (n, v.bytes) (heads_of m))
same-insert m n v unique = λ q.
    values-heads_of q (insert m n v) (unique-update m n (λ vs. v ∷ []) unique)
    ∙ by q (bytes_eq n q) refl
    ∙ sym (values-overwritten q (n, v.bytes) (heads_of m))
  where
    by : (q : Bytes) (w : Bool) → bytes_eq n q ≡ w → bytes_of (get_all (insert m n v) q) ≡ (if bytes_eq n q then v.bytes ∷ [] else values q (heads_of m))
    by q true e =
        let same : n ≡ q = (bytes_eq-Decides n q).0 e in
        rw e (subst (λ (x : Bytes). bytes_of (get_all (insert m n v) x) ≡ v.bytes ∷ []) same (ap bytes_of (get_all-insert_same m n v)))
    by q false e =
        rw e (ap bytes_of (get_all-insert_other m n q v (differ n q e)) ∙ sym (values-heads_of q m unique))

pub same-remove : (m : Fields) (n : Bytes) → IsUnique m → SameHeads (heads_of (remove m n)) (without_names (n ∷ []) (heads_of m))
same-remove m n unique = λ q.
    values-heads_of q (remove m n) (unique-remove m n unique)
    ∙ by q (bytes_eq q n) refl
    ∙ sym (values-without q (n ∷ []) (heads_of m))
  where
    by : (q : Bytes) (w : Bool) → bytes_eq q n ≡ w → bytes_of (get_all (remove m n) q) ≡ (if list_any (bytes_eq q) (n ∷ []) then [] else values q (heads_of m))
    by q true e =
        let same : n ≡ q = sym ((bytes_eq-Decides q n).0 e) in
        rw e (subst (λ (x : Bytes). bytes_of (get_all (remove m n) x) ≡ []) same (ap bytes_of (get_all-remove_same m n unique)))
    by q false e =
        rw e (ap bytes_of (get_all-remove_other m n q unique (differ n q (bytes_eq-swap n q ∙ e))) ∙ sym (values-heads_of q m unique))

-- ---- whether a name is there

first-filled : (vs : List FieldValue) → IsSome (slice_get vs 0) → is_filled (bytes_of vs) ≡ true
first-filled [] s = absurd (cc)
first-filled (v ∷ vs) s = refl

pub has-contained : (m : Fields) (n : Bytes) → IsHeaderMap m → ContainsKey m n → has_name n (heads_of m) ≡ true
has-contained m n valid there =
    has_name-values n (heads_of m) ∙ ap is_filled (values-heads_of n m valid.unique) ∙ first-filled (get_all m n) (IsSome-get m n valid there)

pub has-not_contained : (m : Fields) (n : Bytes) → IsHeaderMap m → ¬ (ContainsKey m n) → has_name n (heads_of m) ≡ false
has-not_contained m n valid absent =
    has_name-values n (heads_of m) ∙ ap is_filled (values-heads_of n m valid.unique) ∙ by (index_of m n) (index_of_cases m n)
  where
    by : (o : Option ℕ) → MatchOption o (IsAbsent m n) (IsAt m n) → is_filled (bytes_of (get_all m n)) ≡ false
    by None x = rw x.values
    by (Some i) x = absurd (absent x.contains)

-- ---- how many headers

pub count-heads_of : (m : Fields) → length (heads_of m) ≡ value_count m
count-heads_of m = length-map (pairs m) head_of ∙ length-pairs m

count-cons : (e : Entry FieldValue) (m : Fields) → value_count (e ∷ m) ≡ length e.1 + value_count m
count-cons e m = sum_by-cons (λ (x : Entry FieldValue). length x.1) e m

count-append : (m : Fields) (n : Bytes) (v : FieldValue) → value_count (append m n v) ≡ value_count m + 1
count-append [] n v = refl
count-append (e ∷ m) n v = by (bytes_eq e.0 n) refl (count-append m n v)
  where
    by : (w : Bool) → bytes_eq e.0 n ≡ w → value_count (append m n v) ≡ value_count m + 1 → value_count (append (e ∷ m) n v) ≡ value_count (e ∷ m) + 1
    by true t r =
        rw t (omega (arith, count-cons (e.0, e.1 ++ v ∷ []) m, count-cons e m, length_push e.1 v))
    by false t r = rw t (omega (arith, count-cons e (append m n v), count-cons e m, r))

count-insert : (m : Fields) (n : Bytes) (v : FieldValue) → value_count (insert m n v) ≤ value_count m + 1
count-insert [] n v = omega arith
count-insert (e ∷ m) n v = by (bytes_eq e.0 n) refl (count-insert m n v)
  where
    by : (w : Bool) → bytes_eq e.0 n ≡ w → value_count (insert m n v) ≤ value_count m + 1 → value_count (insert (e ∷ m) n v) ≤ value_count (e ∷ m) + 1
    by true t r = rw t (omega (arith, count-cons (e.0, v ∷ []) m, count-cons e m))
    by false t r = rw t (omega (arith, count-cons e (insert m n v), count-cons e m, r))

count-remove : (m : Fields) (n : Bytes) → value_count (remove m n) ≤ value_count m
count-remove m n = by (index_of m n) (index_of_cases m n)
  where
    by : (o : Option ℕ) → MatchOption o (IsAbsent m n) (IsAt m n) → value_count (remove_at m o) ≤ value_count m
    by None x = omega arith
    by (Some i) x = omega (arith, sum_by-swap_remove (λ (e : Entry FieldValue). length e.1) m i ([], []) x.within)

pub size-append : (m : Fields) (n : Bytes) (v : FieldValue) → length (heads_of (append m n v)) ≡ length (heads_of m) + 1
size-append m n v =
    count-heads_of (append m n v) ∙ count-append m n v ∙ ap (λ k. k + 1) (sym (count-heads_of m))

pub size-insert : (m : Fields) (n : Bytes) (v : FieldValue) → length (heads_of (insert m n v)) ≤ length (heads_of m) + 1
size-insert m n v = omega (arith, count-heads_of (insert m n v), count-insert m n v, count-heads_of m)

pub size-remove : (m : Fields) (n : Bytes) → length (heads_of (remove m n)) ≤ length (heads_of m)
size-remove m n = omega (arith, count-heads_of (remove m n), count-remove m n, count-heads_of m)

-- ---- what holds of every map

names-few : (m : Fields) → All IsFilled m → length m ≤ value_count m
names-few [] filled = omega arith
names-few (e ∷ m) filled =
    omega (arith, All-head IsFilled e m filled, names-few m (All-tail IsFilled e m filled), count-cons e m)

filled-update : (m : Fields) (n : Bytes) (f : List FieldValue → List FieldValue) → ((vs : List FieldValue) → 0 < length (f vs)) → All IsFilled m → All IsFilled (update m n f)
filled-update [] n f some filled = All-cons IsFilled (n, f []) [] (some []) filled
filled-update (e ∷ m) n f some filled =
    by (bytes_eq e.0 n) refl (filled-update m n f some (All-tail IsFilled e m filled))
  where
    by : (w : Bool) → bytes_eq e.0 n ≡ w → All IsFilled (update m n f) → All IsFilled (update (e ∷ m) n f)
    by true t r = rw t (All-cons IsFilled (e.0, f e.1) m (some e.1) (All-tail IsFilled e m filled))
    by false t r = rw t (All-cons IsFilled e (update m n f) (All-head IsFilled e m filled) r)

valid-update : (m : Fields) (n : Bytes) (f : List FieldValue → List FieldValue) → ((vs : List FieldValue) → 0 < length (f vs)) → IsHeaderMap m →
    value_count (update m n f) ≤ 24576 → IsHeaderMap (update m n f)
valid-update m n f some valid few =
    let filled = filled-update m n f some valid.filled in
    record {
      unique = unique-update m n f valid.unique;
      filled = filled;
      names_fit = omega (arith, names-few (update m n f) filled);
      values_fit = omega arith;
    }

pub valid-append : (m : Fields) (n : Bytes) (v : FieldValue) → IsHeaderMap m → length (heads_of m) < 24576 → IsHeaderMap (append m n v)
valid-append m n v valid few =
    valid-update m n (λ vs. vs ++ v ∷ []) (λ vs. omega (arith, length_push vs v)) valid (omega (arith, count-append m n v, count-heads_of m))

pub valid-insert : (m : Fields) (n : Bytes) (v : FieldValue) → IsHeaderMap m → length (heads_of m) < 24576 → IsHeaderMap (insert m n v)
valid-insert m n v valid few =
    valid-update m n (λ vs. v ∷ []) (λ vs. omega arith) valid (omega (arith, count-insert m n v, count-heads_of m))

pub valid-remove : (m : Fields) (n : Bytes) → IsHeaderMap m → IsHeaderMap (remove m n)
valid-remove m n valid = by (index_of m n) (index_of_cases m n) (count-remove m n)
  where
    kept : (i : ℕ) → i < length m → All IsFilled (swap_remove m i ([], []))
    kept i h = All-from_get_or IsFilled (swap_remove m i ([], [])) ([], []) (λ j l.
        let x = entry_at-swap_remove m i h j (omega (arith, length-swap_remove m i)) in
        subst IsFilled (sym x.3) (All-get_or IsFilled m x.0 ([], []) x.1 valid.filled))

    by : (o : Option ℕ) → MatchOption o (IsAbsent m n) (IsAt m n) → value_count (remove_at m o) ≤ value_count m → IsHeaderMap (remove_at m o)
    by None x less = valid
    by (Some i) x less = record {
      unique = IsUnique-swap_remove m i x.within valid.unique;
      filled = kept i x.within;
      names_fit = let fit = valid.names_fit in omega (arith, length-swap_remove m i);
      values_fit = let fit = valid.values_fit in omega arith;
    }

-- ---- there is room

pub takes-insert : (m : Fields) (n : Bytes) → IsHeaderMap m → length (heads_of m) < 24576 → ¬ (RefusesInsert m n)
takes-insert m n valid few (absent, full) =
    let least = names-few m valid.filled in
    let all = count-heads_of m in
    elim full [ inl names ↦ omega arith | inr entries ↦ omega arith ]

pub takes-append : (m : Fields) (n : Bytes) → IsHeaderMap m → length (heads_of m) < 24576 → ¬ (RefusesAppend m n)
takes-append m n valid few (inl entries) = let all = count-heads_of m in omega arith
takes-append m n valid few (inr refused) = takes-insert m n valid few refused
