-- Lists and objects written element by element, as loops and calls in order do.
use Rattle.std.proofs.Common.{◌≡◌, ℕ, zero, suc, ◌+◌, ◌<◌, ◌≤◌, Bool, true, false, cond, List, [], ◌∷◌, ◌++◌, length, get_or, drop, take, map, Result, Ok, Err, refl, sym, ap, subst, ◌∙◌, append_assoc, arith}
use Rattle.std.specs.Prelude.{All, OnOk, is_ok}
use Rattle.std.proofs.lemmas.List.{take_more, take_all}
use Rattle.std.proofs.lemmas.List.Elements.{All-nil, All-cons, All-append}
use Rattle.json.specs.Print.{quoted}
use Rattle.serde_json.specs.Data.{Data, object, no_items, item, Members, no_members, member}
use Rattle.serde_json.specs.View.{items_of, items_view}
use Rattle.serde_json.specs.Written.{comma_if, compact_text, items_text, members_text}
use Rattle.serde_json.specs.declared.value.Value.{Value}
use Rattle.json_walk.specs.declared.refusal.Kind.TheVariants.{WrongKind}
use Rattle.json_walk.specs.Outcome.{offence}
use Rattle.cert_rows.specs.Leaves.{none_of}

rest-suc : {A : Type 0} (f : A → Data) (xs : List A) (i : ℕ) (d : A) → i < length xs → items_of (map f (drop i xs)) ≡ item (f (get_or xs i d)) (items_of (map f (drop (suc i) xs)))
rest-suc f [] i d h = absurd (omega arith)
rest-suc f (x ∷ xs) zero d h = refl
rest-suc f (x ∷ xs) (suc i) d h = rest-suc f xs i d (omega arith)

-- the elements from number i on begin with that one
pub rest_from : {A : Type 0} (f : A → Data) (xs : List A) (i : ℕ) (x : A) → i < length xs → x ≡ get_or xs i x → items_of (map f (drop i xs)) ≡ item (f x) (items_of (map f (drop (i + 1) xs)))
rest_from f xs i x h is =
    let e : i + 1 ≡ suc i = omega arith in
    rw e (rest-suc f xs i x h ∙ ap (λ y. item (f y) (items_of (map f (drop (suc i) xs)))) (sym is))

pub none_from : {A : Type 0} (f : A → Data) (xs : List A) (i : ℕ) → length xs ≤ i → items_of (map f (drop i xs)) ≡ no_items
none_from f [] zero h = refl
none_from f [] (suc i) h = refl
none_from f (x ∷ xs) zero h = absurd (omega arith)
none_from f (x ∷ xs) (suc i) h = none_from f xs i (omega arith)

regroup : (out c t rest : List ℕ) → ((out ++ c) ++ t) ++ rest ≡ out ++ (c ++ (t ++ rest))
regroup out c t rest = simp append_assoc

-- one more element is written
pub one_more_written : {A : Type 0} (f : A → Data) (xs : List A) (i : ℕ) (x : A) (later : Bool) (out mid new whole : List ℕ) → i < length xs → x ≡ get_or xs i x
    → mid ≡ out ++ comma_if later → new ≡ mid ++ compact_text (f x)
    → out ++ items_text later (items_of (map f (drop i xs))) ≡ whole → new ++ items_text true (items_of (map f (drop (i + 1) xs))) ≡ whole
one_more_written f xs i x later out mid new whole h is m n so_far =
    rw (n, m) (regroup out (comma_if later) (compact_text (f x)) (items_text true (items_of (map f (drop (i + 1) xs))))
    ∙ sym (ap (λ ds. out ++ items_text later ds) (rest_from f xs i x h is)) ∙ so_far)

-- all are written, and the bracket is left
pub all_written : {A : Type 0} (f : A → Data) (xs : List A) (i : ℕ) (later : Bool) (out new whole : List ℕ) → length xs ≤ i → new ≡ out ++ 93 ∷ []
    → out ++ items_text later (items_of (map f (drop i xs))) ≡ whole → new ≡ whole
all_written f xs i later out new whole h n so_far = n ∙ sym (ap (λ ds. out ++ items_text later ds) (none_from f xs i h)) ∙ so_far

-- an element where none may be is refused
pub some_more : (p : List ℕ) (vs : List Value) → 1 ≤ length vs → none_of p (items_view vs) ≡ offence p WrongKind
some_more p [] h = absurd (omega arith)
some_more p (v ∷ vs) h = refl

-- ---- what holds of each element up to here

pub one_more_holds : {A : Type 0} (P : A → Type 0) (xs : List A) (i : ℕ) (x : A) → i < length xs → x ≡ get_or xs i x → All P (take i xs) → P x → All P (take (i + 1) xs)
one_more_holds P xs i x h is so_far next =
    rw (take_more xs i x h) (All-append P (take i xs) (get_or xs i x ∷ []) so_far (All-cons P (get_or xs i x) [] (subst P is next) (All-nil P)))

pub all_hold : {A : Type 0} (P : A → Type 0) (xs : List A) (i : ℕ) → length xs ≤ i → All P (take i xs) → All P xs
all_hold P xs i h so_far = subst (All P) (take_all i xs h) so_far

-- ---- members in order

pub object_opened : (ms : Members) (out new : List ℕ) → new ≡ out ++ 123 ∷ [] → new ++ members_text false ms ≡ out ++ compact_text (object ms)
object_opened ms out new n = rw n (append_assoc out (123 ∷ []) (members_text false ms))

regroup_member : (mid c q t rest : List ℕ) → (mid ++ (c ++ (q ++ 58 ∷ t))) ++ rest ≡ mid ++ (c ++ (q ++ 58 ∷ (t ++ rest)))
regroup_member mid c q t rest = simp append_assoc

pub member_written : (k : List ℕ) (d : Data) (ms : Members) (later : Bool) (mid new whole : List ℕ) → new ≡ mid ++ (comma_if later ++ (quoted k ++ 58 ∷ compact_text d))
    → mid ++ members_text later (member k d ms) ≡ whole → new ++ members_text true ms ≡ whole
member_written k d ms later mid new whole n so_far = rw n (regroup_member mid (comma_if later) (quoted k) (compact_text d) (members_text true ms) ∙ so_far)

regroup_name : (mid c q t : List ℕ) → (mid ++ (c ++ (q ++ 58 ∷ []))) ++ t ≡ mid ++ (c ++ (q ++ 58 ∷ t))
regroup_name mid c q t = simp append_assoc

-- the same where the name is written first
pub named_member_written : (k : List ℕ) (d : Data) (ms : Members) (later : Bool) (mid half new whole : List ℕ) → half ≡ mid ++ (comma_if later ++ (quoted k ++ 58 ∷ [])) → new ≡ half ++ compact_text d
    → mid ++ members_text later (member k d ms) ≡ whole → new ++ members_text true ms ≡ whole
named_member_written k d ms later mid half new whole h n so_far = member_written k d ms later mid new whole (n ∙ ap (λ s. s ++ compact_text d) h ∙ regroup_name mid (comma_if later) (quoted k) (compact_text d)) so_far

pub object_closed : {T E : Type 0} (r : Result T E) (mid new whole : List ℕ) → new ≡ cond (is_ok r) (mid ++ 125 ∷ []) mid → mid ++ members_text true no_members ≡ whole → OnOk r (new ≡ whole)
object_closed (Ok x) mid new whole n so_far = n ∙ so_far
object_closed (Err x) mid new whole n so_far = tt

pub on_ok : {T E : Type 0} (r : Result T E) (P : Type 0) → P → OnOk r P
on_ok (Ok x) P h = h
on_ok (Err x) P h = tt

pub is_at : {A : Type 0} (xs : List A) (i : ℕ) (d : A) → i < length xs → get_or xs i d ≡ get_or xs i (get_or xs i d)
is_at [] i d h = absurd (omega arith)
is_at (x ∷ xs) zero d h = refl
is_at (x ∷ xs) (suc i) d h = is_at xs i d (omega arith)
