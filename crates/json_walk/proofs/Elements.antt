-- Reading the items of a list, as a loop does.
use Rattle.std.proofs.Common.{◌≡◌, ℕ, zero, suc, ◌+◌, ◌<◌, ◌≤◌, List, [], ◌∷◌, ◌++◌, length, get_or, drop, Ok, Err, refl, sym, ap, ◌∙◌, append_assoc, arith}
use Rattle.std.proofs.lemmas.List.{append-nil}
use Rattle.serde_json.specs.Data.{no_items, item}
use Rattle.serde_json.specs.View.{view, items_view}
use Rattle.serde_json.specs.declared.value.Value.{Value}
use Rattle.json_walk.specs.declared.refusal.ReadFail.{ReadFail}
use Rattle.json_walk.specs.declared.refusal.ReadFail.TheVariants.{Refused, OutOfMemory}
use Rattle.json_walk.specs.Outcome.{Outcome, ◌>>=◌, Fails}
use Rattle.json_walk.specs.Fields.{Reading}
use Rattle.json_walk.specs.Places.{at_index}
use Rattle.json_walk.specs.Leaves.{items_len, items}

pub items_len_is : (vs : List Value) → items_len (items_view vs) ≡ length vs
items_len_is [] = refl
items_len_is (v ∷ vs) = ap suc (items_len_is vs)

-- what was read before, and what is still read
abbrev pub with_front : {A : Type 0} → List A → Outcome (List A) → Outcome (List A)
with_front front read = read >>= λ xs. Ok (front ++ xs)

with_front-more : {A : Type 0} (front : List A) (x : A) (o : Outcome (List A)) → with_front front (o >>= λ xs. Ok (x ∷ xs)) ≡ with_front (front ++ x ∷ []) o
with_front-more front x (Ok xs) = ap Ok (simp append_assoc)
with_front-more front x (Err r) = refl

drop_view-suc : (vs : List Value) (i : ℕ) (d : Value) → i < length vs → items_view (drop i vs) ≡ item (view (get_or vs i d)) (items_view (drop (suc i) vs))
drop_view-suc [] i d h = absurd (omega arith)
drop_view-suc (v ∷ vs) zero d h = refl
drop_view-suc (v ∷ vs) (suc i) d h = drop_view-suc vs i d (omega arith)

drop_view : (vs : List Value) (i : ℕ) (d : Value) → i < length vs → items_view (drop i vs) ≡ item (view (get_or vs i d)) (items_view (drop (i + 1) vs))
drop_view vs i d h = let e : i + 1 ≡ suc i = omega arith in rw e (drop_view-suc vs i d h)

next_item : {A : Type 0} (p : List ℕ) (read : Reading A) (vs : List Value) (i : ℕ) (v : Value) (at : List ℕ) → i < length vs → v ≡ get_or vs i v → at ≡ at_index p i
    → items p read i (items_view (drop i vs)) ≡ read at (view v) >>= λ x. items p read (i + 1) (items_view (drop (i + 1) vs)) >>= λ xs. Ok (x ∷ xs)
unfolding items
next_item p read vs i v at h e f = rw (drop_view vs i v h) (ap (λ o. o >>= λ x. items p read (i + 1) (items_view (drop (i + 1) vs)) >>= λ xs. Ok (x ∷ xs)) (cc))

pub reads_on : {A : Type 0} (p : List ℕ) (read : Reading A) (vs : List Value) (i : ℕ) (v : Value) (at : List ℕ) (front new : List A) (x : A) (all : Outcome (List A)) → i < length vs
    → v ≡ get_or vs i v → at ≡ at_index p i → read at (view v) ≡ Ok x → new ≡ front ++ x ∷ [] → with_front front (items p read i (items_view (drop i vs))) ≡ all
    → with_front new (items p read (i + 1) (items_view (drop (i + 1) vs))) ≡ all
reads_on p read vs i v at front new x all h e f g n so_far =
    rw n (sym (with_front-more front x (items p read (i + 1) (items_view (drop (i + 1) vs)))) ∙ sym (rw (next_item p read vs i v at h e f, g) refl) ∙ so_far)

pub ends_at : {A : Type 0} (p : List ℕ) (read : Reading A) (vs : List Value) (i : ℕ) (v : Value) (at : List ℕ) (front : List A) (all : Outcome (List A)) (f : ReadFail) → i < length vs
    → v ≡ get_or vs i v → at ≡ at_index p i → Fails f (read at (view v)) → with_front front (items p read i (items_view (drop i vs))) ≡ all → Fails f all
ends_at p read vs i v at front all OutOfMemory h e k g so_far = tt
ends_at p read vs i v at front all (Refused r) h e k g so_far =
    let one : with_front front (items p read i (items_view (drop i vs))) ≡ Err r = rw (next_item p read vs i v at h e k, g) refl in sym so_far ∙ one

drop_all : (vs : List Value) (i : ℕ) → length vs ≤ i → items_view (drop i vs) ≡ no_items
drop_all [] zero h = refl
drop_all [] (suc i) h = refl
drop_all (v ∷ vs) zero h = absurd (omega arith)
drop_all (v ∷ vs) (suc i) h = drop_all vs i (omega arith)

pub is_read : {A : Type 0} (p : List ℕ) (read : Reading A) (vs : List Value) (i : ℕ) (front : List A) (all : Outcome (List A)) → length vs ≤ i → with_front front (items p read i (items_view (drop i vs))) ≡ all → all ≡ Ok front
unfolding items
is_read p read vs i front all h so_far =
    let g : with_front front (items p read i (items_view (drop i vs))) ≡ Ok front = rw (drop_all vs i h) (ap Ok (append-nil front)) in sym so_far ∙ g
