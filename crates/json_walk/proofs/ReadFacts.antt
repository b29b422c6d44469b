-- What holds of all that is read: a fact of each step makes one of the whole.
use Rattle.std.proofs.Common.{◌≡◌, ◌≤◌, ◌+◌, ℕ, suc, Bool, true, false, if◌then◌else◌, List, ◌∷◌, length, Option, Some, None, Ok, Err, refl, ap, subst, arith}
use Rattle.std.specs.Prelude.{All, IfOk, IfSome, unwrap_or, nat_le}
use Rattle.std.proofs.lemmas.Bool.Decides.{nat_tests}
use Rattle.std.proofs.lemmas.List.Elements.{All-nil, All-cons}
use Rattle.serde_json.specs.Data.{Data, Items, no_items, item}
use Rattle.serde_json.specs.Find.{as_array}
use Rattle.json_walk.specs.declared.refusal.Kind.{Kind}
use Rattle.json_walk.specs.declared.refusal.Kind.TheVariants.{Missing, TooMany, WrongKind}
use Rattle.json_walk.specs.Outcome.{Outcome, offence, or_offence, ◌>>=◌}
use Rattle.json_walk.specs.Places.{under, at_index}
use Rattle.json_walk.specs.Fields.{Reading, field, optional, required}
use Rattle.json_walk.specs.Leaves.{list, items, items_len, list_of}

-- ---- steps

pub after : {A B : Type 0} (o : Outcome A) (f : A → Outcome B) (P : A → Type 0) (Q : B → Type 0) → IfOk o P → ((x : A) → P x → IfOk (f x) Q) → IfOk (o >>= f) Q
after (Ok x) f P Q h next = next x h
after (Err r) f P Q h next = tt

pub whatever : {A B : Type 0} (o : Outcome A) (f : A → Outcome B) (Q : B → Type 0) → ((x : A) → IfOk (f x) Q) → IfOk (o >>= f) Q
whatever (Ok x) f Q next = next x
whatever (Err r) f Q next = tt

pub weaker : {A : Type 0} (o : Outcome A) (P Q : A → Type 0) → IfOk o P → ((x : A) → P x → Q x) → IfOk o Q
weaker (Ok x) P Q h w = w x h
weaker (Err r) P Q h w = tt

pub where_true : {A : Type 0} (b : Bool) (x : A) (p : List ℕ) (k : Kind) (Q : A → Type 0) → (b ≡ true → Q x) → IfOk (if b then Ok x else offence p k) Q
where_true true x p k Q h = h refl
where_true false x p k Q h = tt

pub where_false : {A : Type 0} (b : Bool) (o : Outcome A) (p : List ℕ) (k : Kind) (Q : A → Type 0) → (b ≡ false → IfOk o Q) → IfOk (if b then offence p k else o) Q
where_false true o p k Q h = tt
where_false false o p k Q h = h refl

pub of_outcome : {A : Type 0} (o : Outcome A) (x : A) (P : A → Type 0) → o ≡ Ok x → IfOk o P → P x
of_outcome o x P e h = subst (λ u. IfOk u P) e h

-- ---- fields

-- what a reading makes of a value has the property
abbrev pub Reads : {A : Type 0} → (A → Type 0) → Reading A → Type 0
Reads Q read = (p : List ℕ) (d : Data) → IfOk (read p d) Q

abbrev must_be : {A : Type 0} → List ℕ → Reading A → Option Data → Outcome A
must_be at read None = offence at Missing
must_be at read (Some e) = read at e

there : {A : Type 0} (at : List ℕ) (read : Reading A) (o : Option Data) (Q : A → Type 0) → Reads Q read → IfOk (must_be at read o) Q
there at read None Q h = tt
there at read (Some e) Q h = h at e

pub of_required : {A : Type 0} (p : List ℕ) (d : Data) (n : List ℕ) (read : Reading A) (Q : A → Type 0) → Reads Q read → IfOk (required p d n read) Q
unfolding required
of_required p d n read Q h = there (under p n) read (field n d) Q h

abbrev may_be : {A : Type 0} → List ℕ → Reading A → Option Data → Outcome (Option A)
may_be at read None = Ok None
may_be at read (Some e) = read at e >>= λ x. Ok (Some x)

or_default : {A : Type 0} (at : List ℕ) (read : Reading A) (o : Option Data) (x : A) (Q : A → Type 0) → Q x → Reads Q read → IfOk (may_be at read o) (λ v. Q (unwrap_or v x))
or_default at read None x Q q h = q
or_default at read (Some e) x Q q h = after (read at e) (λ y. Ok (Some y)) Q (λ v. Q (unwrap_or v x)) (h at e) (λ y z. z)

pub of_optional : {A : Type 0} (p : List ℕ) (d : Data) (n : List ℕ) (read : Reading A) (x : A) (Q : A → Type 0) → Q x → Reads Q read → IfOk (optional p d n read) (λ v. Q (unwrap_or v x))
unfolding optional
of_optional p d n read x Q q h = or_default (under p n) read (field n d) x Q q h

if_there : {A : Type 0} (at : List ℕ) (read : Reading A) (o : Option Data) (Q : A → Type 0) → Reads Q read → IfOk (may_be at read o) (λ v. IfSome v Q)
if_there at read None Q h = tt
if_there at read (Some e) Q h = after (read at e) (λ y. Ok (Some y)) Q (λ v. IfSome v Q) (h at e) (λ y q. q)

pub of_maybe : {A : Type 0} (p : List ℕ) (d : Data) (n : List ℕ) (read : Reading A) (Q : A → Type 0) → Reads Q read → IfOk (optional p d n read) (λ v. IfSome v Q)
unfolding optional
of_maybe p d n read Q h = if_there (under p n) read (field n d) Q h

-- ---- lists

-- each element has the property, and there are so many
abbrev pub AllOf : {A : Type 0} → (A → Type 0) → ℕ → List A → Type 0
AllOf Q n xs = All Q xs × (length xs ≡ n)

of_items : {A : Type 0} (p : List ℕ) (read : Reading A) (Q : A → Type 0) → Reads Q read → (i : ℕ) (ds : Items) → IfOk (items p read i ds) (AllOf Q (items_len ds))
unfolding items
of_items p read Q h i no_items = (All-nil Q, refl)
of_items p read Q h i (item d ds) =
    after (read (at_index p i) d) (λ x. items p read (i + 1) ds >>= λ xs. Ok (x ∷ xs)) Q (AllOf Q (suc (items_len ds))) (h (at_index p i) d) (λ x q.
    after (items p read (i + 1) ds) (λ xs. Ok (x ∷ xs)) (AllOf Q (items_len ds)) (AllOf Q (suc (items_len ds))) (of_items p read Q h (i + 1) ds) (λ xs all. (All-cons Q x xs q all.0, ap suc all.1)))

pub of_list : {A : Type 0} (most : Option ℕ) (read : Reading A) (Q : A → Type 0) → Reads Q read → Reads (All Q) (list_of most read)
unfolding list_of
of_list most read Q h p d =
    whatever (list most p d) (λ ds. items p read 0 ds) (All Q) (λ ds. weaker (items p read 0 ds) (AllOf Q (items_len ds)) (All Q) (of_items p read Q h 0 ds) (λ xs all. all.0))

few_items : (p : List ℕ) (n : ℕ) (ds : Items) → IfOk (if nat_le (items_len ds) n then Ok ds else offence p TooMany) (λ es. items_len es ≤ n)
few_items p n ds = where_true (nat_le (items_len ds) n) ds p TooMany (λ es. items_len es ≤ n) (λ e. grind (arith, nat_tests))

few_listed : (p : List ℕ) (n : ℕ) (o : Option Items) → IfOk (or_offence p WrongKind o >>= λ ds. if nat_le (items_len ds) n then Ok ds else offence p TooMany) (λ ds. items_len ds ≤ n)
few_listed p n None = tt
few_listed p n (Some ds) = few_items p n ds

-- a list has no more elements than its limit
pub of_short_list : {A : Type 0} (n : ℕ) (read : Reading A) (Q : A → Type 0) → Reads Q read → Reads (λ xs. All Q xs × (length xs ≤ n)) (list_of (Some n) read)
unfolding list_of list
of_short_list n read Q h p d =
    after (list (Some n) p d) (λ ds. items p read 0 ds) (λ ds. items_len ds ≤ n) (λ xs. All Q xs × (length xs ≤ n)) (few_listed p n (as_array d)) (λ ds few.
    weaker (items p read 0 ds) (AllOf Q (items_len ds)) (λ xs. All Q xs × (length xs ≤ n)) (of_items p read Q h 0 ds) (λ xs all. (all.0, rw (all.1) few)))
