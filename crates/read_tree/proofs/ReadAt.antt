-- What holds of all that is read, where it speaks of the place: a fact of each step makes one of the whole.
use Rattle.std.proofs.Common.{ℕ, ◌+◌, List, [], ◌∷◌, Option, Some, None, Ok}
use Rattle.std.specs.Prelude.{IfOk, IfSome}
use Rattle.serde_json.specs.Data.{Data, Items, no_items, item}
use Rattle.json_walk.specs.declared.refusal.Kind.TheVariants.{Missing}
use Rattle.json_walk.specs.Outcome.{Outcome, offence, ◌>>=◌}
use Rattle.json_walk.specs.Places.{under, at_index}
use Rattle.json_walk.specs.Fields.{Reading, field, optional, required}
use Rattle.json_walk.specs.Leaves.{list, items, list_of}
use Rattle.json_walk.proofs.ReadFacts.{after, whatever}

-- what a reading makes of a value has the property of the place
abbrev pub ReadsAt : {A : Type 0} → (List ℕ → A → Type 0) → Reading A → Type 0
ReadsAt Q read = (p : List ℕ) (d : Data) → IfOk (read p d) (Q p)

-- ---- fields

abbrev must_be : {A : Type 0} → List ℕ → Reading A → Option Data → Outcome A
must_be at read None = offence at Missing
must_be at read (Some e) = read at e

there : {A : Type 0} (at : List ℕ) (read : Reading A) (o : Option Data) (Q : List ℕ → A → Type 0) → ReadsAt Q read → IfOk (must_be at read o) (Q at)
there at read None Q h = tt
there at read (Some e) Q h = h at e

pub of_required_at : {A : Type 0} (p : List ℕ) (d : Data) (n : List ℕ) (read : Reading A) (Q : List ℕ → A → Type 0) → ReadsAt Q read → IfOk (required p d n read) (Q (under p n))
unfolding required
of_required_at p d n read Q h = there (under p n) read (field n d) Q h

abbrev may_be : {A : Type 0} → List ℕ → Reading A → Option Data → Outcome (Option A)
may_be at read None = Ok None
may_be at read (Some e) = read at e >>= λ x. Ok (Some x)

if_there : {A : Type 0} (at : List ℕ) (read : Reading A) (o : Option Data) (Q : List ℕ → A → Type 0) → ReadsAt Q read → IfOk (may_be at read o) (λ v. IfSome v (Q at))
if_there at read None Q h = tt
if_there at read (Some e) Q h = after (read at e) (λ y. Ok (Some y)) (Q at) (λ v. IfSome v (Q at)) (h at e) (λ y q. q)

pub of_maybe_at : {A : Type 0} (p : List ℕ) (d : Data) (n : List ℕ) (read : Reading A) (Q : List ℕ → A → Type 0) → ReadsAt Q read → IfOk (optional p d n read) (λ v. IfSome v (Q (under p n)))
unfolding optional
of_maybe_at p d n read Q h = if_there (under p n) read (field n d) Q h

-- ---- lists

-- each element has the property of its place, the first one that of the index i
abbrev pub EachAt : {A : Type 0} → (List ℕ → A → Type 0) → List ℕ → ℕ → List A → Type 0
EachAt Q p i [] = Unit {0}
EachAt Q p i (x ∷ xs) = Q (at_index p i) x × EachAt Q p (i + 1) xs

of_items_at : {A : Type 0} (p : List ℕ) (read : Reading A) (Q : List ℕ → A → Type 0) → ReadsAt Q read → (i : ℕ) (ds : Items) → IfOk (items p read i ds) (EachAt Q p i)
unfolding items
of_items_at p read Q h i no_items = tt
of_items_at p read Q h i (item d ds) =
    after (read (at_index p i) d) _ (Q (at_index p i)) (EachAt Q p i) (h (at_index p i) d) (λ x q.
    after (items p read (i + 1) ds) _ (EachAt Q p (i + 1)) (EachAt Q p i) (of_items_at p read Q h (i + 1) ds) (λ xs all. (q, all)))

pub of_list_at : {A : Type 0} (most : Option ℕ) (read : Reading A) (Q : List ℕ → A → Type 0) → ReadsAt Q read → ReadsAt (λ p. EachAt Q p 0) (list_of most read)
unfolding list_of
of_list_at most read Q h p d = whatever (list most p d) _ (EachAt Q p 0) (λ ds. of_items_at p read Q h 0 ds)
