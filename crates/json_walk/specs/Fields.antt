-- Step 3 of a message: a field that is absent or read whole; and the rules on groups, the first of step 4.
use Rattle.std.specs.Prelude.{ℕ, List, [], ◌∷◌, Bool, false, ◌&&◌, ◌||◌, if◌then◌else◌, Option, Some, None, Ok, is_some, option_and_then, ⊤}
use Rattle.serde_json.specs.Data.{Data}
use Rattle.serde_json.specs.Find.{get}
use Rattle.json_walk.specs.declared.refusal.Kind.TheVariants.{Missing, Conflict}
use Rattle.json_walk.specs.Outcome.{Outcome, offence, ◌>>=◌}
use Rattle.json_walk.specs.Places.{under}
use Rattle.json_tables.specs.Spellings.{with_camel}
use Rattle.json_walk.specs.Members.{spelled}

-- What reads a value at its place.
abbrev pub Reading : Type 0 → Type 0
Reading A = List ℕ → Data → Outcome A

-- the value of the field n, where it is there and not null
unfoldable pub field : List ℕ → Data → Option Data
field n d = option_and_then (λ k. get k d) (spelled d (with_camel n))

abbrev may_be : {A : Type 0} → List ℕ → Reading A → Option Data → Outcome (Option A)
may_be at read None = Ok None
may_be at read (Some e) = read at e >>= λ x. Ok (Some x)

-- the field n of the object d at p
unfoldable pub optional : {A : Type 0} → List ℕ → Data → List ℕ → Reading A → Outcome (Option A)
optional p d n read = may_be (under p n) read (field n d)

abbrev must_be : {A : Type 0} → List ℕ → Reading A → Option Data → Outcome A
must_be at read None = offence at Missing
must_be at read (Some e) = read at e

-- the same where it is marked `!`
unfoldable pub required : {A : Type 0} → List ℕ → Data → List ℕ → Reading A → Outcome A
required p d n read = must_be (under p n) read (field n d)

-- Of a group's fields, a second one that is there is a Conflict at the later.
unfoldable pub alone_after : Bool → List ℕ → Data → List (List ℕ) → Outcome ⊤
alone_after met p d [] = Ok tt
alone_after met p d (n ∷ ns) = if is_some (field n d) && met then offence (under p n) Conflict else alone_after (met || is_some (field n d)) p d ns

abbrev pub alone : List ℕ → Data → List (List ℕ) → Outcome ⊤
alone = alone_after false

-- a group marked `!`
abbrev pub must : {A : Type 0} → List ℕ → Option A → Outcome A
must p None = offence p Missing
must p (Some x) = Ok x
