-- A value that stands, or the first offence; and how an answer of the code agrees with it.
use Rattle.std.specs.Prelude.{◌≡◌, ℕ, List, Option, Some, None, Result, Ok, Err}
use Rattle.json_walk.specs.declared.refusal.Kind.{Kind}
use Rattle.json_walk.specs.declared.refusal.Refusal.{Refusal}
use Rattle.json_walk.specs.declared.refusal.ReadFail.{ReadFail}
use Rattle.json_walk.specs.declared.refusal.ReadFail.TheVariants.{Refused, OutOfMemory}

-- what bytes or JSON stand for, or their first offence
abbrev pub Outcome : Type 0 → Type 0
Outcome A = Result A Refusal

infixl 10 ◌>>=◌
abbrev pub ◌>>=◌ : {A B : Type 0} → Outcome A → (A → Outcome B) → Outcome B
(Ok x) >>= f = f x
(Err r) >>= f = Err r

abbrev pub offence : {A : Type 0} → List ℕ → Kind → Outcome A
offence place kind = Err (record { place = place; kind = kind })

-- the value, if there is one, else an offence
abbrev pub or_offence : {A : Type 0} → List ℕ → Kind → Option A → Outcome A
or_offence place kind None = offence place kind
or_offence place kind (Some x) = Ok x

-- why the code failed: want of memory is free, a refusal is the outcome's
abbrev pub Fails : {B : Type 0} → ReadFail → Outcome B → Type 0
Fails OutOfMemory o = Unit {0}
Fails (Refused r) o = o ≡ Err r

-- the code's answer, seen by view, is the outcome
abbrev pub Gives : {A B : Type 0} → (A → B) → Result A ReadFail → Outcome B → Type 0
Gives view (Ok x) o = o ≡ Ok (view x)
Gives view (Err e) o = Fails e o
