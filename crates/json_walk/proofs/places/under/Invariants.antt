use Rattle.std.proofs.Common.{◌≡◌, List, ℕ, ◌∷◌, ◌++◌, string_bytes}
use Rattle.json_walk.specs.Places.{escape}
use Rattle.json_walk.proofs.places.under.Given as goal

abbrev pub invariant-loop-c : goal.invariant-loop-c
invariant-loop-c l = (done : List ℕ) × (l.name ≡ done ++ l.c-iterator.rest.now) × (string_bytes l.text ≡ l.place ++ 47 ∷ escape done)
