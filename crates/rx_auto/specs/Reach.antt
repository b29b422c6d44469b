-- Positions that are reached by marked lists.
use Rattle.std.specs.Prelude.{◌≡◌, ℕ, ◌<◌, Bool, true, ◌⊎◌, List}
use Rattle.rx_term.specs.Language.{Has}
use Rattle.rx_auto.specs.declared.parts.Spot.{Spot}
use Rattle.rx_auto.specs.Parts.{spot_at}
use Rattle.rx_auto.specs.Ways.{list_at}
use Rattle.rx_auto.specs.Marks.{mark_at}

-- q is marked, or one of the marked lists below n has it
abbrev pub IsReached : List (List ℕ) → List Bool → List Bool → ℕ → ℕ → Type 0
IsReached ws row nodes n q = (mark_at row q ≡ true) ⊎ ((k : ℕ) × (k < n) × (mark_at nodes k ≡ true) × Has (list_at ws k) q)

-- the list of what may come after one of the places has the number j
abbrev pub EntersFrom : List Spot → List ℕ → ℕ → Type 0
EntersFrom spots places j = (p : ℕ) × Has places p × ((spot_at spots p).next ≡ j)
