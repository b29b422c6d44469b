-- Steps of a search, over tables.
use Rattle.std.specs.Prelude.{◌≡◌, ℕ, ◌<◌, ◌≤◌, Bool, List, [], ◌∷◌, ◌++◌, length, Option, Some}
use Rattle.rx_term.specs.declared.terms.Term.{Term}
use Rattle.rx_term.specs.Closing.{IsPrintable}
use Rattle.rx_joint.specs.Claims.{MeetsTables, LeadsBack, AreListed, word_at}
use Rattle.field_seek.specs.declared.seen.Seen.{Seen}
use Rattle.field_seek.specs.declared.seen.Seen.TheVariants.{Found, Empty, Capped}
use Rattle.field_seek.specs.declared.step.Step.{Step}
use Rattle.field_seek.specs.declared.step.Step.TheVariants.{Met, Full, Done}

-- further entries and states stand after the old ones
pub record Grows (es : List (ℕ × ℕ)) (states : List (List ℕ)) (es' : List (ℕ × ℕ)) (states' : List (List ℕ)) : Type 0 where
  pub more : List (ℕ × ℕ)
  pub entries : es' ≡ es ++ more
  pub fresh : List (List ℕ)
  pub listed : states' ≡ states ++ fresh

-- the cap allows the words
abbrev pub IsRoomy : Option ℕ → List (List ℕ) → Type 0
IsRoomy cap states = (c : ℕ) → cap ≡ Some c → length states ≤ c

-- the word with the byte meets the literals, or there is one word more than the cap allows, or the cap allows the
-- words
abbrev pub IsStep : List (List Term) → List Bool → Option ℕ → ℕ → List (ℕ × ℕ) → List (List ℕ) → Step → Type 0
IsStep tables holds cap word es states (Met b) = IsPrintable b × MeetsTables tables holds (word_at es word ++ b ∷ [])
IsStep tables holds cap word es states Full = cap ≡ Some (length es)
IsStep tables holds cap word es states Done = IsRoomy cap states

-- a fact that holds where the step is done
abbrev pub IfDone : Step → Type 0 → Type 0
IfDone (Met b) P = Unit {0}
IfDone Full P = Unit {0}
IfDone Done P = P

-- what the search answers, over the tables
abbrev pub IsSought : List (List Term) → List Bool → List ℕ → Option ℕ → Seen → Type 0
IsSought tables holds bytes cap (Found text) = MeetsTables tables holds text.items
IsSought tables holds bytes cap (Empty words) = (states : List (List ℕ)) × AreListed tables holds words.list states ×
    ((k : ℕ) → k < length states → LeadsBack tables bytes states k) × IsRoomy cap states
IsSought tables holds bytes cap (Capped words) = (states : List (List ℕ)) × AreListed tables holds words.list states × (cap ≡ Some (length words.list))
