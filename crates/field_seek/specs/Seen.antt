-- What a search answers.
use Rattle.std.specs.Prelude.{◌≡◌, ℕ, ◌+◌, ◌≤◌, List, length, Option, Some}
use Rattle.rx_term.specs.declared.terms.Term.{Term}
use Rattle.rx_term.specs.Closing.{IsWithin, Claim, Meets, AreApart, Closes}
use Rattle.field_seek.specs.declared.seen.Seen.{Seen}
use Rattle.field_seek.specs.declared.seen.Seen.TheVariants.{Found, Empty, Capped}

-- the words close, and with a cap there are at most so many, the empty one counted; where the byte sets of the valid
-- term lie within the alphabet, no text meets the literals
pub record IsEmpty (valid : Term) (claims : List Claim) (cap : Option ℕ) (es : List (ℕ × ℕ)) : Type 0 where
  pub closes : Closes valid claims es
  pub none : IsWithin valid → (w : List ℕ) → Meets valid claims w → ⊥
  pub roomy : (c : ℕ) → cap ≡ Some c → length es + 1 ≤ c

-- the cap is the number of entries, so that with the empty word there is one word more than it allows; the words have
-- pairwise different states, and none is a valid text that meets the literals
pub record IsCapped (valid : Term) (claims : List Claim) (cap : Option ℕ) (es : List (ℕ × ℕ)) : Type 0 where
  pub full : cap ≡ Some (length es)
  pub listed : AreApart valid claims es

-- a valid text that meets the literals, or words that close, or one word more than the cap
abbrev pub IsSeen : Term → List Claim → Option ℕ → Seen → Type 0
IsSeen valid claims cap (Found text) = Meets valid claims text.items
IsSeen valid claims cap (Empty words) = IsEmpty valid claims cap words.list
IsSeen valid claims cap (Capped words) = IsCapped valid claims cap words.list
