-- A closed list of words, which shows that no text meets a list of literals.
use Rattle.std.specs.Prelude.{◌≡◌, ℕ, ◌+◌, ◌<◌, ◌≤◌, Bool, true, false, List, [], ◌∷◌, ◌++◌, map}
use Rattle.std.specs.List.{slice_index_or}
use Rattle.rx_term.specs.declared.terms.Term.{Term, Nothing, Empty, One}
use Rattle.rx_term.specs.Term.{row_of, choice_of, star_of, has_byte}
use Rattle.rx_term.specs.Language.{Has, Each, In, state, SameSet}

-- a byte of the alphabet of requests: 32 to 126
abbrev pub IsPrintable : ℕ → Type 0
IsPrintable b = (32 ≤ b) × (b ≤ 126)

-- each byte set of the term lies within the alphabet
abbrev pub IsWithin : Term → Type 0
IsWithin Nothing = Unit {0}
IsWithin Empty = Unit {0}
IsWithin (One set) = (b : ℕ) → has_byte set b ≡ true → IsPrintable b
IsWithin (row_of p s q u) = IsWithin s × IsWithin u
IsWithin (choice_of p s q u) = IsWithin s × IsWithin u
IsWithin (star_of p s) = IsWithin s

-- the fact holds, or it doesn't, as is said
abbrev pub Is : Bool → Type 0 → Type 0
Is true P = P
Is false P = P → ⊥

-- a literal: a term, and whether a text has to be in it
abbrev pub Claim : Type 0
Claim = Term × Bool

-- the text is in `valid`, and in each term exactly where its literal says so
abbrev pub Meets : Term → List Claim → List ℕ → Type 0
Meets valid claims w = In w valid × Each (λ c. Is c.1 (In w c.0)) claims

-- the terms whose states tell words apart
abbrev pub terms_of : Term → List Claim → List Term
terms_of valid claims = valid ∷ map (λ c. c.0) claims

-- the two words have one state for each of the terms
abbrev pub SameStates : List Term → List ℕ → List ℕ → Type 0
SameStates ts v w = Each (λ t. SameSet (state t v) (state t w)) ts

-- the words of a list of entries, each a place of an earlier word and one more byte
abbrev pub words_from : List (List ℕ) → List (ℕ × ℕ) → List (List ℕ)
words_from ws [] = ws
words_from ws (e ∷ es) = words_from (ws ++ (slice_index_or ws e.0 [] ++ e.1 ∷ []) ∷ []) es

-- word 0 is the empty word
abbrev pub words : List (ℕ × ℕ) → List (List ℕ)
words es = words_from ([] ∷ []) es

-- each parent stands before its word, and each byte is of the alphabet
abbrev pub AreEntries : ℕ → List (ℕ × ℕ) → Type 0
AreEntries n [] = Unit {0}
AreEntries n (e ∷ es) = (e.0 < n) × IsPrintable e.1 × AreEntries (n + 1) es

-- no earlier element is related to a later one
abbrev pub Apart : {A : Type 0} → (A → A → Type 0) → List A → Type 0
Apart R [] = Unit {0}
Apart R (x ∷ xs) = Each (λ y. R x y → ⊥) xs × Apart R xs

-- the listed words, the empty one among them, can be told apart and none meets the literals: parents stand before
-- their words, the states are pairwise different, and no word is a text that meets
pub record AreApart (valid : Term) (claims : List Claim) (es : List (ℕ × ℕ)) : Type 0 where
  pub entries : AreEntries 1 es
  pub apart : Apart (SameStates (terms_of valid claims)) (words es)
  pub none : Each (λ w. Meets valid claims w → ⊥) (words es)

-- the words close: they are apart, and one more byte leads from a listed word to the states of a listed word again
pub record Closes (valid : Term) (claims : List Claim) (es : List (ℕ × ℕ)) : Type 0 where
  pub listed : AreApart valid claims es
  pub closed : (w : List ℕ) → Has (words es) w → (b : ℕ) → IsPrintable b →
      (v : List ℕ) × Has (words es) v × SameStates (terms_of valid claims) (w ++ b ∷ []) v

-- where words close, no text of any length meets the literals
abbrev pub ClosingLaw : Type 0
ClosingLaw = (valid : Term) (claims : List Claim) (es : List (ℕ × ℕ)) → IsWithin valid → Closes valid claims es →
    (w : List ℕ) → Meets valid claims w → ⊥
