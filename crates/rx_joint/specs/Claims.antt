-- Claims on texts, and tables that are made ready for them.
use Rattle.std.specs.Prelude.{◌≡◌, ℕ, ◌+◌, ◌<◌, ◌↔◌, Bool, true, false, List, [], ◌∷◌, map, length}
use Rattle.std.specs.List.{slice_index_or}
use Rattle.rx_term.specs.declared.terms.Term.{Term, Nothing}
use Rattle.rx_term.specs.Language.{Has, Each, In, SameSet, state}
use Rattle.rx_term.specs.Closing.{IsPrintable, Is, Claim, words, AreEntries}
use Rattle.rx_auto.specs.Classes.{sets_of, AreAlike}
use Rattle.rx_auto.specs.Node.{term_at}
use Rattle.rx_auto.specs.Live.{AddsNumbers}
use Rattle.rx_joint.specs.declared.literals.Literal.{Literal}
use Rattle.rx_joint.specs.Lists.{list_at, AreApart}
use Rattle.rx_joint.specs.Joint.{table_at, own, AreTables, IsLed, Stands}

-- the claims of literals
abbrev pub claims_of : List Literal → List Claim
claims_of literals = map (λ l. (l.term, l.holds)) literals

-- the claims of a choice: the number of a term, and whether the text has to be in it
abbrev pub chosen : List Term → List (ℕ × Bool) → List Claim
chosen terms choice = map (λ c. (term_at terms c.0, c.1)) choice

-- each number of the choice is that of a term
abbrev pub AreChosen : List Term → List (ℕ × Bool) → Type 0
AreChosen terms choice = Each (λ c. c.0 < length terms) choice

-- the claims, and before them the claim that the text is valid
abbrev pub all_claims : Term → List Claim → List Claim
all_claims valid claims = (valid, true) ∷ claims

-- the claim of a number
abbrev pub claim_at : List Claim → ℕ → Claim
claim_at claims i = slice_index_or claims i (Nothing, false)

-- whether the text has to be in the term of a table's number
abbrev pub hold_at : List Bool → ℕ → Bool
hold_at holds i = slice_index_or holds i false

-- the tables are those of the claims, with what each claim says; for each byte of the alphabet there is one of the
-- bytes that no byte set of the claims' terms tells from it
pub record IsJoint (tables : List (List Term)) (holds : List Bool) (bytes : List ℕ) (claims : List Claim) : Type 0 where
  pub ready : AreTables tables
  pub long : length tables ≡ length claims
  pub holds_long : length holds ≡ length claims
  pub terms : (i : ℕ) → i < length claims → own (table_at tables i) ≡ (claim_at claims i).0
  pub wants : (i : ℕ) → i < length claims → hold_at holds i ≡ (claim_at claims i).1
  pub within : (c : ℕ) → Has bytes c → IsPrintable c
  pub each : (b : ℕ) → IsPrintable b → (c : ℕ) × Has bytes c × ((i : ℕ) → i < length claims → AreAlike (sets_of (claim_at claims i).0) c b)

-- the text is in each claim's term exactly where the claim says so
abbrev pub MeetsAll : List Claim → List ℕ → Type 0
MeetsAll claims w = Each (λ c. Is c.1 (In w c.0)) claims

-- the same of the tables' own terms
abbrev pub MeetsTables : List (List Term) → List Bool → List ℕ → Type 0
MeetsTables tables holds w = (i : ℕ) → i < length tables → Is (hold_at holds i) (In w (own (table_at tables i)))

-- the two words have one state in each table
abbrev pub SameTables : List (List Term) → List ℕ → List ℕ → Type 0
SameTables tables v w = (i : ℕ) → i < length tables → SameSet (state (own (table_at tables i)) v) (state (own (table_at tables i)) w)

-- tables that can be stepped, with bytes of the alphabet
pub record AreReady (tables : List (List Term)) (holds : List Bool) (bytes : List ℕ) : Type 0 where
  pub ready : AreTables tables
  pub long : length holds ≡ length tables
  pub within : (c : ℕ) → Has bytes c → IsPrintable c

-- the numbers of the tables whose terms the text has to be in
abbrev pub AreWanted : List Bool → List ℕ → Type 0
AreWanted holds wanted = (i : ℕ) → Has wanted i ↔ (hold_at holds i ≡ true)

-- the word of a number
abbrev pub word_at : List (ℕ × ℕ) → ℕ → List ℕ
word_at es k = slice_index_or (words es) k []

-- the entries make words whose states are those listed, pairwise different, and none of which meets the claims
pub record AreListed (tables : List (List Term)) (holds : List Bool) (es : List (ℕ × ℕ)) (states : List (List ℕ)) : Type 0 where
  pub entries : AreEntries 1 es
  pub long : length states ≡ length es + 1
  pub stands : (k : ℕ) → k < length states → Stands tables (list_at states k) (word_at es k)
  pub apart : AreApart states
  pub none : (k : ℕ) → k < length states → MeetsTables tables holds (word_at es k) → ⊥

-- the entries make words whose states are pairwise different, and none of which meets the claims
pub record AreWords (tables : List (List Term)) (holds : List Bool) (es : List (ℕ × ℕ)) : Type 0 where
  pub entries : AreEntries 1 es
  pub apart : (i j : ℕ) → i < j → j < length es + 1 → SameTables tables (word_at es i) (word_at es j) → ⊥
  pub none : (k : ℕ) → k < length es + 1 → MeetsTables tables holds (word_at es k) → ⊥

-- each of the bytes leads from a listed state to a listed state
abbrev pub LeadsBack : List (List Term) → List ℕ → List (List ℕ) → ℕ → Type 0
LeadsBack tables bytes states k = (c : ℕ) → Has bytes c →
    (x : List ℕ) × AddsNumbers [] x (IsLed tables (list_at states k) c) × Has states x

-- the same, of each list of the places that a byte leads to
abbrev pub MustLeadBack : List (List Term) → List ℕ → List (List ℕ) → ℕ → Type 0
MustLeadBack tables bytes states k = (c : ℕ) → Has bytes c → (x : List ℕ) → AddsNumbers [] x (IsLed tables (list_at states k) c) → Has states x
