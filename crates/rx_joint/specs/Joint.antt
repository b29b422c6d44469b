-- Live places of several tables, as one ascending list of numbers.
use Rattle.std.specs.Prelude.{◌≡◌, ℕ, ◌+◌, ◌*◌, ◌/◌, ◌%◌, ◌<◌, ◌≤◌, true, List, [], length, map}
use Rattle.std.specs.List.{slice_index_or}
use Rattle.rx_term.specs.declared.terms.Term.{Term}
use Rattle.rx_term.specs.Language.{Has, nullable, state}
use Rattle.rx_auto.specs.Node.{term_at}
use Rattle.rx_auto.specs.Table.{TableMeaning}
use Rattle.rx_auto.specs.Live.{IsAscending, IsFirst, IsBehind, HasPlaces}

-- the number of a live place, of a table's number and a place of that table
abbrev pub number_of : ℕ → ℕ → ℕ
number_of i p = i * 4294967296 + p

-- the number of a live place's table
abbrev pub table_of : ℕ → ℕ
table_of g = g / 4294967296

-- the place in that table
abbrev pub place_of : ℕ → ℕ
place_of g = g % 4294967296

-- the derivatives of each table
abbrev pub terms_in : List TableMeaning → List (List Term)
terms_in tables = map (λ t. t.terms) tables

-- the table of a number, an empty one past the end
abbrev pub table_at : List (List Term) → ℕ → List Term
table_at tables i = slice_index_or tables i []

-- the tables of these numbers, in order
abbrev pub picked : List (List Term) → List ℕ → List (List Term)
picked tables numbers = map (table_at tables) numbers

-- a table's own term is the first of its terms
abbrev pub own : List Term → Term
own ts = term_at ts 0

-- tables that are so few and so small that each live place has a number
pub record AreTables (tables : List (List Term)) : Type 0 where
  pub few : length tables < 4294967296
  pub some : (i : ℕ) → i < length tables → 0 < length (table_at tables i)
  pub small : (i : ℕ) → i < length tables → length (table_at tables i) ≤ 4294967296
  pub places : (i : ℕ) → i < length tables → HasPlaces (table_at tables i)

-- each number is that of a place of a table
abbrev pub AreNumbers : List (List Term) → List ℕ → Type 0
AreNumbers tables numbers = (g : ℕ) → Has numbers g → (table_of g < length tables) × (place_of g < length (table_at tables (table_of g)))

-- the number is that of a place that the byte leads to from one of the places
abbrev pub IsLed : List (List Term) → List ℕ → ℕ → ℕ → Type 0
IsLed tables numbers b x = (g : ℕ) × Has numbers g × IsBehind (table_at tables (table_of g)) (place_of g) b (number_of (table_of g) 0) x

-- the number is that of the first place of a term that is in its table's state after the text
pub record IsLive (tables : List (List Term)) (w : List ℕ) (g : ℕ) : Type 0 where
  pub table : table_of g < length tables
  pub place : IsFirst (table_at tables (table_of g)) (place_of g)
  pub state : Has (state (own (table_at tables (table_of g))) w) (term_at (table_at tables (table_of g)) (place_of g))

-- the numbers stand for the states of all tables after the text
pub record Stands (tables : List (List Term)) (numbers : List ℕ) (w : List ℕ) : Type 0 where
  pub ascending : IsAscending numbers
  pub back : (g : ℕ) → Has numbers g → IsLive tables w g
  pub forth : (i : ℕ) → i < length tables → (x : Term) → Has (state (own (table_at tables i)) w) x →
      (p : ℕ) × (p < 4294967296) × Has numbers (number_of i p) × (term_at (table_at tables i) p ≡ x)

-- one of the places of a table has the empty text
abbrev pub Ends : List (List Term) → List ℕ → ℕ → Type 0
Ends tables numbers i = (g : ℕ) × Has numbers g × (table_of g ≡ i) × (nullable (term_at (table_at tables (table_of g)) (place_of g)) ≡ true)
