-- What contracts see of tables that are stepped together.
use Rattle.std.specs.Prelude.{ℕ, ◌<◌, ◌≤◌, Bool, List, map, drop, length}
use Rattle.rx_term.specs.declared.sets.ByteSet.{ByteSet}
use Rattle.rx_term.specs.declared.terms.Term.{Term}
use Rattle.rx_term.specs.Language.{Has}
use Rattle.rx_auto.specs.Classes.{sets_of, Covers}
use Rattle.rx_auto.specs.Table.{TableMeaning}
use Rattle.rx_joint.specs.Joint.{terms_in, table_at, own, picked, AreTables}
use Rattle.rx_joint.specs.Claims.{AreReady, AreWanted}

-- the term of valid texts, the further terms by their numbers, and the room that a test of a text needs
pub record JointMeaning : Type 0 where
  pub valid : Term
  pub terms : List Term
  pub room : ℕ

-- the own terms of tables
abbrev pub owns : List TableMeaning → List Term
owns tables = map (λ t. own t.terms) tables

-- the first table is that of the valid term
abbrev pub joint_of : List TableMeaning → ℕ → JointMeaning
joint_of tables room = record { valid = own (table_at (terms_in tables) 0); terms = drop 1 (owns tables); room = room }

-- tables of a valid term and further ones, all their byte sets, and a byte for each class of the alphabet under these
pub record IsField (tables : List TableMeaning) (sets : List ByteSet) (bytes : List ℕ) (room : ℕ) : Type 0 where
  pub ready : AreTables (terms_in tables)
  pub some : 0 < length tables
  pub known : (i : ℕ) → i < length tables → (s : ByteSet) → Has (sets_of (own (table_at (terms_in tables) i))) s → Has sets s
  pub covers : Covers sets bytes
  pub roomy : (t : TableMeaning) → Has tables t → t.room ≤ room

-- chosen tables, whether each has to have the text, and a byte for each class of the alphabet
pub record ChosenMeaning : Type 0 where
  pub tables : List (List Term)
  pub holds : List Bool
  pub bytes : List ℕ

-- the chosen tables by their numbers
abbrev pub chosen_of : List TableMeaning → List ℕ → List ℕ → List Bool → ChosenMeaning
chosen_of tables bytes numbers holds = record { tables = picked (terms_in tables) numbers; holds = holds; bytes = bytes }

-- chosen tables that can be stepped together, and the numbers of those that have to have the text
pub record IsChosen (tables : List TableMeaning) (bytes numbers : List ℕ) (holds : List Bool) (wanted : List ℕ) : Type 0 where
  pub ready : AreReady (picked (terms_in tables) numbers) holds bytes
  pub within : (i : ℕ) → Has numbers i → i < length tables
  pub wants : AreWanted holds wanted
