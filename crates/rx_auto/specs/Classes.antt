-- Bytes that no byte set tells apart, and their classes by number.
use Rattle.std.specs.Prelude.{◌≡◌, ℕ, ◌<◌, ◌≤◌, ◌⊎◌, List, [], ◌∷◌, ◌++◌, length, slice_index}
use Rattle.rx_term.specs.declared.sets.ByteSet.{ByteSet}
use Rattle.rx_term.specs.declared.terms.Term.{Term, Nothing, Empty, One}
use Rattle.rx_term.specs.Term.{row_of, choice_of, star_of, has_byte}
use Rattle.rx_term.specs.Language.{Has, Each, after, state}
use Rattle.rx_term.specs.Closing.{IsPrintable}

-- the byte sets of a term, from the left
abbrev pub sets_of : Term → List ByteSet
sets_of Nothing = []
sets_of Empty = []
sets_of (One set) = set ∷ []
sets_of (row_of p s q u) = sets_of s ++ sets_of u
sets_of (choice_of p s q u) = sets_of s ++ sets_of u
sets_of (star_of p s) = sets_of s

-- no set of the list tells the two bytes apart
abbrev pub AreAlike : List ByteSet → ℕ → ℕ → Type 0
AreAlike sets a b = Each (λ s. has_byte s a ≡ has_byte s b) sets

-- the new list has the old one's sets and those of the term, and no others
pub record AddsSets (old new : List ByteSet) (t : Term) : Type 0 where
  pub kept : (s : ByteSet) → Has old s → Has new s
  pub made : (s : ByteSet) → Has (sets_of t) s → Has new s
  pub only : (s : ByteSet) → Has new s → Has old s ⊎ Has (sets_of t) s

-- bytes of the alphabet, such that each byte of the alphabet is like one of them
pub record Covers (sets : List ByteSet) (bytes : List ℕ) : Type 0 where
  pub within : (c : ℕ) → Has bytes c → IsPrintable c
  pub each : (b : ℕ) → IsPrintable b → (c : ℕ) × Has bytes c × AreAlike sets c b

-- ---- classes

-- the first byte of each class, ascending: no smaller byte is like one of them, and each byte is
pub record AreFirsts (sets : List ByteSet) (firsts : List ℕ) : Type 0 where
  pub ascending : (i j : ℕ) → i < j → j < length firsts → slice_index firsts i < slice_index firsts j
  pub least : (i a : ℕ) → i < length firsts → a < slice_index firsts i → AreAlike sets a (slice_index firsts i) → ⊥
  pub each : (b : ℕ) → (i : ℕ) × (i < length firsts) × AreAlike sets (slice_index firsts i) b

-- the byte's class is n: it is like the first byte of that place
abbrev pub IsClassOf : List ByteSet → ℕ → ℕ → Type 0
IsClassOf sets b n = (firsts : List ℕ) × AreFirsts sets firsts × (n < length firsts) × AreAlike sets (slice_index firsts n) b

-- there are so many classes
abbrev pub IsClassCount : List ByteSet → ℕ → Type 0
IsClassCount sets n = (firsts : List ℕ) × AreFirsts sets firsts × (n ≡ length firsts)

-- the first bytes of the classes, at most 129, and the class of each byte up to 128
pub record AreClasses (sets : List ByteSet) (firsts numbers : List ℕ) : Type 0 where
  pub first : AreFirsts sets firsts
  pub number : (b : ℕ) → b ≤ 128 → (slice_index numbers b < length firsts) × AreAlike sets (slice_index firsts (slice_index numbers b)) b

-- ---- laws

-- bytes that no set of a term tells apart lead from each state of the term to the same state
abbrev pub AlikeLaw : Type 0
AlikeLaw = (t : Term) (a b : ℕ) → AreAlike (sets_of t) a b → (w : List ℕ) → after a (state t w) ≡ after b (state t w)

-- two bytes of one class lead from each state of the term to the same state
abbrev pub ClassLaw : Type 0
ClassLaw = (t : Term) (a b n : ℕ) → IsClassOf (sets_of t) a n → IsClassOf (sets_of t) b n → (w : List ℕ) → after a (state t w) ≡ after b (state t w)

-- the number of a class is below the count of the classes
abbrev pub BelowLaw : Type 0
BelowLaw = (sets : List ByteSet) (b n count : ℕ) → IsClassOf sets b n → IsClassCount sets count → n < count

-- bytes that no set tells apart have one class
abbrev pub ApartLaw : Type 0
ApartLaw = (sets : List ByteSet) (a b m n : ℕ) → AreAlike sets a b → IsClassOf sets a m → IsClassOf sets b n → m ≡ n
