-- Patterns: which texts spell which terms, and where a text that spells nothing is at fault.
use Rattle.std.specs.Prelude.{◌≡◌, ◌≢◌, ℕ, ◌+◌, ◌-◌, ◌*◌, ◌<◌, ◌≤◌, ◌^◌, Bool, true, false, ◌⊎◌, List, [], ◌∷◌, ◌++◌, length, take, slice_index, min, max, ◌==◌, if◌then◌else◌, replicate}
use Rattle.rx_term.specs.declared.sets.ByteSet.{ByteSet}
use Rattle.rx_term.specs.declared.terms.Term.{Term, Empty, One}
use Rattle.rx_term.specs.Term.{cat, alt, star, has_byte}
use Rattle.rx_term.specs.Language.{Has, Each}

-- ---- bytes

-- a byte of `.` and of the complements
abbrev pub IsAny : ℕ → Type 0
IsAny b = (32 ≤ b) × (b ≤ 126)

-- a decimal digit
abbrev pub IsDigit : ℕ → Type 0
IsDigit b = (48 ≤ b) × (b ≤ 57)

-- an upper-case letter
abbrev pub IsUpper : ℕ → Type 0
IsUpper b = (65 ≤ b) × (b ≤ 90)

-- a lower-case letter
abbrev pub IsLower : ℕ → Type 0
IsLower b = (97 ≤ b) × (b ≤ 122)

-- a punctuation byte, `_` among them
abbrev pub IsPunct : ℕ → Type 0
IsPunct b = ((33 ≤ b) × (b ≤ 47)) ⊎ ((58 ≤ b) × (b ≤ 64)) ⊎ ((91 ≤ b) × (b ≤ 96)) ⊎ ((123 ≤ b) × (b ≤ 126))

-- the byte, or with the flag also its other case
abbrev pub IsFold : Bool → ℕ → ℕ → Type 0
IsFold false a b = a ≡ b
IsFold true a b = (a ≡ b) ⊎ (IsUpper a × (b ≡ a + 32)) ⊎ (IsLower a × (a ≡ b + 32))

-- the set of the bytes that are so
pub record IsSetOf (P : ℕ → Type 0) (set : ByteSet) : Type 0 where
  pub small : set.0 < 2 ^ 128
  pub forth : (b : ℕ) → has_byte set b ≡ true → P b
  pub back : (b : ℕ) → b < 128 → P b → has_byte set b ≡ true

-- a byte of `\w`: a letter, a digit or `_`
abbrev pub IsWord : ℕ → Type 0
IsWord b = IsDigit b ⊎ IsUpper b ⊎ IsLower b ⊎ (b ≡ 95)

-- the byte is in the set that the letter behind a backslash names: `\d \w \s` and, in upper case, their complements
abbrev pub IsEscapeSet : ℕ → ℕ → Type 0
IsEscapeSet c b =
    ((c ≡ 100) × IsDigit b) ⊎ ((c ≡ 119) × IsWord b) ⊎ ((c ≡ 115) × (b ≡ 32))
    ⊎ ((c ≡ 68) × IsAny b × (IsDigit b → ⊥)) ⊎ ((c ≡ 87) × IsAny b × (IsWord b → ⊥)) ⊎ ((c ≡ 83) × IsAny b × (b ≢ 32))

-- a letter that names a set behind a backslash
abbrev pub IsSetLetter : ℕ → Type 0
IsSetLetter c = Has (100 ∷ 119 ∷ 115 ∷ 68 ∷ 87 ∷ 83 ∷ []) c

-- a literal: a byte of the alphabet other than \ . [ ( ) | * + ? { ^ $
abbrev pub IsLiteral : ℕ → Type 0
IsLiteral b = IsAny b × (Has (92 ∷ 46 ∷ 91 ∷ 40 ∷ 41 ∷ 124 ∷ 42 ∷ 43 ∷ 63 ∷ 123 ∷ 94 ∷ 36 ∷ []) b → ⊥)

-- ---- classes

-- the text is a single, the byte a; `first` says that it begins the class
pub data IsSingle : Bool → List ℕ → ℕ → Type 0 where
  plain : {first : Bool} {a : ℕ} → IsAny a → a ≢ 92 → a ≢ 93 → a ≢ 45 → IsSingle first (a ∷ []) a
  escaped : {first : Bool} {a : ℕ} → IsPunct a → IsSingle first (92 ∷ a ∷ []) a
  bracket : IsSingle true (93 ∷ []) 93

-- the text is an item with these bytes; `first` and `last` say where it stands in its class
pub data IsItem : Bool → Bool → Bool → List ℕ → ByteSet → Type 0 where
  single : {f first last : Bool} {v : List ℕ} {set : ByteSet} (a : ℕ) → IsSingle first v a → IsSetOf (IsFold f a) set → IsItem f first last v set
  among : {f first last : Bool} {c : ℕ} {set : ByteSet} → IsSetLetter c → IsSetOf (IsEscapeSet c) set → IsItem f first last (92 ∷ c ∷ []) set
  range : {f first last : Bool} {w : List ℕ} {set : ByteSet} (v z : List ℕ) (a b : ℕ) → w ≡ v ++ 45 ∷ z → IsSingle first v a → IsSingle false z b → a ≤ b →
      IsSetOf (λ x. (y : ℕ) × (a ≤ y) × (y ≤ b) × IsFold f y x) set → IsItem f first last w set
  dash : {f first last : Bool} {set : ByteSet} → (first ≡ true) ⊎ (last ≡ true) → IsSetOf (λ x. x ≡ 45) set → IsItem f first last (45 ∷ []) set

-- the text is items in a row with these sets; the first `-` of all and the last may stand alone
pub data AreItems : Bool → Bool → List ℕ → List ByteSet → Type 0 where
  only : {f first : Bool} {v : List ℕ} {set : ByteSet} → IsItem f first true v set → AreItems f first v (set ∷ [])
  then : {f first : Bool} {w : List ℕ} {set : ByteSet} {sets : List ByteSet} (v z : List ℕ) → w ≡ v ++ z → IsItem f first false v set → AreItems f false z sets →
      AreItems f first w (set ∷ sets)

-- what the byte before is: a backslash that escapes the next byte, a bracket that none escapes, or another byte
pub data Before : Type 0 where
  Other Bare Slash : Before

-- what a byte is to the next one, by what the byte before it was
abbrev pub behind : Before → ℕ → Before
behind Slash b = Other
behind _ b = if b == 92 then Slash else (if b == 91 then Bare else Other)

-- the byte may stand there: no colon right behind a bare bracket
abbrev pub IsAllowedBehind : Before → ℕ → Type 0
IsAllowedBehind Bare b = b ≢ 58
IsAllowedBehind _ b = Unit {0}

-- no bracket that is written without a backslash is followed by a colon
abbrev pub HasNoNamed : Before → List ℕ → Type 0
HasNoNamed s [] = Unit {0}
HasNoNamed s (b ∷ w) = IsAllowedBehind s b × HasNoNamed (behind s b) w

-- the byte is in one of the sets
abbrev pub InSome : List ByteSet → ℕ → Type 0
InSome sets b = (s : ByteSet) × Has sets s × (has_byte s b ≡ true)

-- the text is a class with these bytes: those of its items, or with `^` the bytes of the alphabet that no item has
pub data IsClass : Bool → List ℕ → ByteSet → Type 0 where
  of : {f : Bool} {w : List ℕ} {set : ByteSet} (v : List ℕ) (sets : List ByteSet) → w ≡ 91 ∷ (v ++ 93 ∷ []) → AreItems f true v sets → HasNoNamed Other v →
      slice_index v 0 ≢ 94 → IsSetOf (InSome sets) set → IsClass f w set
  none_of : {f : Bool} {w : List ℕ} {set : ByteSet} (v : List ℕ) (sets : List ByteSet) → w ≡ 91 ∷ 94 ∷ (v ++ 93 ∷ []) → AreItems f true v sets → HasNoNamed Other v →
      IsSetOf (λ b. IsAny b × (InSome sets b → ⊥)) set → IsClass f w set

-- ---- quantifiers

-- the number that decimal digits spell behind a number
abbrev pub decimal : ℕ → List ℕ → ℕ
decimal n [] = n
decimal n (d ∷ v) = decimal (10 * n + (d - 48)) v

-- the text is one to three digits that spell the number, at most 255
abbrev pub IsNumber : List ℕ → ℕ → Type 0
IsNumber v n = (1 ≤ length v) × (length v ≤ 3) × Each IsDigit v × (n ≡ decimal 0 v) × (n ≤ 255)

-- how often a piece stands: `*`, `+`, `?`, `{n}`, `{n,}`, `{n,m}`
pub data Times : Type 0 where
  Many : Times
  Plenty : Times
  Maybe : Times
  Exactly : (n : ℕ) → Times
  AtLeast : (n : ℕ) → Times
  Between : (n m : ℕ) → Times

-- the text is a quantifier
pub data IsTimes : List ℕ → Times → Type 0 where
  many : IsTimes (42 ∷ []) Many
  plenty : IsTimes (43 ∷ []) Plenty
  maybe : IsTimes (63 ∷ []) Maybe
  exactly : {w : List ℕ} {n : ℕ} (v : List ℕ) → w ≡ 123 ∷ (v ++ 125 ∷ []) → IsNumber v n → IsTimes w (Exactly n)
  at_least : {w : List ℕ} {n : ℕ} (v : List ℕ) → w ≡ 123 ∷ (v ++ 44 ∷ 125 ∷ []) → IsNumber v n → IsTimes w (AtLeast n)
  between : {w : List ℕ} {n m : ℕ} (v z : List ℕ) → w ≡ 123 ∷ (v ++ 44 ∷ (z ++ 125 ∷ [])) → IsNumber v n → IsNumber z m → n ≤ m → IsTimes w (Between n m)

-- terms in a row, nested to the right
abbrev pub row : List Term → Term
row [] = Empty
row (t ∷ []) = t
row (t ∷ u ∷ ts) = cat t (row (u ∷ ts))

-- the term of a quantified piece
abbrev pub repeated : Times → Term → Term
repeated Many t = star t
repeated Plenty t = cat t (star t)
repeated Maybe t = alt Empty t
repeated (Exactly n) t = row (replicate n t)
repeated (AtLeast n) t = row (replicate n t ++ star t ∷ [])
repeated (Between n m) t = row (replicate n t ++ replicate (m - n) (alt Empty t))

-- positions: at least 1, staying at the greatest number of 32 bits
abbrev pub kept : ℕ → ℕ
kept n = max 1 (min n 4294967295)

-- the positions of a quantified piece, from those of the piece
abbrev pub multiplied : Times → ℕ → ℕ
multiplied Many k = kept k
multiplied Plenty k = kept (2 * k)
multiplied Maybe k = kept k
multiplied (Exactly n) k = kept (n * k)
multiplied (AtLeast n) k = kept ((n + 1) * k)
multiplied (Between n m) k = kept (m * k)

-- ---- the grammar

-- the levels of the grammar
pub data Level : Type 0 where
  Atom Piece Cats Alts : Level

-- the text is an expression of the level, with its term and its positions
pub data Spells : Bool → Level → List ℕ → Term → ℕ → Type 0 where
  literal : {f : Bool} {a : ℕ} {set : ByteSet} → IsLiteral a → IsSetOf (IsFold f a) set → Spells f Atom (a ∷ []) (One set) 1
  dot : {f : Bool} {set : ByteSet} → IsSetOf IsAny set → Spells f Atom (46 ∷ []) (One set) 1
  punct : {f : Bool} {a : ℕ} {set : ByteSet} → IsPunct a → IsSetOf (IsFold f a) set → Spells f Atom (92 ∷ a ∷ []) (One set) 1
  escape : {f : Bool} {c : ℕ} {set : ByteSet} → IsSetLetter c → IsSetOf (IsEscapeSet c) set → Spells f Atom (92 ∷ c ∷ []) (One set) 1
  class : {f : Bool} {w : List ℕ} {set : ByteSet} → IsClass f w set → Spells f Atom w (One set) 1
  group : {f : Bool} {w : List ℕ} {t : Term} {k : ℕ} (v : List ℕ) → w ≡ 40 ∷ (v ++ 41 ∷ []) → Spells f Alts v t k → Spells f Atom w t k
  plain_group : {f : Bool} {w : List ℕ} {t : Term} {k : ℕ} (v : List ℕ) → w ≡ 40 ∷ 63 ∷ 58 ∷ (v ++ 41 ∷ []) → Spells f Alts v t k → Spells f Atom w t k
  once : {f : Bool} {w : List ℕ} {t : Term} {k : ℕ} → Spells f Atom w t k → Spells f Piece w t k
  times : {f : Bool} {w : List ℕ} {t : Term} {k : ℕ} (v z : List ℕ) (q : Times) → (w ≡ v ++ z) ⊎ (w ≡ v ++ (z ++ 63 ∷ [])) → Spells f Atom v t k → IsTimes z q →
      Spells f Piece w (repeated q t) (multiplied q k)
  empty : {f : Bool} → Spells f Cats [] Empty 1
  piece : {f : Bool} {w : List ℕ} {t : Term} {k : ℕ} → Spells f Piece w t k → Spells f Cats w t k
  cats : {f : Bool} {w : List ℕ} {t u : Term} {j k : ℕ} (v z : List ℕ) → w ≡ v ++ z → z ≢ [] → Spells f Piece v t j → Spells f Cats z u k →
      Spells f Cats w (cat t u) (kept (j + k))
  choice : {f : Bool} {w : List ℕ} {t : Term} {k : ℕ} → Spells f Cats w t k → Spells f Alts w t k
  alts : {f : Bool} {w : List ℕ} {t u : Term} {j k : ℕ} (v z : List ℕ) → w ≡ v ++ 124 ∷ z → Spells f Cats v t j → Spells f Alts z u k →
      Spells f Alts w (alt t u) (kept (j + k))

-- the bytes of the flag
abbrev pub flag : Bool → List ℕ
flag false = []
flag true = 40 ∷ 63 ∷ 105 ∷ 41 ∷ []

-- a whole pattern: the flag, what is between the two anchors, and its term and positions
abbrev pub IsPattern : List ℕ → Term → ℕ → Type 0
IsPattern w t k = (f : Bool) × (front v back : List ℕ) × (w ≡ flag f ++ (front ++ (v ++ back))) × ((front ≡ []) ⊎ (front ≡ 94 ∷ [])) × ((back ≡ []) ⊎ (back ≡ 36 ∷ [])) × Spells f Alts v t k

-- ---- faults

-- the text is the front of some pattern
abbrev pub IsFront : List ℕ → Type 0
IsFront v = (z : List ℕ) × (t : Term) × (k : ℕ) × IsPattern (v ++ z) t k

-- the fault's offset: the length of the longest front of the text that is the front of some pattern
pub record IsFaultAt (w : List ℕ) (a : ℕ) : Type 0 where
  pub none : (t : Term) (k : ℕ) → IsPattern w t k → ⊥
  pub within : a ≤ length w
  pub front : IsFront (take a w)
  pub longest : (b : ℕ) → b ≤ length w → IsFront (take b w) → b ≤ a

-- where a front ends, read from the left: in plain text, behind a backslash, right behind `[` or `[^`, in a class,
-- behind a backslash there, in braces, or behind `(`, `(?`, `(?i`
pub data Place : Type 0 where
  Plain Escaped Opens Negates InClass ClassEscaped InBraces Grouped Marked Flagged : Place

-- the place behind a byte inside a class
abbrev pub in_class : ℕ → Place
in_class b = if b == 92 then ClassEscaped else InClass

-- the place behind a byte of plain text
abbrev pub plainly : ℕ → Place
plainly b = if b == 92 then Escaped else (if b == 91 then Opens else (if b == 123 then InBraces else (if b == 40 then Grouped else Plain)))

-- the place behind one more byte
abbrev pub next_place : Place → ℕ → Place
next_place Plain b = plainly b
next_place Escaped b = Plain
next_place Opens b = if b == 94 then Negates else (if b == 93 then InClass else in_class b)
next_place Negates b = if b == 93 then InClass else in_class b
next_place InClass b = if b == 93 then Plain else in_class b
next_place ClassEscaped b = InClass
next_place InBraces b = if b == 125 then Plain else InBraces
next_place Grouped b = if b == 63 then Marked else plainly b
next_place Marked b = if b == 105 then Flagged else plainly b
next_place Flagged b = plainly b

-- the place at the end of a text, read from a place on
abbrev pub place_of : Place → List ℕ → Place
place_of p [] = p
place_of p (b ∷ w) = place_of (next_place p b) w

-- a place that only text outside the subset, or a text that isn't finished, is cut at
abbrev pub IsBeyond : Place → Type 0
IsBeyond Plain = ⊥
IsBeyond Escaped = Unit {0}
IsBeyond Opens = ⊥
IsBeyond Negates = ⊥
IsBeyond InClass = ⊥
IsBeyond ClassEscaped = Unit {0}
IsBeyond InBraces = Unit {0}
IsBeyond Grouped = ⊥
IsBeyond Marked = Unit {0}
IsBeyond Flagged = Unit {0}

-- the fault is of a form that lies outside the subset; any other fault is one of syntax
abbrev pub IsOutside : List ℕ → ℕ → Type 0
IsOutside w a = (a < length w) × (IsBeyond (place_of Plain (take a w)) ⊎ Has (94 ∷ 36 ∷ 58 ∷ []) (slice_index w a))
