-- What a reader holds of the text that it has read.
use Rattle.std.specs.Prelude.{◌≡◌, ◌≢◌, ℕ, suc, ◌+◌, ◌≤◌, ◌<◌, Bool, true, false, cond, ◌⊎◌, List, [], ◌∷◌, ◌++◌, length, Option, Some, None}
use Rattle.rx_term.specs.declared.sets.ByteSet.{ByteSet}
use Rattle.rx_term.specs.declared.terms.Term.{Term}
use Rattle.rx_term.specs.Language.{Each}
use Rattle.rx_term.specs.Pattern.{IsDigit, decimal, IsNumber, kept, repeated, multiplied, Times, IsSetOf, InSome, IsSingle, IsItem, Before, Other, Bare, Slash, behind, HasNoNamed, Spells, Level, Atom, Piece, Cats, Alts, flag, IsPattern}
use Rattle.rx_parse.specs.declared.made.Made.{Made}
use Rattle.rx_parse.specs.declared.made.Frame.{Frame}
use Rattle.rx_parse.specs.declared.reader.Reader.{Reader}
use Rattle.rx_parse.specs.declared.place.Class.{Class}
use Rattle.rx_parse.specs.declared.place.Class.TheVariants.{Fresh, Negated, Single, Item, Ranged, Dashed, Slashed, RangeSlashed}
use Rattle.rx_parse.specs.declared.place.Braces.{Braces}
use Rattle.rx_parse.specs.declared.place.Braces.TheVariants.{Least, Most}
use Rattle.rx_parse.specs.declared.place.Place.{Place}
use Rattle.rx_parse.specs.declared.place.Place.TheVariants.{Begin, Begun, Ready, Atomic, Counted, Ended, Escaped, Opened, Marked, Flagging, InClass, InBraces}
use Rattle.rx_parse.specs.declared.bytes.Bytes.TheVariants.{Without}
use Rattle.rx_parse.specs.Sets.{holds, IsSetBy}
use Rattle.rx_parse.specs.Kinds.{reaches}
use Rattle.rx_parse.specs.Answer.{no_frame}
use Rattle.rx_parse.proofs.Machine.{Moved, next}

-- ---- terms that were made

-- the term, or none where the positions are too many
abbrev pub Stands : Option Term → Term → ℕ → Type 0
Stands None t k = 4000 < k
Stands (Some u) t k = u ≡ t

-- the text spells this on the level
abbrev pub IsMade : Level → Bool → List ℕ → Made → Type 0
IsMade l f w m = (t : Term) × Spells f l w t m.positions × Stands m.term t m.positions

-- ---- choices

-- the text is the pieces in a row
abbrev pub ArePieces : Bool → List ℕ → List Made → Type 0
ArePieces f w [] = w ≡ []
ArePieces f w (m ∷ ms) = (v z : List ℕ) × (w ≡ v ++ z) × IsMade Piece f v m × ArePieces f z ms

-- the text is the alternatives, each with a bar behind it
abbrev pub AreBranches : Bool → List ℕ → List Made → Type 0
AreBranches f w [] = w ≡ []
AreBranches f w (m ∷ ms) = (v z : List ℕ) × (w ≡ v ++ 124 ∷ z) × IsMade Cats f v m × AreBranches f z ms

-- the text is the front of a choice
abbrev pub IsFrame : Bool → List ℕ → Frame → Type 0
IsFrame f w fr = (v z : List ℕ) × (w ≡ v ++ z) × AreBranches f v fr.branches × ArePieces f z fr.pieces

-- the text opens a group
abbrev pub IsOpening : List ℕ → Type 0
IsOpening w = (w ≡ 40 ∷ []) ⊎ (w ≡ 40 ∷ 63 ∷ 58 ∷ [])

-- the text is the choices, each with the opening of a group behind it
abbrev pub AreOuter : Bool → List ℕ → List Frame → Type 0
AreOuter f w [] = w ≡ []
AreOuter f w (fr ∷ frs) = (v o z : List ℕ) × (w ≡ v ++ (o ++ z)) × IsFrame f v fr × IsOpening o × AreOuter f z frs

-- ---- classes

-- whether the byte before is a bare bracket
abbrev pub bare_if : Bool → Before
bare_if bare = cond bare Bare Other

-- what the last byte of the class is to the next one
abbrev pub sort : Class → Before
sort Fresh = Other
sort Negated = Other
sort (Single a bare) = bare_if bare
sort (Item bare) = bare_if bare
sort (Ranged a) = Other
sort Dashed = Other
sort Slashed = Slash
sort (RangeSlashed a) = Slash

-- what the last byte of the text is to the next one
abbrev pub behind_all : Before → List ℕ → Before
behind_all s [] = s
behind_all s (b ∷ w) = behind_all (behind s b) w

-- the text is items before the last one; `after` says that the next item is the first
abbrev pub BeforeItems : Bool → Bool → Bool → List ℕ → List ByteSet → Type 0
BeforeItems f first after w [] = (w ≡ []) × (first ≡ after)
BeforeItems f first after w (s ∷ ss) = (v z : List ℕ) × (w ≡ v ++ z) × IsItem f first false v s × BeforeItems f false after z ss

-- the same, with the bytes of the items
abbrev pub SoFar : Bool → ByteSet → List ℕ → Bool → Type 0
SoFar f set v after = (sets : List ByteSet) × BeforeItems f true after v sets × IsSetOf (InSome sets) set

-- what a class holds of its body
abbrev pub IsBody : Bool → ByteSet → Class → List ℕ → Type 0
IsBody f set Fresh y = (y ≡ []) × SoFar f set y true
IsBody f set Negated y = (y ≡ []) × SoFar f set y true
IsBody f set (Single a bare) y = (v z : List ℕ) × (after : Bool) × (y ≡ v ++ z) × SoFar f set v after × IsSingle after z a
IsBody f set (Item bare) y = SoFar f set y false
IsBody f set (Ranged a) y = (v z : List ℕ) × (after : Bool) × (y ≡ v ++ (z ++ 45 ∷ [])) × SoFar f set v after × IsSingle after z a
IsBody f set Dashed y = (v : List ℕ) × (y ≡ v ++ 45 ∷ []) × SoFar f set v false
IsBody f set Slashed y = (v : List ℕ) × (after : Bool) × (y ≡ v ++ 92 ∷ []) × SoFar f set v after
IsBody f set (RangeSlashed a) y = (v z : List ℕ) × (after : Bool) × (y ≡ v ++ (z ++ 45 ∷ 92 ∷ [])) × SoFar f set v after × IsSingle after z a

-- how a class opens
abbrev pub opening : Bool → List ℕ
opening negated = cond negated (91 ∷ 94 ∷ []) (91 ∷ [])

-- no caret begins the body, but in a complement
abbrev pub HasNoCaret : Bool → List ℕ → Type 0
HasNoCaret true y = Unit {0}
HasNoCaret false [] = Unit {0}
HasNoCaret false (b ∷ y) = b ≢ 94

-- how far the body has begun
abbrev pub Starts : Class → Bool → List ℕ → Type 0
Starts Fresh negated y = negated ≡ false
Starts Negated negated y = negated ≡ true
Starts c negated y = (y ≢ []) × HasNoCaret negated y

-- the text is the front of a class, read up to there
pub record IsClassFront (f negated : Bool) (set : ByteSet) (c : Class) (p : List ℕ) : Type 0 where
  pub body : List ℕ
  pub is : p ≡ opening negated ++ body
  pub items : IsBody f set c body
  pub start : Starts c negated body
  pub named : HasNoNamed Other body
  pub before : sort c ≡ behind_all Other body

-- ---- braces

-- the text is the front of braces, read up to there
abbrev pub IsBracesFront : Braces → List ℕ → Type 0
IsBracesFront (Least k n) z = (v : List ℕ) × (z ≡ 123 ∷ v) × (length v ≡ k) × (k ≤ 3) × Each IsDigit v × (n ≡ decimal 0 v) × (n ≤ 255)
IsBracesFront (Most n k m) z =
    (v u : List ℕ) × (z ≡ 123 ∷ (v ++ 44 ∷ u)) × IsNumber v n × (length u ≡ k) × (k ≤ 3) × Each IsDigit u × (m ≡ decimal 0 u) × (m ≤ 255)
    × ((k ≡ 0) ⊎ (reaches n k m ≡ true))

-- ---- readers

-- what was read last and isn't in a choice yet
abbrev pub IsPending : Reader → Place → List ℕ → Type 0
IsPending r Begin p = p ≡ []
IsPending r Begun p = p ≡ []
IsPending r Ready p = p ≡ []
IsPending r Atomic p = IsMade Atom r.fold p r.pending
IsPending r Counted p = IsMade Piece r.fold p r.pending × IsMade Piece r.fold (p ++ 63 ∷ []) r.pending
IsPending r Ended p = (p ≡ 36 ∷ []) × (r.outer ≡ [])
IsPending r Escaped p = p ≡ 92 ∷ []
IsPending r (Opened first) p = p ≡ 40 ∷ []
IsPending r (Marked first) p = p ≡ 40 ∷ 63 ∷ []
IsPending r Flagging p = p ≡ 40 ∷ 63 ∷ 105 ∷ []
IsPending r (InClass c) p = IsClassFront r.fold r.negated r.set c p
IsPending r (InBraces c) p = (v z : List ℕ) × (p ≡ v ++ z) × IsMade Atom r.fold v r.pending × IsBracesFront c z

-- the text is this one, if it has to be
abbrev pub IsFirst : Bool → List ℕ → List ℕ → Type 0
IsFirst true w v = w ≡ v
IsFirst false w v = Unit {0}

-- the places that are at the start of the text
abbrev pub IsStart : Bool → Place → List ℕ → Type 0
IsStart f Begin w = (w ≡ []) × (f ≡ false)
IsStart f Begun w = (w ≡ flag true) × (f ≡ true)
IsStart f (Opened first) w = IsFirst first w (40 ∷ [])
IsStart f (Marked first) w = IsFirst first w (40 ∷ 63 ∷ [])
IsStart f Flagging w = w ≡ 40 ∷ 63 ∷ 105 ∷ []
IsStart f p w = Unit {0}

-- the text is what comes before the body
abbrev pub IsHead : Bool → List ℕ → Type 0
IsHead f w = (front : List ℕ) × (w ≡ flag f ++ front) × ((front ≡ []) ⊎ (front ≡ 94 ∷ []))

-- the reader has read the text
pub record Reads (r : Reader) (w : List ℕ) : Type 0 where
  pub head : List ℕ
  pub around : List ℕ
  pub inside : List ℕ
  pub rest : List ℕ
  pub is : w ≡ head ++ (around ++ (inside ++ rest))
  pub begins : IsHead r.fold head
  pub outer : AreOuter r.fold around r.outer
  pub top : IsFrame r.fold inside r.top
  pub pending : IsPending r r.place rest
  pub start : IsStart r.fold r.place w

-- the open groups, as the machine counts them
abbrev pub is_behind_opening : Place → Bool
is_behind_opening (Opened first) = true
is_behind_opening (Marked first) = true
is_behind_opening Flagging = true
is_behind_opening p = false

-- how many groups are open
abbrev pub depth : Reader → ℕ
depth r = cond (is_behind_opening r.place) (suc (length r.outer)) (length r.outer)

-- ---- steps

-- two made terms put together
pub record Joins (by : Term → Term → Term) (first second result : Made) : Type 0 where
  pub positions : result.positions ≡ kept (first.positions + second.positions)
  pub term : (t u : Term) → Stands first.term t first.positions → Stands second.term u second.positions → Stands result.term (by t u) result.positions

-- the machine moves so, and the reader holds one more byte
abbrev pub IsStepTo : Moved → Reader → ℕ → Option Reader → Type 0
IsStepTo m r b None = m ≡ None
IsStepTo m r b (Some s) = (m ≡ Some (depth s, s.place)) × ((w : List ℕ) → Reads r w → Reads s (w ++ b ∷ []))

-- the reader goes on so with the byte
abbrev pub IsStep : Reader → ℕ → Option Reader → Type 0
IsStep r b o = IsStepTo (next (depth r) r.place b) r b o

-- the atom as often as said
pub record Repeats (q : Times) (atom result : Made) : Type 0 where
  pub positions : result.positions ≡ multiplied q atom.positions
  pub term : (t : Term) → Stands atom.term t atom.positions → Stands result.term (repeated q t) result.positions

-- the set of a class from the bytes of its items
abbrev pub IsClosed : Bool → ByteSet → ByteSet → Type 0
IsClosed false s r = r ≡ s
IsClosed true s r = IsSetBy (holds (Without s)) r

-- a reader that holds nothing of the pattern's body
abbrev pub IsNew : Bool → Place → Reader → Type 0
IsNew f p r =
    (m : Made) × (n : Bool) × (t : ByteSet) × (r ≡ record { fold = f; outer = []; top = no_frame; pending = m; negated = n; set = t; place = p })

-- what was pending is a piece of the choice
abbrev pub IsAdded : Reader → Reader → Type 0
IsAdded r s =
    (m : Made) × (s ≡ record r { top = record { branches = r.top.branches; pieces = r.top.pieces ++ r.pending ∷ [] }; pending = m; place = Ready })

-- a group was opened
abbrev pub IsOpened : Reader → Reader → Type 0
IsOpened r s = s ≡ record r { outer = r.outer ++ r.top ∷ []; top = no_frame; place = Ready }

-- the innermost group was closed
abbrev pub IsLeft : Reader → Reader → Type 0
IsLeft r s =
    (frs : List Frame) × (fr : Frame) × (m : Made) × (r.outer ≡ frs ++ fr ∷ []) × ((f : Bool) (w : List ℕ) → IsFrame f w r.top → IsMade Alts f w m)
    × (s ≡ record r { outer = frs; top = fr; pending = m; place = Atomic })

-- the last alternative was ended
abbrev pub IsBarred : Reader → Reader → Type 0
IsBarred r s =
    (m : Made) × ((f : Bool) (w : List ℕ) → ArePieces f w r.top.pieces → IsMade Cats f w m)
    × (s ≡ record r { top = record { branches = r.top.branches ++ m ∷ []; pieces = [] }; place = Ready })

-- the atom comes as often as said
abbrev pub IsQuantified : Times → Reader → Reader → Type 0
IsQuantified q r s = (m : Made) × Repeats q r.pending m × (s ≡ record r { pending = m; place = Counted })

-- nothing is pending, and the same was read
pub record IsSettled (r s : Reader) : Type 0 where
  pub place : s.place ≡ Ready
  pub deep : length s.outer ≡ depth r
  pub reads : (w : List ℕ) → Reads r w → Reads s w

-- ---- results

-- what a text is: a pattern with its term, or at fault
abbrev pub IsWhole : List ℕ → Made → Type 0
IsWhole w m = (t : Term) × IsPattern w t m.positions × Stands m.term t m.positions
