-- The machine that recognises patterns: how a byte leads from one place to the next.
use Rattle.std.specs.Prelude.{◌≡◌, ℕ, zero, suc, ◌+◌, Bool, true, false, ◌&&◌, ◌||◌, not, cond, nat_lt, ◌==◌, List, [], ◌∷◌, Option, Some, None}
use Rattle.rx_parse.specs.Kinds.{is_any, is_digit, is_punct, is_set_letter, kind_of, reaches, digit_next}
use Rattle.rx_parse.specs.declared.place.Kind.{Kind}
use Rattle.rx_parse.specs.declared.place.Kind.TheVariants.{Literal, Dot, Backslash, Bracket, Opening, Closing, Bar, Asterisk, Plus, Question, Brace, Caret, Dollar, Foreign}
use Rattle.rx_parse.specs.declared.place.Class.{Class}
use Rattle.rx_parse.specs.declared.place.Class.TheVariants.{Fresh, Negated, Single, Item, Ranged, Dashed, Slashed, RangeSlashed}
use Rattle.rx_parse.specs.declared.place.Braces.{Braces}
use Rattle.rx_parse.specs.declared.place.Braces.TheVariants.{Least, Most}
use Rattle.rx_parse.specs.declared.place.Place.{Place}
use Rattle.rx_parse.specs.declared.place.Place.TheVariants.{Begin, Begun, Ready, Atomic, Counted, Ended, Escaped, Opened, Marked, Flagging, InClass, InBraces}

-- ---- classes: None is the end of the class

-- the open groups and the place, or none where the run has died
abbrev pub Moved : Type 0
Moved = Option (ℕ × Place)

-- on to the place, if the test holds
abbrev pub only : Bool → ℕ → Place → Moved
only c d p = cond c (Some (d, p)) None

-- a byte that begins a new item; `bare` says that the byte before is a bare `[`
abbrev pub item : Bool → ℕ → ℕ → Moved
item bare d b =
    cond (b == 92) (Some (d, InClass Slashed)) (only (is_any b && not (bare && b == 58)) d (InClass (Single b (b == 91))))

-- a byte in a class
abbrev pub class_next : ℕ → Class → ℕ → Moved
class_next d Fresh b =
    cond (b == 94) (Some (d, InClass Negated)) (cond (b == 45) (Some (d, InClass (Item false))) (item false d b))
class_next d Negated b = cond (b == 45) (Some (d, InClass (Item false))) (item false d b)
class_next d (Single a bare) b =
    cond (b == 93) (Some (d, Atomic)) (cond (b == 45) (Some (d, InClass (Ranged a))) (item bare d b))
class_next d (Item bare) b =
    cond (b == 93) (Some (d, Atomic)) (cond (b == 45) (Some (d, InClass Dashed)) (item bare d b))
class_next d (Ranged a) b =
    cond (b == 93) (Some (d, Atomic))
    (cond (b == 92) (Some (d, InClass (RangeSlashed a))) (only (is_any b && (not (b == 45) && nat_lt a (b + 1))) d (InClass (Item (b == 91)))))
class_next d Dashed b = only (b == 93) d Atomic
class_next d Slashed b = cond (is_punct b) (Some (d, InClass (Single b false))) (only (is_set_letter b) d (InClass (Item false)))
class_next d (RangeSlashed a) b = only (is_punct b && nat_lt a (b + 1)) d (InClass (Item false))

-- ---- braces

-- a byte in braces
abbrev pub braces_next : ℕ → Braces → ℕ → Moved
braces_next d (Least k v) b =
    cond (is_digit b) (only (nat_lt k 3 && nat_lt (digit_next v b) 256) d (InBraces (Least (k + 1) (digit_next v b))))
    (cond (b == 44 && nat_lt 0 k) (Some (d, InBraces (Most v 0 0))) (only (b == 125 && nat_lt 0 k) d Counted))
braces_next d (Most n k v) b =
    cond (is_digit b) (only (nat_lt k 3 && reaches n (k + 1) (digit_next v b)) d (InBraces (Most n (k + 1) (digit_next v b))))
    (only (b == 125 && (k == 0 || nat_lt n (v + 1))) d Counted)

-- ---- the whole machine

-- a byte where a piece may begin, by its kind, with d groups open
abbrev pub plain_next : ℕ → Kind → Moved
plain_next d Literal = Some (d, Atomic)
plain_next d Dot = Some (d, Atomic)
plain_next d Backslash = Some (d, Escaped)
plain_next d Bracket = Some (d, InClass Fresh)
plain_next d Opening = Some (suc d, Opened false)
plain_next zero Closing = None
plain_next (suc d) Closing = Some (d, Atomic)
plain_next d Bar = Some (d, Ready)
plain_next d Asterisk = None
plain_next d Plus = None
plain_next d Question = None
plain_next d Brace = None
plain_next d Caret = None
plain_next zero Dollar = Some (zero, Ended)
plain_next (suc d) Dollar = None
plain_next d Foreign = None

-- at the start of the text
abbrev pub begin_next : ℕ → Kind → Moved
begin_next d Opening = Some (suc d, Opened true)
begin_next d Caret = Some (zero, Ready)
begin_next d k = plain_next d k

-- right behind the flag
abbrev pub begun_next : ℕ → Kind → Moved
begun_next d Caret = Some (zero, Ready)
begun_next d k = plain_next d k

-- behind an atom
abbrev pub atom_next : ℕ → Kind → Moved
atom_next d Asterisk = Some (d, Counted)
atom_next d Plus = Some (d, Counted)
atom_next d Question = Some (d, Counted)
atom_next d Brace = Some (d, InBraces (Least 0 0))
atom_next d k = plain_next d k

-- behind a quantifier
abbrev pub counted_next : ℕ → Kind → Moved
counted_next d Question = Some (d, Ready)
counted_next d k = plain_next d k

-- behind `(`
abbrev pub opened_next : Bool → ℕ → Kind → Moved
opened_next first d Question = Some (d, Marked first)
opened_next first d k = plain_next d k

-- where a byte leads from a place with d groups open: the groups then open and the place
abbrev pub next : ℕ → Place → ℕ → Moved
next d Begin b = begin_next d (kind_of b)
next d Begun b = begun_next d (kind_of b)
next d Ready b = plain_next d (kind_of b)
next d Atomic b = atom_next d (kind_of b)
next d Counted b = counted_next d (kind_of b)
next d Ended b = None
next d Escaped b = only (is_punct b || is_set_letter b) d Atomic
next d (Opened first) b = opened_next first d (kind_of b)
next d (Marked first) b = cond (b == 58) (Some (d, Ready)) (only (first && b == 105) d Flagging)
next d Flagging b = only (b == 41) zero Begun
next d (InClass c) b = class_next d c b
next d (InBraces c) b = braces_next d c b

-- where a text leads
abbrev pub run : Moved → List ℕ → Moved
run m [] = m
run None (b ∷ w) = None
run (Some s) (b ∷ w) = run (next s.0 s.1 b) w

-- a piece may begin here
abbrev pub IsOpen : Place → Type 0
IsOpen Begin = Unit {0}
IsOpen Begun = Unit {0}
IsOpen Ready = Unit {0}
IsOpen Atomic = Unit {0}
IsOpen Counted = Unit {0}
IsOpen (Opened first) = Unit {0}
IsOpen p = ⊥

-- the whole text may end here
abbrev pub is_end : Place → Bool
is_end Begin = true
is_end Begun = true
is_end Ready = true
is_end Atomic = true
is_end Counted = true
is_end Ended = true
is_end p = false

-- the whole text may end so
abbrev pub IsAccepted : Moved → Type 0
IsAccepted m = (p : Place) × (m ≡ Some (zero, p)) × (is_end p ≡ true)

-- the start of each run
abbrev pub begins : Moved
begins = Some (zero, Begin)
