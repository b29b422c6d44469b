-- The answer on a text, computed byte by byte. That it is the grammar's answer is a law of its own.
use Rattle.std.specs.Prelude.{◌≡◌, ◌≢◌, ℕ, ◌+◌, ◌≤◌, Bool, true, false, ◌&&◌, not, cond, nat_lt, ◌==◌, List, [], ◌∷◌, ◌++◌, Option, Some, None, Ok, Err}
use Rattle.rx_term.specs.declared.sets.ByteSet.{ByteSet}
use Rattle.rx_term.specs.declared.terms.Term.{Term, Empty, One}
use Rattle.rx_term.specs.Term.{cat, alt}
use Rattle.rx_term.specs.Pattern.{kept, row, repeated, multiplied, Times, Many, Plenty, Maybe, Exactly, AtLeast, Between}
use Rattle.rx_parse.specs.declared.fault.RxFault.{RxFault}
use Rattle.rx_parse.specs.declared.fault.RxFault.TheVariants.{Syntax, NotInSubset, TooLarge, OutOfMemory}
use Rattle.rx_parse.specs.declared.bytes.Bytes.{Bytes}
use Rattle.rx_parse.specs.declared.bytes.Bytes.TheVariants.{Any, Range, Escape, Both, Without}
use Rattle.rx_parse.specs.declared.made.Made.{Made}
use Rattle.rx_parse.specs.declared.made.Frame.{Frame}
use Rattle.rx_parse.specs.declared.made.Often.{Often}
use Rattle.rx_parse.specs.declared.made.Often.TheVariants.{Star, Plus as PlusCode, Optional}
use Rattle.rx_parse.specs.declared.made.Often.TheVariants.{Exactly as ExactlyCode, AtLeast as AtLeastCode, Between as BetweenCode}
use Rattle.rx_parse.specs.declared.reader.Reader.{Reader}
use Rattle.rx_parse.specs.declared.place.Kind.{Kind}
use Rattle.rx_parse.specs.declared.place.Kind.TheVariants.{Literal, Dot, Backslash, Bracket, Opening, Closing, Bar, Asterisk, Plus, Question, Brace, Caret, Dollar, Foreign}
use Rattle.rx_parse.specs.declared.place.Class.{Class}
use Rattle.rx_parse.specs.declared.place.Class.TheVariants.{Fresh, Negated, Single, Item, Ranged, Dashed, Slashed, RangeSlashed}
use Rattle.rx_parse.specs.declared.place.Braces.{Braces}
use Rattle.rx_parse.specs.declared.place.Braces.TheVariants.{Least, Most}
use Rattle.rx_parse.specs.declared.place.Place.{Place}
use Rattle.rx_parse.specs.declared.place.Place.TheVariants.{Begin, Begun, Ready, Atomic, Counted, Ended, Escaped, Opened, Marked, Flagging, InClass, InBraces}
use Rattle.rx_parse.specs.Kinds.{is_any, is_digit, is_punct, is_set_letter, kind_of, reaches, digit_next}
use Rattle.rx_parse.specs.Sets.{holds, filled}
use Rattle.rx_parse.specs.Results.{Answer, is_outside}

-- ---- terms with their positions

-- one byte of the set
abbrev pub made_one : ByteSet → Made
made_one s = record { term = Some (One s); positions = 1 }

-- the empty set
abbrev pub no_bytes : ByteSet
no_bytes = record { 0 = 0 }

-- a choice of which nothing was read
abbrev pub no_frame : Frame
no_frame = record { branches = []; pieces = [] }

-- the set of these bytes
unfoldable pub set_with : Bytes → ByteSet
set_with bytes = record { 0 = filled (holds bytes) 128 }

-- what the empty text spells
abbrev pub empty_made : Made
empty_made = record { term = Some Empty; positions = 1 }

-- two terms put together, if both were made
abbrev pub both_terms : (Term → Term → Term) → Option Term → Option Term → Option Term
both_terms by (Some t) (Some u) = Some (by t u)
both_terms by t u = None

-- two parts put together
abbrev pub joined : (Term → Term → Term) → Made → Made → Made
joined by m n = record { term = both_terms by m.term n.term; positions = kept (m.positions + n.positions) }

-- pieces in a row
abbrev pub row_made : List Made → Made
row_made [] = empty_made
row_made (m ∷ []) = m
row_made (m ∷ n ∷ ms) = joined cat m (row_made (n ∷ ms))

-- alternatives, and the last one
abbrev pub choice_made : List Made → Made → Made
choice_made [] last = last
choice_made (m ∷ ms) last = joined alt m (choice_made ms last)

-- what a choice spells
abbrev pub frame_made : Frame → Made
frame_made fr = choice_made fr.branches (row_made fr.pieces)

-- the term so often; of one that is too large to be made there can only be no copies, which are the empty text
abbrev pub often_term : Times → Option Term → Term
often_term q (Some t) = repeated q t
often_term q None = Empty

-- the atom so often, made only where it isn't too large
abbrev pub often_made : Times → Made → Made
often_made q m =
    record { term = cond (nat_lt 4000 (multiplied q m.positions)) None (Some (often_term q m.term)); positions = multiplied q m.positions }

-- how often an atom comes, in the words of the grammar
abbrev pub times_of : Often → Times
times_of Star = Many
times_of PlusCode = Plenty
times_of Optional = Maybe
times_of (ExactlyCode n) = Exactly n
times_of (AtLeastCode n) = AtLeast n
times_of (BetweenCode n m) = Between n m

-- the least number isn't above the greatest
abbrev pub IsOrdered : Often → Type 0
IsOrdered (BetweenCode n m) = n ≤ m
IsOrdered often = Unit {0}

-- none for no terms, else the terms in a row
abbrev pub IsRow : Option Term → List Term → Type 0
IsRow None ts = ts ≡ []
IsRow (Some u) ts = (ts ≢ []) × (u ≡ row ts)

-- ---- what a reader becomes

-- the same reader at another place
abbrev pub at_place : Reader → Place → Reader
at_place r p = record r { place = p }

-- a reader that holds nothing of the pattern's body
abbrev pub new_reader : Bool → Place → Reader
new_reader f p = record { fold = f; outer = []; top = no_frame; pending = made_one no_bytes; negated = false; set = no_bytes; place = p }

-- behind an atom of these bytes
abbrev pub behind_atom : Reader → Bytes → Reader
behind_atom r bytes = record r { pending = made_one (set_with bytes); place = Atomic }

-- what is pending is a piece of the choice
abbrev pub added : Reader → Reader
added r = record r { top = record { branches = r.top.branches; pieces = r.top.pieces ++ r.pending ∷ [] }; pending = made_one no_bytes; place = Ready }

-- in a group that was opened
abbrev pub opened_group : Reader → Reader
opened_group r = record r { outer = r.outer ++ r.top ∷ []; top = no_frame; place = Ready }

-- the list without its last element, and that element
abbrev pub split_last : Frame → List Frame → List Frame × Frame
split_last x [] = ([], x)
split_last x (y ∷ ys) = (x ∷ (split_last y ys).0, (split_last y ys).1)

-- behind the innermost group, if there is one
abbrev pub left_group : List Frame → Reader → Option Reader
left_group [] r = None
left_group (x ∷ xs) r = Some (record r { outer = (split_last x xs).0; top = (split_last x xs).1; pending = frame_made r.top; place = Atomic })

-- behind a bar
abbrev pub barred : Reader → Reader
barred r = record r { top = record { branches = r.top.branches ++ row_made r.top.pieces ∷ []; pieces = [] }; place = Ready }

-- in a class that begins
abbrev pub begun_class : Reader → Reader
begun_class r = record r { negated = false; set = no_bytes; place = InClass Fresh }

-- behind the last anchor, which stands in no group
abbrev pub ended : List Frame → Reader → Option Reader
ended [] r = Some (at_place r Ended)
ended (x ∷ xs) r = None

-- behind a quantifier
abbrev pub quantified : Times → Reader → Reader
quantified q r = record r { pending = often_made q r.pending; place = Counted }

-- ---- plain text

-- a byte of this kind where a piece may begin
abbrev pub plain_of : Reader → ℕ → Kind → Option Reader
plain_of r b Literal = Some (behind_atom r (Range r.fold b b))
plain_of r b Dot = Some (behind_atom r Any)
plain_of r b Backslash = Some (at_place r Escaped)
plain_of r b Bracket = Some (begun_class r)
plain_of r b Opening = Some (at_place r (Opened false))
plain_of r b Closing = left_group r.outer r
plain_of r b Bar = Some (barred r)
plain_of r b Dollar = ended r.outer r
plain_of r b Asterisk = None
plain_of r b Plus = None
plain_of r b Question = None
plain_of r b Brace = None
plain_of r b Caret = None
plain_of r b Foreign = None

-- a byte of this kind at the start of the text
abbrev pub begin_of : Reader → ℕ → Kind → Option Reader
begin_of r b Opening = Some (at_place r (Opened true))
begin_of r b Caret = Some (new_reader r.fold Ready)
begin_of r b k = plain_of (at_place r Ready) b k

-- right behind the flag
abbrev pub begun_of : Reader → ℕ → Kind → Option Reader
begun_of r b Caret = Some (new_reader r.fold Ready)
begun_of r b k = plain_of (at_place r Ready) b k

-- behind an atom
abbrev pub atomic_of : Reader → ℕ → Kind → Option Reader
atomic_of r b Asterisk = Some (quantified Many r)
atomic_of r b Plus = Some (quantified Plenty r)
atomic_of r b Question = Some (quantified Maybe r)
atomic_of r b Brace = Some (at_place r (InBraces (Least 0 0)))
atomic_of r b k = plain_of (added r) b k

-- behind a quantifier
abbrev pub counted_of : Reader → ℕ → Kind → Option Reader
counted_of r b Question = Some (added r)
counted_of r b k = plain_of (added r) b k

-- behind `(`, which may be the first byte
abbrev pub opened_of : Bool → Reader → ℕ → Kind → Option Reader
opened_of first r b Question = Some (at_place r (Marked first))
opened_of first r b k = plain_of (opened_group r) b k

-- behind `(?`, which may be at the start
abbrev pub marked_of : Bool → Reader → ℕ → Option Reader
marked_of first r b =
    cond (b == 58) (Some (opened_group r)) (cond (first && b == 105) (Some (at_place r Flagging)) None)

-- behind `(?i`
abbrev pub flagging_of : Reader → ℕ → Option Reader
flagging_of r b = cond (b == 41) (Some (new_reader true Begun)) None

-- behind a backslash
abbrev pub escaped_of : Reader → ℕ → Option Reader
escaped_of r b =
    cond (is_punct b) (Some (behind_atom r (Range r.fold b b))) (cond (is_set_letter b) (Some (behind_atom r (Escape b))) None)

-- ---- classes

-- the reader behind the first byte of an item
abbrev pub item_of : Reader → Bool → ℕ → Option Reader
item_of r bare b =
    cond (b == 92) (Some (record r { place = InClass Slashed }))
    (cond (is_any b && not (bare && b == 58)) (Some (record r { place = InClass (Single b (b == 91)) })) None)

-- these bytes belong to the class
abbrev pub with_bytes : Reader → Bytes → Class → Reader
with_bytes r bytes c = record r { set = set_with (Both r.set (set_with bytes)); place = InClass c }

-- the bytes of a class with these items, or of its complement
abbrev pub closed_set : Bool → ByteSet → ByteSet
closed_set true s = set_with (Without s)
closed_set false s = s

-- behind the class
abbrev pub closed_class : Reader → Reader
closed_class r = record r { pending = made_one (closed_set r.negated r.set); place = Atomic }

-- a dash that stands for itself
abbrev pub dash : Bytes
dash = Range false 45 45

-- a byte behind a dash that has to be the last item
abbrev pub dashed_of : Reader → ℕ → Option Reader
dashed_of r b = cond (b == 93) (Some (closed_class (with_bytes r dash Dashed))) None

-- behind an item that begins no range
abbrev pub item_behind : Reader → Bool → ℕ → Option Reader
item_behind r bare b =
    cond (b == 93) (Some (closed_class r)) (cond (b == 45) (Some (at_place r (InClass Dashed))) (item_of r bare b))

-- a byte in a class
abbrev pub class_of : Class → Reader → ℕ → Option Reader
class_of Fresh r b =
    cond (b == 94) (Some (record r { negated = true; place = InClass Negated }))
    (cond (b == 45) (Some (with_bytes r (Range false b b) (Item false))) (item_of r false b))
class_of Negated r b = cond (b == 45) (Some (with_bytes r (Range false b b) (Item false))) (item_of r false b)
class_of (Single a bare) r b =
    cond (b == 45) (Some (at_place r (InClass (Ranged a)))) (item_behind (with_bytes r (Range r.fold a a) (Item bare)) bare b)
class_of (Item bare) r b = item_behind r bare b
class_of (Ranged a) r b =
    cond (b == 93) (dashed_of (with_bytes r (Range r.fold a a) Dashed) b)
    (cond (b == 92) (Some (at_place r (InClass (RangeSlashed a))))
    (cond (is_any b && (not (b == 45) && nat_lt a (b + 1))) (Some (with_bytes r (Range r.fold a b) (Item (b == 91)))) None))
class_of Dashed r b = dashed_of r b
class_of Slashed r b =
    cond (is_punct b) (Some (at_place r (InClass (Single b false)))) (cond (is_set_letter b) (Some (with_bytes r (Escape b) (Item false))) None)
class_of (RangeSlashed a) r b = cond (is_punct b && nat_lt a (b + 1)) (Some (with_bytes r (Range r.fold a b) (Item false))) None

-- ---- braces

-- one more digit
abbrev pub braces_digit : Braces → Reader → ℕ → Option Reader
braces_digit (Least k n) r b = cond (nat_lt k 3 && nat_lt (digit_next n b) 256) (Some (at_place r (InBraces (Least (k + 1) (digit_next n b))))) None
braces_digit (Most n k m) r b = cond (nat_lt k 3 && reaches n (k + 1) (digit_next m b)) (Some (at_place r (InBraces (Most n (k + 1) (digit_next m b))))) None

-- a byte in braces
abbrev pub braces_of : Braces → Reader → ℕ → Option Reader
braces_of (Least k n) r b =
    cond (is_digit b) (braces_digit (Least k n) r b)
    (cond (b == 44 && nat_lt 0 k) (Some (at_place r (InBraces (Most n 0 0)))) (cond (b == 125 && nat_lt 0 k) (Some (quantified (Exactly n) r)) None))
braces_of (Most n k m) r b =
    cond (is_digit b) (braces_digit (Most n k m) r b)
    (cond (b == 125) (cond (k == 0) (Some (quantified (AtLeast n) r)) (cond (nat_lt n (m + 1)) (Some (quantified (Between n m) r)) None)) None)

-- ---- whole texts

-- the reader behind one more byte, or none where no pattern goes on so
abbrev pub step_of : Place → Reader → ℕ → Option Reader
step_of Begin r b = begin_of r b (kind_of b)
step_of Begun r b = begun_of r b (kind_of b)
step_of Ready r b = plain_of r b (kind_of b)
step_of Atomic r b = atomic_of r b (kind_of b)
step_of Counted r b = counted_of r b (kind_of b)
step_of Ended r b = None
step_of Escaped r b = escaped_of r b
step_of (Opened first) r b = opened_of first r b (kind_of b)
step_of (Marked first) r b = marked_of first r b
step_of Flagging r b = flagging_of r b
step_of (InClass c) r b = class_of c r b
step_of (InBraces c) r b = braces_of c r b

-- what the text spells, or none where it is no pattern
abbrev pub whole_at : Place → List Frame → Reader → Option Made
whole_at p (x ∷ xs) r = None
whole_at Begin [] r = Some (frame_made r.top)
whole_at Begun [] r = Some (frame_made r.top)
whole_at Ready [] r = Some (frame_made r.top)
whole_at Atomic [] r = Some (frame_made (added r).top)
whole_at Counted [] r = Some (frame_made (added r).top)
whole_at Ended [] r = Some (frame_made r.top)
whole_at p [] r = None

-- the term, if it was made
abbrev pub term_or : Option Term → ℕ → Answer
term_or (Some t) k = Ok t
term_or None k = Err (TooLarge k)

-- what a text is that spells this
abbrev pub made_answer : Made → Answer
made_answer m = cond (nat_lt 4000 m.positions) (Err (TooLarge m.positions)) (term_or m.term m.positions)

-- the answer at the end of a text of n bytes
abbrev pub end_of : Option Made → ℕ → Answer
end_of (Some m) n = made_answer m
end_of None n = Err (Syntax n)

-- the fault of a text whose front of n bytes ends at the place and doesn't go on with the byte
abbrev pub fault_at : Place → ℕ → ℕ → RxFault
fault_at p b n = cond (is_outside p b) (NotInSubset n) (Syntax n)

-- the answer behind a byte: the fault, or what the next reader goes on to
abbrev pub onward : Option Reader → RxFault → (Reader → Answer) → Answer
onward None e go = Err e
onward (Some r) e go = go r

-- the answer of a reader of n bytes that goes on with the text
abbrev pub answer_from : List ℕ → Reader → ℕ → Answer
answer_from [] r n = end_of (whole_at r.place r.outer r) n
answer_from (b ∷ w) r n = onward (step_of r.place r b) (fault_at r.place b n) (λ s. answer_from w s (n + 1))

-- what the code tells is the answer, but for want of memory
abbrev pub Tells : Answer → Answer → Type 0
Tells (Err OutOfMemory) a = Unit {0}
Tells x a = x ≡ a

-- the answer on a text: its term, or its fault
unfoldable pub answer : List ℕ → Answer
answer w = answer_from w (new_reader false Begin) 0
