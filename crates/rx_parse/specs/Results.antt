-- What a text is: a pattern with its term, or at fault.
use Rattle.std.specs.Prelude.{ℕ, ◌≤◌, ◌<◌, Bool, true, false, ◌||◌, ◌==◌, List, Result, Ok, Err}
use Rattle.rx_term.specs.declared.terms.Term.{Term}
use Rattle.rx_term.specs.Pattern.{IsPattern, IsFaultAt, IsOutside}
use Rattle.rx_parse.specs.declared.fault.RxFault.{RxFault}
use Rattle.rx_parse.specs.declared.fault.RxFault.TheVariants.{Syntax, NotInSubset, TooLarge, OutOfMemory}
use Rattle.rx_parse.specs.declared.place.Class.TheVariants.{Slashed, RangeSlashed}
use Rattle.rx_parse.specs.declared.place.Place.{Place}
use Rattle.rx_parse.specs.declared.place.Place.TheVariants.{Escaped, Marked, Flagging, InClass, InBraces}

-- a term, or a fault
abbrev pub Answer : Type 0
Answer = Result Term RxFault

-- what a fault says of the text; want of memory is none
abbrev pub Explains : List ℕ → RxFault → Type 0
Explains w (Syntax a) = IsFaultAt w a × (IsOutside w a → ⊥)
Explains w (NotInSubset a) = IsFaultAt w a × IsOutside w a
Explains w (TooLarge k) = (t : Term) × IsPattern w t k × (4000 < k)
Explains w OutOfMemory = ⊥

-- the term of the text, which has no more positions than are allowed
abbrev pub IsParsed : List ℕ → Term → Type 0
IsParsed w t = (k : ℕ) × IsPattern w t k × (k ≤ 4000)

-- what may be told of the text
abbrev pub IsAnswer : List ℕ → Answer → Type 0
IsAnswer w (Ok t) = IsParsed w t
IsAnswer w (Err e) = Explains w e

-- what the code may tell: an answer, or that memory is wanted
abbrev pub IsTold : List ℕ → Answer → Type 0
IsTold w (Err OutOfMemory) = Unit {0}
IsTold w x = IsAnswer w x

-- a fault behind the place is of a form that lies outside of the subset
abbrev pub is_beyond : Place → Bool
is_beyond Escaped = true
is_beyond (Marked first) = true
is_beyond Flagging = true
is_beyond (InBraces c) = true
is_beyond (InClass Slashed) = true
is_beyond (InClass (RangeSlashed a)) = true
is_beyond p = false

-- the fault at the byte behind the place is of a form that lies outside of the subset
abbrev pub is_outside : Place → ℕ → Bool
is_outside p b = is_beyond p || (b == 94 || (b == 36 || b == 58))
