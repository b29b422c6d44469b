-- The reader reads a text, and what it holds where a piece may begin.
use Rattle.std.proofs.Common.{◌≡◌, ℕ, Bool, true, false, List, [], ◌∷◌, ◌++◌, Option, Some, None, refl, sym, ◌∙◌, ap}
use Rattle.rx_term.specs.declared.sets.ByteSet.{ByteSet}
use Rattle.rx_term.specs.declared.terms.Term.{Term}
use Rattle.rx_parse.specs.declared.made.Made.{Made}
use Rattle.rx_parse.specs.declared.made.Frame.{Frame}
use Rattle.rx_parse.specs.declared.reader.Reader.{Reader}
use Rattle.rx_parse.specs.declared.place.Kind.{Kind}
use Rattle.rx_parse.specs.declared.place.Kind.TheVariants.{Literal, Dot, Backslash, Bracket, Closing, Bar, Dollar}
use Rattle.rx_parse.specs.declared.place.Place.{Place}
use Rattle.rx_parse.specs.declared.place.Place.TheVariants.{Begin, Begun, Ready, Atomic, Counted, Ended, Escaped, Opened, Marked, Flagging, InClass, InBraces}
use Rattle.rx_parse.specs.Kinds.{kind_of}
use Rattle.rx_parse.specs.Answer.{at_place, added, opened_group, plain_of, begin_of, begun_of, atomic_of, counted_of, opened_of, step_of}
use Rattle.rx_parse.proofs.Machine.{IsOpen}
use Rattle.rx_parse.proofs.Held.{Stands}

-- ---- whole texts

-- the reader behind the text, or none where no pattern goes on so
abbrev pub read : Option Reader → List ℕ → Option Reader
read o [] = o
read None (b ∷ w) = None
read (Some r) (b ∷ w) = read (step_of r.place r b) w

read_none : (w : List ℕ) → read None w ≡ None
read_none [] = refl
read_none (b ∷ w) = refl

pub read_append : (v z : List ℕ) (o : Option Reader) → read o (v ++ z) ≡ read (read o v) z
read_append [] z o = refl
read_append (b ∷ v) z None = sym (read_none z)
read_append (b ∷ v) z (Some r) = read_append v z (step_of r.place r b)

-- a text and then another one
pub read_through : (v z : List ℕ) (o p q : Option Reader) → read o v ≡ p → read p z ≡ q → read o (v ++ z) ≡ q
read_through v z o p q e h = read_append v z o ∙ (ap (λ x. read x z) e ∙ h)

-- ---- readers by their parts

-- the reader that holds this
abbrev pub held : Bool → List Frame → Frame → Made → Bool → ByteSet → Place → Reader
held f o fr m n u p = record { fold = f; outer = o; top = fr; pending = m; negated = n; set = u; place = p }

-- what the part stands for
abbrev pub IsFor : Made → Term → ℕ → Type 0
IsFor m t k = (m.positions ≡ k) × Stands m.term t k

-- the reader where a new piece begins: what is pending is a piece, and a group that was opened is the choice
abbrev pub settled : Place → Reader → Reader
settled Atomic r = added r
settled Counted r = added r
settled (Opened first) r = opened_group r
settled p r = at_place r Ready

-- a piece may begin, in this choice
abbrev pub Awaits : Bool → List Frame → Frame → Reader → Type 0
Awaits f o fr r = IsOpen r.place × (m : Made) × (n : Bool) × (u : ByteSet) × (settled r.place r ≡ held f o fr m n u Ready)

-- ---- bytes that lead on as from any place where a piece may begin

abbrev IsPlainly : Kind → Type 0
IsPlainly k =
    (r : Reader) (b : ℕ) → (begin_of r b k ≡ plain_of (at_place r Ready) b k) × (begun_of r b k ≡ plain_of (at_place r Ready) b k) × (atomic_of r b k ≡ plain_of (added r) b k)
    × (counted_of r b k ≡ plain_of (added r) b k) × ((first : Bool) → opened_of first r b k ≡ plain_of (opened_group r) b k)

at_open : (p : Place) (r : Reader) (b : ℕ) (k : Kind) → IsOpen p → r.place ≡ p → kind_of b ≡ k → IsPlainly k → step_of p r b ≡ plain_of (settled p r) b k
at_open Begin r b k o h e g = ap (begin_of r b) e ∙ (g r b).0
at_open Begun r b k o h e g = ap (begun_of r b) e ∙ (g r b).1
at_open Ready r b k o h e g = ap (plain_of r b) e ∙ ap (λ p. plain_of (at_place r p) b k) h
at_open Atomic r b k o h e g = ap (atomic_of r b) e ∙ (g r b).2
at_open Counted r b k o h e g = ap (counted_of r b) e ∙ (g r b).3
at_open (Opened first) r b k o h e g = ap (opened_of first r b) e ∙ (g r b).4 first
at_open Ended r b k o h e g = absurd o
at_open Escaped r b k o h e g = absurd o
at_open (Marked first) r b k o h e g = absurd o
at_open Flagging r b k o h e g = absurd o
at_open (InClass c) r b k o h e g = absurd o
at_open (InBraces c) r b k o h e g = absurd o

-- from where a piece may begin the byte leads to this
abbrev pub LeadsTo : Bool → List Frame → Frame → Reader → List ℕ → (Made → Bool → ByteSet → Option Reader) → Type 0
LeadsTo f o fr r w to = (m : Made) × (n : Bool) × (u : ByteSet) × (read (Some r) w ≡ to m n u)

plainly : (f : Bool) (o : List Frame) (fr : Frame) (r : Reader) (b : ℕ) (k : Kind) → Awaits f o fr r → kind_of b ≡ k → IsPlainly k →
    LeadsTo f o fr r (b ∷ []) (λ m n u. plain_of (held f o fr m n u Ready) b k)
plainly f o fr r b k h e g = (h.1, h.2, h.3, at_open r.place r b k h.0 refl e g ∙ ap (λ s. plain_of s b k) h.4)

pub literal_reads : (f : Bool) (o : List Frame) (fr : Frame) (r : Reader) (b : ℕ) → Awaits f o fr r → kind_of b ≡ Literal →
    LeadsTo f o fr r (b ∷ []) (λ m n u. plain_of (held f o fr m n u Ready) b Literal)
literal_reads f o fr r b h e = plainly f o fr r b Literal h e (λ s x. (refl, refl, refl, refl, λ first. refl))

pub dot_reads : (f : Bool) (o : List Frame) (fr : Frame) (r : Reader) → Awaits f o fr r → LeadsTo f o fr r (46 ∷ []) (λ m n u. plain_of (held f o fr m n u Ready) 46 Dot)
dot_reads f o fr r h = plainly f o fr r 46 Dot h refl (λ s x. (refl, refl, refl, refl, λ first. refl))

pub slash_reads : (f : Bool) (o : List Frame) (fr : Frame) (r : Reader) → Awaits f o fr r → LeadsTo f o fr r (92 ∷ []) (λ m n u. Some (held f o fr m n u Escaped))
slash_reads f o fr r h = plainly f o fr r 92 Backslash h refl (λ s x. (refl, refl, refl, refl, λ first. refl))

pub bracket_reads : (f : Bool) (o : List Frame) (fr : Frame) (r : Reader) → Awaits f o fr r → LeadsTo f o fr r (91 ∷ []) (λ m n u. plain_of (held f o fr m n u Ready) 91 Bracket)
bracket_reads f o fr r h = plainly f o fr r 91 Bracket h refl (λ s x. (refl, refl, refl, refl, λ first. refl))

pub bar_reads : (f : Bool) (o : List Frame) (fr : Frame) (r : Reader) → Awaits f o fr r → LeadsTo f o fr r (124 ∷ []) (λ m n u. plain_of (held f o fr m n u Ready) 124 Bar)
bar_reads f o fr r h = plainly f o fr r 124 Bar h refl (λ s x. (refl, refl, refl, refl, λ first. refl))

pub closing_reads : (f : Bool) (o : List Frame) (fr : Frame) (r : Reader) → Awaits f o fr r → LeadsTo f o fr r (41 ∷ []) (λ m n u. plain_of (held f o fr m n u Ready) 41 Closing)
closing_reads f o fr r h = plainly f o fr r 41 Closing h refl (λ s x. (refl, refl, refl, refl, λ first. refl))

pub dollar_reads : (f : Bool) (o : List Frame) (fr : Frame) (r : Reader) → Awaits f o fr r → LeadsTo f o fr r (36 ∷ []) (λ m n u. plain_of (held f o fr m n u Ready) 36 Dollar)
dollar_reads f o fr r h = plainly f o fr r 36 Dollar h refl (λ s x. (refl, refl, refl, refl, λ first. refl))

-- a group that is opened, at any such place
opening_at : (p : Place) (r : Reader) → IsOpen p → r.place ≡ p → (first : Bool) × (step_of p r 40 ≡ Some (at_place (settled p r) (Opened first)))
opening_at Begin r o h = (true, refl)
opening_at Begun r o h = (false, refl)
opening_at Ready r o h = (false, refl)
opening_at Atomic r o h = (false, refl)
opening_at Counted r o h = (false, refl)
opening_at (Opened first) r o h = (false, refl)
opening_at Ended r o h = absurd o
opening_at Escaped r o h = absurd o
opening_at (Marked first) r o h = absurd o
opening_at Flagging r o h = absurd o
opening_at (InClass c) r o h = absurd o
opening_at (InBraces c) r o h = absurd o

pub opening_reads : (f : Bool) (o : List Frame) (fr : Frame) (r : Reader) → Awaits f o fr r →
    (first : Bool) × LeadsTo f o fr r (40 ∷ []) (λ m n u. Some (held f o fr m n u (Opened first)))
opening_reads f o fr r h =
    let s = opening_at r.place r h.0 refl in
    (s.0, (h.1, h.2, h.3, s.1 ∙ ap (λ x. Some (at_place x (Opened s.0))) h.4))
