-- Terms as definitions match on them, their byte sets and their nodes.
use Rattle.std.specs.Prelude.{ℕ, ◌+◌, ◌/◌, ◌%◌, ◌^◌, Bool, ◌&&◌, nat_lt, ◌==◌}
use Rattle.rx_term.specs.declared.sets.ByteSet.{ByteSet}
use Rattle.rx_term.specs.declared.terms.Term.{Term, Nothing, Empty, One, Cat', Alt', Star', end_of-Term, more_of-Term}

-- a row of two terms, as a pattern; `p` and `q` are the shapes of the boxes and say nothing
pattern abbrev pub row_of : Unit {0} → Term → Unit {0} → Term → Term
row_of p s q u = Cat' p (more_of-Term s end_of-Term) q (more_of-Term u end_of-Term)

-- a choice of two terms, as a pattern
pattern abbrev pub choice_of : Unit {0} → Term → Unit {0} → Term → Term
choice_of p s q u = Alt' p (more_of-Term s end_of-Term) q (more_of-Term u end_of-Term)

-- the iteration of a term, as a pattern
pattern abbrev pub star_of : Unit {0} → Term → Term
star_of p s = Star' p (more_of-Term s end_of-Term)

-- a row of two terms
abbrev pub cat : Term → Term → Term
cat s u = row_of tt s tt u

-- a choice of two terms
abbrev pub alt : Term → Term → Term
alt s u = choice_of tt s tt u

-- the iteration of a term
abbrev pub star : Term → Term
star s = star_of tt s

-- the byte is in the set: it is below 128 and its bit is set
abbrev pub has_byte : ByteSet → ℕ → Bool
has_byte set b = nat_lt b 128 && (set.0 / 2 ^ b % 2 == 1)

-- the number of nodes: one, and those of the parts
abbrev pub nodes : Term → ℕ
nodes Nothing = 1
nodes Empty = 1
nodes (One s) = 1
nodes (row_of p s q u) = nodes s + nodes u + 1
nodes (choice_of p s q u) = nodes s + nodes u + 1
nodes (star_of p s) = nodes s + 1
