-- The parts that the reader makes stand for the terms that the grammar spells.
use Rattle.std.proofs.Common.{◌≡◌, ◌≢◌, ℕ, ◌+◌, List, [], ◌∷◌, refl, sym, ◌∙◌, ap, subst}
use Rattle.rx_term.specs.declared.sets.ByteSet.{ByteSet}
use Rattle.rx_term.specs.declared.terms.Term.{Term, One}
use Rattle.rx_term.specs.Term.{cat}
use Rattle.rx_term.specs.Pattern.{IsSetOf, kept, repeated, multiplied, IsTimes, Times}
use Rattle.rx_term.specs.Pattern.IsTimes.{many, plenty, maybe, exactly, at_least, between}
use Rattle.rx_parse.specs.declared.made.Made.{Made}
use Rattle.rx_parse.specs.Answer.{made_one, joined, row_made, often_made}
use Rattle.rx_parse.proofs.Held.{Stands}
use Rattle.rx_parse.proofs.Terms.{InOrder}
use Rattle.rx_parse.proofs.Exact.{joined_joins, often_repeats}
use Rattle.rx_unique.proofs.Sets.{one_set}
use Rattle.rx_unique.proofs.Reading.{IsFor}

-- one byte of the set
pub one_for : (P : ℕ → Type 0) (s set : ByteSet) → IsSetOf P s → IsSetOf P set → IsFor (made_one s) (One set) 1
one_for P s set h g = (refl, ap One (one_set P P s set h g (λ b x. x) (λ b x. x)))

stands_at : (m : Made) (t : Term) (k : ℕ) → IsFor m t k → Stands m.term t m.positions
stands_at m t k h = subst (Stands m.term t) (sym h.0) h.1

pub joined_for : (by : Term → Term → Term) (m n : Made) (t u : Term) (j k : ℕ) → IsFor m t j → IsFor n u k → IsFor (joined by m n) (by t u) (kept (j + k))
joined_for by m n t u j k h g =
    let e : kept (m.positions + n.positions) ≡ kept (j + k) = ap (λ x. kept (x + n.positions)) h.0 ∙ ap (λ x. kept (j + x)) g.0 in
    (e, subst (Stands (joined by m n).term (by t u)) e ((joined_joins by m n).term t u (stands_at m t j h) (stands_at n u k g)))

-- one more piece in front
pub row_for : (m : Made) (ms : List Made) (t u : Term) (j k : ℕ) → IsFor m t j → IsFor (row_made ms) u k → ms ≢ [] → IsFor (row_made (m ∷ ms)) (cat t u) (kept (j + k))
row_for m [] t u j k h g n = absurd (n refl)
row_for m (x ∷ ms) t u j k h g n = joined_for cat m (row_made (x ∷ ms)) t u j k h g

in_order : (w : List ℕ) (q : Times) → IsTimes w q → InOrder q
in_order w q many = tt
in_order w q plenty = tt
in_order w q maybe = tt
in_order w q (exactly v e h) = tt
in_order w q (at_least v e h) = tt
in_order w q (between v z e h k l) = l

-- the atom so often as the quantifier says
pub often_for : (w : List ℕ) (q : Times) (m : Made) (t : Term) (k : ℕ) → IsTimes w q → IsFor m t k → IsFor (often_made q m) (repeated q t) (multiplied q k)
often_for w q m t k i h =
    let r = often_repeats q m (in_order w q i) in
    let e = ap (multiplied q) h.0 in
    (e, subst (Stands (often_made q m).term (repeated q t)) e (r.term t (stands_at m t k h)))
