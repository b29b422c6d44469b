-- Where a byte isn't special to a place, it is read as one where a piece may begin.
use Rattle.std.proofs.Common.{◌≡◌, ◌≢◌, ℕ, [], ◌∷◌, length, Option, Some, None, MatchOption, sym, ◌∙◌, ap, subst}
use Rattle.rx_parse.specs.declared.reader.Reader.{Reader}
use Rattle.rx_parse.specs.declared.place.Kind.TheVariants.{Closing, Asterisk, Plus, Question, Dollar}
use Rattle.rx_parse.specs.declared.place.Place.{Place}
use Rattle.rx_parse.specs.declared.place.Place.TheVariants.{Ready, Atomic, Ended}
use Rattle.rx_parse.specs.Kinds.{kind_of}
use Rattle.rx_parse.proofs.Machine.{Moved, plain_next, atom_next, next}
use Rattle.rx_parse.proofs.Held.{depth, IsStepTo, IsStep, IsSettled, IsLeft, IsQuantified}
use Rattle.rx_term.specs.Pattern.{IsTimes, Many, Plenty, Maybe}
use Rattle.rx_term.specs.Pattern.IsTimes.{many, plenty, maybe}
use Rattle.rx_parse.proofs.Runs.{kind_is}
use Rattle.rx_parse.proofs.Steps.{quantifier_step, at, settled_step, closing_none, closing_step, dollar_none, dollar_step}

step_along : (m n : Moved) (r : Reader) (b : ℕ) (o : Option Reader) → m ≡ n → IsStepTo n r b o → IsStepTo m r b o
step_along m n r b o e h = subst (λ x. IsStepTo x r b o) (sym e) h

pub default_step : (r s : Reader) (p : Place) (b : ℕ) (o : Option Reader) → r.place ≡ p → next (depth r) p b ≡ plain_next (depth r) (kind_of b) → IsSettled r s →
    IsStep (at s Ready) b o → IsStep r b o
default_step r s p b o e g h k =
    let j : IsStepTo (plain_next (length s.outer) (kind_of b)) s b o =
    subst (λ x. IsStepTo (plain_next (length s.outer) (kind_of b)) x b o) (ap (λ q. at s q) (sym h.place)) k in
    step_along (next (depth r) r.place b) (plain_next (depth r) (kind_of b)) r b o (ap (λ q. next (depth r) q b) e ∙ g) (settled_step r s b o h j)

-- the end of a group, and the last anchor, by what the calls answer
pub closing : (r : Reader) (b : ℕ) → kind_of b ≡ Closing → (o : Option Reader) → MatchOption o (r.outer ≡ []) (λ s. IsLeft r s) → IsStep (at r Ready) b o
closing r b k None h = closing_none r b k h
closing r b k (Some s) h = closing_step r s b k h

pub dollar : (r : Reader) (b : ℕ) → kind_of b ≡ Dollar → (o : Option Reader) → MatchOption o (r.outer ≢ []) (λ s. (r.outer ≡ []) × (s ≡ at r Ended)) → IsStep (at r Ready) b o
dollar r b k None h = dollar_none r b k h
dollar r b k (Some s) h = subst (λ z. IsStep (at r Ready) b (Some z)) (sym h.1) (dollar_step r b k h.0)

-- quantifiers of one byte
pub star_step : (r s : Reader) (b : ℕ) → kind_of b ≡ Asterisk → IsQuantified Many r s → IsStep (at r Atomic) b (Some s)
star_step r s b k h =
    quantifier_step r s Many b (subst (λ x. IsTimes (x ∷ []) Many) (sym (kind_is b Asterisk k)) many) (ap (atom_next (length r.outer)) k) h

pub plus_step : (r s : Reader) (b : ℕ) → kind_of b ≡ Plus → IsQuantified Plenty r s → IsStep (at r Atomic) b (Some s)
plus_step r s b k h =
    quantifier_step r s Plenty b (subst (λ x. IsTimes (x ∷ []) Plenty) (sym (kind_is b Plus k)) plenty) (ap (atom_next (length r.outer)) k) h

pub optional_step : (r s : Reader) (b : ℕ) → kind_of b ≡ Question → IsQuantified Maybe r s → IsStep (at r Atomic) b (Some s)
optional_step r s b k h =
    quantifier_step r s Maybe b (subst (λ x. IsTimes (x ∷ []) Maybe) (sym (kind_is b Question k)) maybe) (ap (atom_next (length r.outer)) k) h
