-- Steps in braces.
use Rattle.std.proofs.Common.{◌≡◌, ◌≢◌, ℕ, ◌+◌, ◌<◌, ◌≤◌, true, length, Some, refl, sym, subst, arith}
use Rattle.rx_term.specs.Pattern.{IsDigit, Exactly, AtLeast, Between}
use Rattle.rx_parse.specs.declared.reader.Reader.{Reader}
use Rattle.rx_parse.specs.declared.place.Braces.TheVariants.{Least, Most}
use Rattle.rx_parse.specs.declared.place.Place.TheVariants.{InBraces}
use Rattle.rx_parse.specs.Kinds.{reaches, digit_next}
use Rattle.rx_parse.proofs.Held.{IsStep, IsQuantified}
use Rattle.rx_parse.proofs.Counts.{least_digit, most_digit, least_end, least_comma, most_end}
use Rattle.rx_parse.proofs.BraceFronts.{least_grow, most_grow, least_closed, most_open, most_closed}
use Rattle.rx_parse.proofs.BraceFronts.{least_comma as comma_front}
use Rattle.rx_parse.proofs.Steps.{at, braces_step, braces_end_step}

pub least_digit_step : (r : Reader) (k v b : ℕ) → IsDigit b → k < 3 → digit_next v b < 256 →
    IsStep (at r (InBraces (Least k v))) b (Some (at r (InBraces (Least (k + 1) (digit_next v b)))))
least_digit_step r k v b h l m =
    braces_step r (Least k v) (Least (k + 1) (digit_next v b)) b (least_digit (length r.outer) k v b h l (omega arith)) (λ z x. least_grow k v b z x h l (omega arith))

pub most_digit_step : (r : Reader) (n k v b : ℕ) → IsDigit b → k < 3 → reaches n (k + 1) (digit_next v b) ≡ true →
    IsStep (at r (InBraces (Most n k v))) b (Some (at r (InBraces (Most n (k + 1) (digit_next v b)))))
most_digit_step r n k v b h l m =
    braces_step r (Most n k v) (Most n (k + 1) (digit_next v b)) b (most_digit (length r.outer) n k v b h l m) (λ z x. most_grow n k v b z x h l m)

pub comma_step : (r : Reader) (k v b : ℕ) → b ≡ 44 → 0 < k → IsStep (at r (InBraces (Least k v))) b (Some (at r (InBraces (Most v 0 0))))
comma_step r k v b e h = subst (λ x. IsStep (at r (InBraces (Least k v))) x (Some (at r (InBraces (Most v 0 0))))) (sym e)
    (braces_step r (Least k v) (Most v 0 0) 44 (least_comma (length r.outer) k v h) (λ z x. comma_front k v z x h))

pub exactly_step : (r s : Reader) (k v b : ℕ) → b ≡ 125 → 0 < k → IsQuantified (Exactly v) r s → IsStep (at r (InBraces (Least k v))) b (Some s)
exactly_step r s k v b e h q = subst (λ x. IsStep (at r (InBraces (Least k v))) x (Some s)) (sym e)
    (braces_end_step r s (Least k v) (Exactly v) 125 (least_end (length r.outer) k v h) (λ z x. least_closed k v z x h) q)

pub at_least_step : (r s : Reader) (n k v b : ℕ) → b ≡ 125 → k ≡ 0 → IsQuantified (AtLeast n) r s → IsStep (at r (InBraces (Most n k v))) b (Some s)
at_least_step r s n k v b e h q = subst (λ x. IsStep (at r (InBraces (Most n k v))) x (Some s)) (sym e)
    (subst (λ j. IsStep (at r (InBraces (Most n j v))) 125 (Some s)) (sym h)
    (braces_end_step r s (Most n 0 v) (AtLeast n) 125 refl (λ z x. most_open n v z x) q))

pub between_step : (r s : Reader) (n k v b : ℕ) → b ≡ 125 → k ≢ 0 → n ≤ v → IsQuantified (Between n v) r s → IsStep (at r (InBraces (Most n k v))) b (Some s)
between_step r s n k v b e h l q = subst (λ x. IsStep (at r (InBraces (Most n k v))) x (Some s)) (sym e)
    (braces_end_step r s (Most n k v) (Between n v) 125 (most_end (length r.outer) n k v l) (λ z x. most_closed n k v z x (omega (arith, h)) l) q)
