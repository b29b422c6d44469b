use Rattle.std.proofs.Common.{◌≡◌, false, ℕ, take}
use Rattle.rx_joint.specs.Joint.{Ends, picked, terms_in}
use Rattle.rx_joint.specs.Claims.{hold_at}
use Rattle.rx_joint.proofs.places.ends_unwanted.Given as goal

abbrev pub invariant-loop-number : goal.invariant-loop-number
invariant-loop-number l = (i : ℕ) → hold_at l.holds i ≡ false → Ends (picked (terms_in l.tables) l.numbers) (take l.number-index l.list) i → ⊥
