use Rattle.std.proofs.Common.{ℕ, ◌<◌, ◌≤◌, ◌*◌, ◌^◌, ◌-◌, length}
use Rattle.rx_joint.specs.Claims.{AreListed, LeadsBack}
use Rattle.field_seek.specs.Sought.{IsRoomy}
use Rattle.field_seek.proofs.listing.list_all.Given as goal

abbrev pub invariant-loop-word : goal.invariant-loop-word
invariant-loop-word l = record {
  listed : AreListed l.chosen.tables l.chosen.holds l.entries l.states;
  roomy : IsRoomy l.cap l.states;
  back : (k : ℕ) → k < l.word → LeadsBack l.chosen.tables l.chosen.bytes l.states k;
  within : l.word ≤ length l.states;
}

abbrev pub decreases-loop-word : goal.decreases-loop-word
decreases-loop-word l = 2 ^ (length l.chosen.tables * 4294967296) - l.word
