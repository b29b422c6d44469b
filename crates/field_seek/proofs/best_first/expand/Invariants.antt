use Rattle.rx_joint.specs.Claims.{AreListed}
use Rattle.field_seek.specs.Sought.{Grows, IsRoomy}
use Rattle.field_seek.proofs.best_first.expand.Given as goal

abbrev pub invariant-loop-byte : goal.invariant-loop-byte
invariant-loop-byte l = record {
  grows : Grows l.initial.entries l.initial.states l.entries l.states;
  listed : AreListed l.chosen.tables l.chosen.holds l.entries l.states;
  roomy : IsRoomy l.cap l.states;
}
