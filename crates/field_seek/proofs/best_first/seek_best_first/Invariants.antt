use Rattle.rx_joint.specs.Claims.{AreListed}
use Rattle.field_seek.specs.Sought.{IsRoomy}
use Rattle.field_seek.proofs.best_first.seek_best_first.Given as goal

abbrev pub invariant-loop : goal.invariant-loop
invariant-loop l = record {
  listed : AreListed l.chosen.tables l.chosen.holds l.entries l.states;
  roomy : IsRoomy l.cap l.states;
}
