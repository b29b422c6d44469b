use Rattle.std.proofs.Common.{take}
use Rattle.rx_term.specs.Language.{Has}
use Rattle.rx_joint.specs.Claims.{AreListed, LeadsBack}
use Rattle.field_seek.specs.Sought.{Grows, IsRoomy}
use Rattle.field_seek.proofs.listing.explore.Given as goal

abbrev pub invariant-loop-byte : goal.invariant-loop-byte
invariant-loop-byte l = record {
  grows : Grows l.initial.entries l.initial.states l.entries l.states;
  listed : AreListed l.chosen.tables l.chosen.holds l.entries l.states;
  roomy : IsRoomy l.cap l.states;
  back : LeadsBack l.chosen.tables (take l.byte-index l.chosen.bytes) l.states l.word;
  last : Has l.states l.last.items;
}
