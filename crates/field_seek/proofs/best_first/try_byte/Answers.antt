use Rattle.std.proofs.Common.{[], sym, subst}
use Rattle.rx_auto.specs.Live.{AddsNumbers}
use Rattle.rx_joint.specs.Lists.{list_at}
use Rattle.rx_joint.specs.Joint.{IsLed}
use Rattle.rx_joint.proofs.Listing.{followed}
use Rattle.field_seek.proofs.best_first.try_byte.Goals as goal

pub list_next-requires-clause-next : goal.list_next-requires-clause-next
list_next-requires-clause-next c = subst (λ z. AddsNumbers [] z (IsLed c.args.chosen.now.tables (list_at c.args.states.now c.args.word) c.args.byte)) (sym c.deref-2.ensures.value)
    (followed c.args.chosen.now.tables c.args.edges.now (list_at c.args.states.now c.args.word) c.follow.new.to.items c.args.byte c.requires.edges c.in_ok-follow.ensures)
