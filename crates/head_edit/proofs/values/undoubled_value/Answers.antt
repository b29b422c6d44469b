use Rattle.head_edit.proofs.MapKinds.{printed-undoubled}
use Rattle.head_edit.proofs.values.undoubled_value.Goals as goal

pub value_from-requires : goal.value_from-requires
value_from-requires c = rw c.in_ok-undoubled.ensures (printed-undoubled c.args.value.now c.requires)
