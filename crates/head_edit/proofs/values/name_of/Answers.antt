use Rattle.std.proofs.Common.{refl}
use Rattle.head_edit.proofs.MapKinds.{map_name}
use Rattle.head_edit.proofs.values.name_of.Goals as goal

pub unreachable-requires : goal.unreachable-requires
unreachable-requires c =
    (rw c.in-Err-Invalid.field-0-is at c.in-Err-Invalid.ensures.invalid).0 refl (map_name c.args.name.now c.requires)
