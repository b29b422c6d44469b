use Rattle.std.proofs.Common.{refl}
use Rattle.head_edit.proofs.MapHeads.{takes-append, same-append, size-append, valid-append}
use Rattle.head_edit.proofs.maps.append.Goals as goal

pub unreachable-requires : goal.unreachable-requires
unreachable-requires c =
    takes-append c.args.map.now c.args.name c.requires.valid c.requires.room ((rw c.in-Err-MaxSizeReached.field-0-is at c.in-Err-MaxSizeReached.ensures.full).0 refl)

pub returns-in-Ok-clause-ok : goal.returns-in-Ok-clause-ok
returns-in-Ok-clause-ok c =
    rw c.in-Ok.ensures.ok (same-append c.args.map.now c.args.name c.args.value c.requires.valid.unique)

pub returns-in-Ok-clause-size : goal.returns-in-Ok-clause-size
returns-in-Ok-clause-size c =
    rw c.in-Ok.ensures.ok (size-append c.args.map.now c.args.name c.args.value)

pub returns-in-Ok-clause-stays_valid : goal.returns-in-Ok-clause-stays_valid
returns-in-Ok-clause-stays_valid c =
    rw c.in-Ok.ensures.ok (valid-append c.args.map.now c.args.name c.args.value c.requires.valid c.requires.room)
