use Rattle.std.proofs.Common.{refl, arith}
use Rattle.head_edit.proofs.MapHeads.{takes-insert, same-insert, size-insert, valid-insert}
use Rattle.head_edit.proofs.additions.overwrite.Goals as goal
use Rattle.head_edit.proofs.additions.overwrite.Goals.{in-Ok, in-Err-OutOfMemory}

pub unreachable-requires : goal.unreachable-requires
unreachable-requires c =
    takes-insert c.args.map.now c.args.name c.requires.valid c.requires.room ((rw c.in-Err-MaxSizeReached.field-0-is at c.in-Err-MaxSizeReached.ensures.full).0 refl)

pub returns-clause-ok : goal.returns-clause-ok
returns-clause-ok c =
    elim c.match-insert.branch [
      | in-Ok w ↦ rw (w.result-is, w.in-Ok.ensures.ok) (same-insert c.args.map.now c.args.name c.args.value c.requires.valid.unique)
      | in-Err-OutOfMemory w ↦ rw w.result-is tt
    ]

pub returns-clause-size : goal.returns-clause-size
returns-clause-size c =
    elim c.match-insert.branch [
      | in-Ok w ↦ rw w.in-Ok.ensures.ok (size-insert c.args.map.now c.args.name c.args.value)
      | in-Err-OutOfMemory w ↦ rw w.in-Err-OutOfMemory.ensures.err (omega arith)
    ]

pub returns-clause-stays_valid : goal.returns-clause-stays_valid
returns-clause-stays_valid c =
    elim c.match-insert.branch [
      | in-Ok w ↦ rw w.in-Ok.ensures.ok (valid-insert c.args.map.now c.args.name c.args.value c.requires.valid c.requires.room)
      | in-Err-OutOfMemory w ↦ rw w.in-Err-OutOfMemory.ensures.err c.requires.valid
    ]
