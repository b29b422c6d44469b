use Rattle.std.proofs.Common.{take}
use Rattle.goal_build.specs.Parts.{asked}
use Rattle.goal_build.specs.Renumbering.{IsKept, AreRefused}
use Rattle.goal_build.proofs.numbering.renumber_none.Given as goal

abbrev pub invariant-loop-guard : goal.invariant-loop-guard
invariant-loop-guard l =
    IsKept l.pool l.places.items l.atoms × AreRefused l.pool (take l.guard-index (asked l.guards)) l.fn.atoms l.atoms l.list
