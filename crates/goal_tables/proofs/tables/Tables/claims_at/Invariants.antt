use Rattle.std.proofs.Common.{take}
use Rattle.goal_tables.proofs.Claims.{Says}
use Rattle.goal_tables.proofs.tables.Tables.claims_at.Given as goal

abbrev pub invariant-loop-step : goal.invariant-loop-step
invariant-loop-step l = Says l.self.atoms l.field l.joint.terms (take l.step-index l.path) l.absent l.user l.choice.items
