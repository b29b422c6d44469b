use Rattle.std.proofs.Common.{◌≡◌, ◌<◌, ℕ, Some, slice_get}
use Rattle.goal_build.specs.Parts.{taken}
use Rattle.goal_build.proofs.goals.guard_of.Given as goal

abbrev pub invariant-loop-at : goal.invariant-loop-at
invariant-loop-at l = (k : ℕ) → k < l.at → slice_get (taken l.goals.guards) k ≡ Some (Some l.route) → ⊥
