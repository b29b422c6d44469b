use Rattle.std.proofs.Common.{◌≡◌, ◌≤◌}
use Rattle.cfg_types.specs.Choices.{routes_before}
use Rattle.goal_build.proofs.goals.host_from.Given as goal

abbrev pub invariant-loop-at : goal.invariant-loop-at
invariant-loop-at l = (l.first ≡ routes_before l.config.hosts l.at) × (l.first ≤ l.route)
