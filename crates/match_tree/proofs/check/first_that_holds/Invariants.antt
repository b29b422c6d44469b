use Rattle.std.proofs.Common.{◌≡◌, ◌+◌, ◌-◌, ◌≤◌, length, drop}
use Rattle.std.specs.List.{position_or_len}
use Rattle.match_tree.specs.Checks.{check_holds}
use Rattle.match_tree.specs.Rooms.{checks_room}
use Rattle.match_tree.proofs.check.first_that_holds.Given as goal

abbrev pub invariant-loop-at : goal.invariant-loop-at
invariant-loop-at g l = record {
  room : l.scratch ≡ l.fn.scratch;
  fits : checks_room l.checks ≤ l.scratch;
  within : l.at ≤ length l.checks;
  left : position_or_len (check_holds g.I.Input.sees l.request) l.checks ≡ l.at + position_or_len (check_holds g.I.Input.sees l.request) (drop l.at l.checks);
}

abbrev pub decreases-loop-at : goal.decreases-loop-at
decreases-loop-at g l = length l.checks - l.at
