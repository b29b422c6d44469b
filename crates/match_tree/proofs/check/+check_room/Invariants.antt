use Rattle.std.proofs.Common.{◌≡◌, max, drop}
use Rattle.match_tree.specs.Rooms.{checks_room}
use Rattle.match_tree.proofs.check.+check_room.Given as goal

abbrev pub invariant-room_of-loop-check : goal.invariant-room_of-loop-check
invariant-room_of-loop-check g l = max l.room (checks_room (drop l.check-index l.checks)) ≡ checks_room l.checks
