use Rattle.check_core.proofs.LineEnds.{no_room_first}
use Rattle.check_core.proofs.refusals.write_refusal.Goals as goal

pub returns-in_err-line : goal.returns-in_err-line
returns-in_err-line g c = no_room_first _ _ _ c.from_residual-in_err-line.ensures
