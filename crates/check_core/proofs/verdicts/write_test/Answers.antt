use Rattle.check_core.proofs.LineEnds.{no_room_first}
use Rattle.check_core.proofs.verdicts.write_test.Goals as goal

pub returns-in_err-line-clause-line : goal.returns-in_err-line-clause-line
returns-in_err-line-clause-line g c = no_room_first _ _ _ c.from_residual.ensures
