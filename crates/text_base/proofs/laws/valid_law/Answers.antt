use Rattle.text_base.proofs.Valid.{valid_without_bad_part}
use Rattle.text_base.proofs.laws.valid_law.Goals as goal

pub returns : goal.returns
returns c = valid_without_bad_part
