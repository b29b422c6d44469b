use Rattle.cert_check.proofs.OneGoal.{one_goal}
use Rattle.cert_check.proofs.laws.one_goal_law.Goals as goal

pub returns : goal.returns
returns c = one_goal
