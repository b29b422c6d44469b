use Rattle.cert_check.proofs.leaves.may_leave.Goals as goal

pub returns-in-Closed : goal.returns-in-Closed
returns-in-Closed c = rw c.in-Closed.is c.closes.ensures

pub returns-in-Capped : goal.returns-in-Capped
returns-in-Capped c = rw c.in-Capped.is c.overflows.ensures
