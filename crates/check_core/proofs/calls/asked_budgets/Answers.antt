use Rattle.std.proofs.Common.{arith}
use Rattle.check_core.proofs.calls.asked_budgets.Goals as goal

pub returns-clause-bounds : goal.returns-clause-bounds
returns-clause-bounds c =
    let splits = c.first_option.ensures.within (omega arith) (omega arith) in
    let states = c.first_option-2.ensures.within (omega arith) (omega arith) in
    record { some_splits = splits.0; few_splits = splits.1; some_states = states.0; few_states = states.1 }
