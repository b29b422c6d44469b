use Rattle.std.proofs.Common.{◌≡◌, true, map, slice_get, None, rules, refl}
use Rattle.std.specs.Prelude.{string_bytes}
use Rattle.std.specs.List.{filter}
use Rattle.check_core.specs.Words.{is_argument, are_reach_words}
use Rattle.check_core.proofs.CallWords.{one_argument}
use Rattle.check_core.proofs.calls.reach_call.Goals as goal

pub returns-clause-call : goal.returns-clause-call
returns-clause-call c =
    let words = map string_bytes c.args.words.now in
    let stand : are_reach_words words ≡ true = search rules in
    let second : slice_get (filter is_argument words) 1 ≡ None = search rules in
    let given = one_argument (filter is_argument words) c.in_ok-config.config.now c.in_ok-config.ensures second in
    rw (stand, given, c.asked_budgets.ensures.budgets) refl
