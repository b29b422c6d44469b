use Rattle.std.proofs.Common.{◌≡◌, ◌<◌, ◌^◌, true, rules}
use Rattle.check_core.specs.Words.{is_number}
use Rattle.check_core.proofs.Numbers.{number_unread}
use Rattle.check_core.proofs.words.number.Goals as goal

pub returns-in-Err-clause-number : goal.returns-in-Err-clause-number
returns-in-Err-clause-number c =
    let number : is_number c.args.text.now ≡ true = search rules in
    let small : c.args.most < 2 ^ 32 = search rules in
    number_unread c.args.least c.args.most c.args.text.now c.in-Err.ensures.value.0 number small
