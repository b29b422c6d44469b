use Rattle.std.proofs.Common.{◌≡◌, true, map, slice_get, None, rules, refl}
use Rattle.std.specs.Prelude.{string_bytes}
use Rattle.std.specs.List.{filter, list_all}
use Rattle.check_core.specs.Words.{is_argument}
use Rattle.check_core.proofs.CallWords.{two_arguments}
use Rattle.check_core.proofs.calls.verify_call.Goals as goal

pub returns : goal.returns
returns c =
    let words = map string_bytes c.args.words.now in
    let stand : list_all is_argument words ≡ true = search rules in
    let third : slice_get (filter is_argument words) 2 ≡ None = search rules in
    let given = two_arguments (filter is_argument words) c.in_ok-config.config.now c.in_ok-report.report.now c.in_ok-config.ensures c.in_ok-report.ensures third in
    rw (stand, given) refl
