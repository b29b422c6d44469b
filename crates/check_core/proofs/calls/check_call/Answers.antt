use Rattle.std.proofs.Common.{◌≡◌, true, map, slice_get, None, rules, refl}
use Rattle.std.specs.Prelude.{string_bytes}
use Rattle.std.specs.List.{filter}
use Rattle.check_core.specs.Words.{is_argument, is_only_failures, are_check_words}
use Rattle.check_core.proofs.CallWords.{list_any-map, two_arguments}
use Rattle.check_core.proofs.calls.check_call.Goals as goal

pub returns : goal.returns
returns c =
    let words = map string_bytes c.args.words.now in
    let stand : are_check_words words ≡ true = search rules in
    let third : slice_get (filter is_argument words) 2 ≡ None = search rules in
    let given = two_arguments (filter is_argument words) c.in_ok-config.config.now c.in_ok-tests.tests.now c.in_ok-config.ensures c.in_ok-tests.ensures third in
    rw (stand, given, c.first_option.ensures.number, c.shows_only_failures.ensures, ← list_any-map string_bytes is_only_failures c.args.words.now) refl
