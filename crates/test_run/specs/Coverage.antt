-- How many routes some test's request is sent to. A route counts once, however many tests reach it.
use Rattle.std.specs.Prelude.{ℕ, ◌==◌, Bool, false, List, length, count_by}
use Rattle.std.specs.List.{list_any, range_with_len}
use Rattle.cfg_types.specs.Order.{routes}
use Rattle.cfg_types.specs.declared.configs.Config.{Config}
use Rattle.cfg_types.specs.declared.answers.Choice.{Choice}
use Rattle.cfg_types.specs.declared.answers.Choice.TheVariants as choice
use Rattle.test_read.specs.declared.test.Test.{Test}
use Rattle.test_run.specs.Verdicts.{choices}

abbrev pub is_sent_to : ℕ → Choice → Bool
is_sent_to r choice.NoHost = false
is_sent_to r (choice.Tls h) = false
is_sent_to r (choice.NoRoute h) = false
is_sent_to r (choice.Chosen k) = k == r

-- of the first n routes, those that some choice is
abbrev pub covered_among : List Choice → ℕ → ℕ
covered_among cs n = count_by (λ r. list_any (is_sent_to r) cs) (range_with_len 0 n)

unfoldable pub covered : Config → List Test → ℕ
covered c ts = covered_among (choices c ts) (length (routes c))
