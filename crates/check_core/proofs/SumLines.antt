-- The line of sums that are those of all tests.
use Rattle.std.proofs.Common.{◌≡◌, List, length, refl}
use Rattle.cfg_types.specs.Order.{routes}
use Rattle.cfg_types.specs.declared.configs.Config.{Config}
use Rattle.test_read.specs.declared.test.Test.{Test}
use Rattle.test_run.specs.Coverage.{covered}
use Rattle.test_run.specs.Verdicts.{failed}
use Rattle.test_run.specs.Lines.{sum_line}
use Rattle.check_core.specs.Sums.{AreSums}
use Rattle.check_core.specs.declared.verdicts.Sums.{Sums}

pub sums_line : (c : Config) (ts : List Test) (s : Sums) → AreSums c ts s → sum_line s.covered s.failed s.routes (length ts) ≡ sum_line (covered c ts) (failed c ts) (length (routes c)) (length ts)
sums_line c ts s a = rw (a.covered, a.failed, a.routes) refl
