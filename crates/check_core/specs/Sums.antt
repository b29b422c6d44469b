-- What all tests together come to.
use Rattle.std.specs.Prelude.{◌≡◌, List, length}
use Rattle.cfg_types.specs.Order.{routes}
use Rattle.cfg_types.specs.declared.configs.Config.{Config}
use Rattle.test_read.specs.declared.test.Test.{Test}
use Rattle.test_run.specs.Coverage.{covered}
use Rattle.test_run.specs.Verdicts.{failed}
use Rattle.check_core.specs.declared.verdicts.Sums.{Sums}

pub record AreSums (c : Config) (ts : List Test) (s : Sums) : Type 0 where
  pub covered : s.covered ≡ covered c ts
  pub failed : s.failed ≡ failed c ts
  pub routes : s.routes ≡ length (routes c)
