-- What `check` writes and how it ends: a case for each of its steps, in their order.
use Rattle.std.specs.Prelude.{◌≡◌, ℕ, ◌*◌, ◌||◌, nat_lt, List, length, codes, if◌then◌else◌}
use Rattle.outside.specs.Contents.{Contents}
use Rattle.cfg_types.specs.Order.{routes}
use Rattle.cfg_types.specs.declared.configs.Config.{Config}
use Rattle.read_config.specs.Configs.{config_of}
use Rattle.test_read.specs.Tests.{tests_of}
use Rattle.test_read.specs.declared.test.Test.{Test}
use Rattle.test_run.specs.Coverage.{covered}
use Rattle.test_run.specs.Verdicts.{failed}
use Rattle.test_run.specs.Lines.{check_text}
use Rattle.check_core.specs.Inputs.{FileEnds, FileHolds, ConfigEnds}
use Rattle.check_core.specs.Words.{CheckCall}
use Rattle.check_core.specs.declared.status.Status.{Status}
use Rattle.check_core.specs.declared.status.Status.TheVariants.{Done, TestsFailed}

-- the test file ends the call
abbrev pub TestsEnd : List ℕ → Contents → List ℕ → Status → Type 0
TestsEnd = FileEnds tests_of (codes "tests")

-- the status that goes with so many failed tests, where so many of the routes are covered and this percentage has to be
abbrev pub status_of : ℕ → ℕ → ℕ → ℕ → Status
status_of percent failed covered routes = if nat_lt 0 failed || nat_lt (covered * 100) (percent * routes) then TestsFailed else Done

-- the status of a call whose tests are judged
abbrev pub verdict : CheckCall → Config → List Test → Status
verdict call c ts = status_of call.fail_under (failed c ts) (covered c ts) (length (routes c))

-- `check` of these files writes this text and ends so.
pub data Checks (call : CheckCall) (files : Contents) (text : List ℕ) (status : Status) : Type 0 where
  by_config : ConfigEnds call.config files text status → Checks call files text status
  by_tests : (c : Config) → FileHolds config_of call.config files c → TestsEnd call.tests files text status → Checks call files text status
  by_verdicts : (c : Config) (ts : List Test) → FileHolds config_of call.config files c → FileHolds tests_of call.tests files ts →
      text ≡ check_text call.only_failures c ts → status ≡ verdict call c ts → Checks call files text status
