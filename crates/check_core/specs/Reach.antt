-- What `reach` writes and how it ends.
use Rattle.std.specs.Prelude.{◌≡◌, ℕ, List}
use Rattle.outside.specs.Contents.{Contents}
use Rattle.cfg_types.specs.declared.configs.Config.{Config}
use Rattle.goal_form.specs.declared.goal.Row.{Row}
use Rattle.read_config.specs.Configs.{config_of}
use Rattle.check_core.specs.Begun.{FrontOf}
use Rattle.check_core.specs.Inputs.{ConfigEnds, FileHolds}
use Rattle.check_core.specs.Rows.{AreAllRows, row_lines, BeginsRows}
use Rattle.check_core.specs.Words.{ReachCall}
use Rattle.check_core.specs.declared.status.Status.{Status}
use Rattle.check_core.specs.declared.status.Status.TheVariants.{Done}

-- `reach` of this file writes this text and ends so: the configuration ends the call, or each of its routes has its row.
pub data Reaches (call : ReachCall) (files : Contents) (text : List ℕ) (status : Status) : Type 0 where
  by_config : ConfigEnds call.config files text status → Reaches call files text status
  by_rows : (c : Config) (rows : List Row) → FileHolds config_of call.config files c → AreAllRows c call.budgets rows →
      text ≡ row_lines rows → status ≡ Done → Reaches call files text status

-- the front of a refusal, or whole rows and the front of one more
pub data ReachBegins (call : ReachCall) (files : Contents) (bytes : List ℕ) : Type 0 where
  with_config : FrontOf (ConfigEnds call.config) files bytes → ReachBegins call files bytes
  with_rows : (c : Config) → FileHolds config_of call.config files c → BeginsRows c call.budgets bytes → ReachBegins call files bytes
