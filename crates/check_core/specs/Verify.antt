-- What `verify` writes and how it ends.
use Rattle.std.specs.Prelude.{◌≡◌, ℕ, ◌+◌, ◌<◌, ◌≤◌, List, [], ◌++◌, length, flat_map, Some, slice_get, Ok, codes}
use Rattle.serde_json.specs.Data.{Data, number, object, no_members, member, unsigned}
use Rattle.outside.specs.Contents.{Contents}
use Rattle.outside.specs.Lines.{HasLineFeed, HasNoLine, IsLongLine, line_ended}
use Rattle.cfg_types.specs.Order.{routes}
use Rattle.cfg_types.specs.declared.configs.Config.{Config}
use Rattle.goal_form.specs.declared.goal.Row.{Row}
use Rattle.cert_check.specs.LawfulRows.{IsLawfulRow}
use Rattle.cert_rows.specs.Read.{row_at}
use Rattle.read_config.specs.Configs.{config_of}
use Rattle.test_run.specs.Lines.{line_of}
use Rattle.check_core.specs.Inputs.{ConfigEnds, FileHolds, IsFile}
use Rattle.check_core.specs.Words.{VerifyCall}
use Rattle.check_core.specs.declared.status.Status.{Status}
use Rattle.check_core.specs.declared.status.Status.TheVariants.{Done, Rejected, TooLong}

-- the most bytes of a line of a report, its line feed not among them
abbrev pub line_limit : ℕ
line_limit = 67108864

-- the line is a lawful row of the route
abbrev pub IsRowLine : Config → ℕ → List ℕ → Type 0
IsRowLine c r line = (row : Row) × (row_at line ≡ Ok row) × IsLawfulRow c r row

-- bytes without a line feed, and not too many
pub record IsLine (line : List ℕ) : Type 0 where
  pub one : HasLineFeed line → ⊥
  pub fit : length line ≤ line_limit

-- a line that is the row of the route of this number
pub record IsGoodLine (c : Config) (r : ℕ) (line : List ℕ) : Type 0 where
  pub is_line : IsLine line
  pub is_row : IsRowLine c r line

-- each line is the row of the route of its number
abbrev pub AreRowLines : Config → List (List ℕ) → Type 0
AreRowLines c lines = (r : ℕ) (line : List ℕ) → slice_get lines r ≡ Some line → IsGoodLine c r line

abbrev pub lines_text : List (List ℕ) → List ℕ
lines_text = flat_map line_ended

-- What stands after the rows of the first `r` routes is at fault.
pub data IsAtFault (c : Config) (r : ℕ) (rest : List ℕ) : Type 0 where
  other_row : (line left : List ℕ) → r < length (routes c) → IsLine line → rest ≡ line_ended line ++ left → (IsRowLine c r line → ⊥) → IsAtFault c r rest
  no_whole_line : r < length (routes c) → HasNoLine line_limit rest → IsAtFault c r rest
  more_than_rows : r ≡ length (routes c) → (rest ≡ [] → ⊥) → IsAtFault c r rest

-- one more row is looked for, and the next line is too long
pub record IsTooLong (c : Config) (r : ℕ) (rest : List ℕ) : Type 0 where
  pub more : r < length (routes c)
  pub long : IsLongLine line_limit rest

abbrev pub accepted_value : ℕ → Data
accepted_value rows = object (member (codes "accepted") (number (unsigned rows)) no_members)

abbrev pub rejected_value : ℕ → Data
rejected_value number_of_row = object (member (codes "rejected") (number (unsigned number_of_row)) no_members)

unfoldable pub accepted_line : ℕ → List ℕ
accepted_line rows = line_of (accepted_value rows)

unfoldable pub rejected_line : ℕ → List ℕ
rejected_line number_of_row = line_of (rejected_value number_of_row)

-- This is written of these bytes of a report. The number of a row at fault counts from 1.
pub data IsJudged (c : Config) (report text : List ℕ) (status : Status) : Type 0 where
  accepted : (lines : List (List ℕ)) → AreRowLines c lines → length lines ≡ length (routes c) → report ≡ lines_text lines →
      text ≡ accepted_line (length lines) → status ≡ Done → IsJudged c report text status
  rejected : (lines : List (List ℕ)) (rest : List ℕ) → AreRowLines c lines → report ≡ lines_text lines ++ rest → IsAtFault c (length lines) rest →
      text ≡ rejected_line (length lines + 1) → status ≡ Rejected → IsJudged c report text status
  too_long : (lines : List (List ℕ)) (rest : List ℕ) → AreRowLines c lines → report ≡ lines_text lines ++ rest → IsTooLong c (length lines) rest →
      text ≡ [] → status ≡ TooLong → IsJudged c report text status

-- `verify` of these files writes this text and ends so.
pub data Verifies (call : VerifyCall) (files : Contents) (text : List ℕ) (status : Status) : Type 0 where
  by_config : ConfigEnds call.config files text status → Verifies call files text status
  by_report : (c : Config) (report : List ℕ) → FileHolds config_of call.config files c → IsFile files call.report report →
      IsJudged c report text status → Verifies call files text status
