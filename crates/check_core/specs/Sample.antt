-- What `sample` writes and how it ends.
use Rattle.std.specs.Prelude.{◌≡◌, ℕ, List, ◌++◌, length}
use Rattle.outside.specs.Contents.{Contents}
use Rattle.outside.specs.Written.{IsFront}
use Rattle.goal_form.specs.declared.goal.Row.{Row}
use Rattle.sample_make.specs.Samples.{made}
use Rattle.check_core.specs.Rows.{AreAllRows, AreCounts, row_lines, summary_line, BeginsRows}
use Rattle.check_core.specs.declared.calls.Budgets.{Budgets}
use Rattle.check_core.specs.declared.counts.Counts.{Counts}
use Rattle.check_core.specs.declared.status.Status.{Status}
use Rattle.check_core.specs.declared.status.Status.TheVariants.{Done}

abbrev pub default_budgets : Budgets
default_budgets = record { splits = 4096; states = 1000 }

-- all rows of the sample configuration, and their counts
pub record AreSampleRows (hosts : ℕ) (rows : List Row) (counts : Counts) : Type 0 where
  pub all : AreAllRows (made hosts) default_budgets rows
  pub counted : AreCounts rows counts

-- `sample` writes this text and ends so, whatever files there are: a row for each route, and then the summary of the rows.
pub data Samples (hosts : ℕ) (files : Contents) (text : List ℕ) (status : Status) : Type 0 where
  by_rows : (rows : List Row) (counts : Counts) → AreSampleRows hosts rows counts →
      text ≡ row_lines rows ++ summary_line hosts counts (length rows) → status ≡ Done → Samples hosts files text status

-- whole rows and the front of one more, or all rows and the front of their summary
pub data SampleBegins (hosts : ℕ) (files : Contents) (bytes : List ℕ) : Type 0 where
  with_rows : BeginsRows (made hosts) default_budgets bytes → SampleBegins hosts files bytes
  with_summary : (rows : List Row) (counts : Counts) (front : List ℕ) → AreSampleRows hosts rows counts →
      IsFront front (summary_line hosts counts (length rows)) → bytes ≡ row_lines rows ++ front → SampleBegins hosts files bytes
