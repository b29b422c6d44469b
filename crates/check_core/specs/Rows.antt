-- The rows that a search of a configuration's routes writes.
use Rattle.std.specs.Prelude.{◌≡◌, ◌⊎◌, ℕ, List, [], ◌++◌, length, flat_map, count_by, Bool, true, false, Some, slice_get, Option, Result, IfOk, OnErr, codes}
use Rattle.serde_json.specs.Data.{Data, number, object, no_members, member, unsigned}
use Rattle.outside.specs.States.{SinkState}
use Rattle.outside.specs.Written.{Appends, IsFront, HasWriteCause}
use Rattle.outside.specs.declared.sink.WriteFail.{WriteFail}
use Rattle.text_base.specs.Asked.{Asked}
use Rattle.text_base.specs.Requests.{is_valid}
use Rattle.goal_form.specs.declared.goal.Goal.{Goal}
use Rattle.goal_form.specs.declared.goal.Node.{Node}
use Rattle.goal_form.specs.declared.goal.Row.{Row}
use Rattle.goal_form.specs.declared.goal.RowBody.{RowBody}
use Rattle.goal_form.specs.declared.goal.RowBody.TheVariants.{Reached, Refuted, Undecided}
use Rattle.goal_form.specs.Unfinished.{SplitsPlainly}
use Rattle.cfg_types.specs.Choices.{IsSent}
use Rattle.cfg_types.specs.Order.{routes}
use Rattle.cfg_types.specs.declared.configs.Config.{Config}
use Rattle.goal_build.specs.Goals.{IsGoal}
use Rattle.split_seek.specs.Findings.{AreEnough}
use Rattle.cert_check.specs.LawfulRows.{IsLawfulRow}
use Rattle.cert_rows.specs.Lines.{row_line}
use Rattle.test_run.specs.Lines.{line_of}
use Rattle.check_core.specs.declared.calls.Budgets.{Budgets}
use Rattle.check_core.specs.declared.counts.Counts.{Counts}

-- the splits of the nodes are plain ones of the route's goal
abbrev pub ArePlain : Config → ℕ → List Node → Type 0
ArePlain c r nodes = (goal : Goal) × IsGoal c r goal × SplitsPlainly goal nodes

-- no valid request is sent to the route
abbrev pub IsShadowed : Config → ℕ → Type 0
IsShadowed c r = (q : Asked) → is_valid q ≡ true → IsSent c q r → ⊥

-- the budgets don't suffice to decide whatever goal the route may have
abbrev pub AreTooSmall : Config → ℕ → Budgets → Type 0
AreTooSmall c r b = (goal : Goal) → IsGoal c r goal → AreEnough goal b.splits b.states → ⊥

-- what a search adds to a lawful body: plain splits, a route that is shadowed, and its own budgets, which are too small
abbrev pub IsSearchedBody : Config → ℕ → Budgets → RowBody → Type 0
IsSearchedBody c r b (Reached q) = Unit {0}
IsSearchedBody c r b (Refuted nodes) = ArePlain c r nodes × IsShadowed c r
IsSearchedBody c r b (Undecided nodes splits states) = ArePlain c r nodes × (splits ≡ b.splits) × (states ≡ b.states) × AreTooSmall c r b

-- the row of a route that a search with these budgets may give
pub record IsSearchedRow (c : Config) (b : Budgets) (r : ℕ) (row : Row) : Type 0 where
  pub lawful : IsLawfulRow c r row
  pub searched : IsSearchedBody c r b row.body

-- each row is that of the route of its number
abbrev pub AreRows : Config → Budgets → List Row → Type 0
AreRows c b rows = (r : ℕ) (row : Row) → slice_get rows r ≡ Some row → IsSearchedRow c b r row

-- one row for each route, in the order of routes
pub record AreAllRows (c : Config) (b : Budgets) (rows : List Row) : Type 0 where
  pub each : AreRows c b rows
  pub all : length rows ≡ length (routes c)

abbrev pub row_lines : List Row → List ℕ
row_lines = flat_map row_line

-- nothing more, or the front of the line of one more row
abbrev pub IsNextFront : Config → Budgets → ℕ → List ℕ → Type 0
IsNextFront c b r front = (front ≡ []) ⊎ ((row : Row) × IsSearchedRow c b r row × IsFront front (row_line row))

-- whole lines of the first routes, and then a front of one more
pub record BeginsRows (c : Config) (b : Budgets) (bytes : List ℕ) : Type 0 where
  pub rows : List Row
  pub front : List ℕ
  pub each : AreRows c b rows
  pub next : IsNextFront c b (length rows) front
  pub are : bytes ≡ row_lines rows ++ front

-- ---- what all rows together come to

abbrev pub is_reached_body : RowBody → Bool
is_reached_body (Reached q) = true
is_reached_body body = false

abbrev pub is_refuted_body : RowBody → Bool
is_refuted_body (Refuted nodes) = true
is_refuted_body body = false

abbrev pub is_undecided_body : RowBody → Bool
is_undecided_body (Undecided nodes splits states) = true
is_undecided_body body = false

abbrev pub is_reached : Row → Bool
is_reached row = is_reached_body row.body

abbrev pub is_refuted : Row → Bool
is_refuted row = is_refuted_body row.body

abbrev pub is_undecided : Row → Bool
is_undecided row = is_undecided_body row.body

-- how many rows have each verdict
pub record AreCounts (rows : List Row) (counts : Counts) : Type 0 where
  pub reached : counts.reached ≡ count_by is_reached rows
  pub refuted : counts.refuted ≡ count_by is_refuted rows
  pub undecided : counts.undecided ≡ count_by is_undecided rows

abbrev pub summary_value : ℕ → Counts → ℕ → Data
summary_value hosts counts routes = object (member (codes "hosts") (number (unsigned hosts)) (member (codes "reached") (number (unsigned counts.reached)) (member (codes "refuted") (number (unsigned counts.refuted)) (member (codes "routes") (number (unsigned routes)) (member (codes "undecided") (number (unsigned counts.undecided)) no_members)))))

-- the line of so many hosts and all their rows
unfoldable pub summary_line : ℕ → Counts → ℕ → List ℕ
summary_line hosts counts routes = line_of (summary_value hosts counts routes)

-- ---- writing

-- all rows are appended, and counted
abbrev pub WroteAll : Config → Budgets → Option (List ℕ) → Option (List ℕ) → Counts → Type 0
WroteAll c b old new counts = (rows : List Row) × AreAllRows c b rows × AreCounts rows counts × Appends old new (row_lines rows)

-- a front of rows is appended
abbrev pub WroteSome : Config → Budgets → Option (List ℕ) → Option (List ℕ) → Type 0
WroteSome c b old new = (bytes : List ℕ) × BeginsRows c b bytes × Appends old new bytes

pub record WroteRows (c : Config) (b : Budgets) (old new : SinkState) (result : Result Counts WriteFail) : Type 0 where
  pub ok : IfOk result (WroteAll c b old.written new.written)
  pub err : OnErr result (WroteSome c b old.written new.written)
  pub cause : HasWriteCause old.faults new.faults result
