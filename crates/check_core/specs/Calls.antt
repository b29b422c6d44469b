-- The command that a call stands for, as the code keeps it, and the bounds of its numbers.
use Rattle.std.specs.Prelude.{ℕ, ◌≤◌}
use Rattle.cert_check.specs.LawfulRows.{AreBudgets}
use Rattle.check_core.specs.Words.{CheckCall, ReachCall, VerifyCall, Command, check, reach, verify, sample}
use Rattle.check_core.specs.declared.calls.CheckWords.{CheckWords}
use Rattle.check_core.specs.declared.calls.ReachWords.{ReachWords}
use Rattle.check_core.specs.declared.calls.VerifyWords.{VerifyWords}
use Rattle.check_core.specs.declared.calls.Call.{Call}
use Rattle.check_core.specs.declared.calls.Call.TheVariants as call

abbrev pub check_of : CheckWords → CheckCall
check_of w = record { config = w.config.now; tests = w.tests.now; fail_under = w.fail_under; only_failures = w.only_failures }

abbrev pub reach_of : ReachWords → ReachCall
reach_of w = record { config = w.config.now; budgets = w.budgets }

abbrev pub verify_of : VerifyWords → VerifyCall
verify_of w = record { config = w.config.now; report = w.report.now }

abbrev pub command_of : Call → Command
command_of (call.Check w) = check (check_of w)
command_of (call.Reach w) = reach (reach_of w)
command_of (call.Verify w) = verify (verify_of w)
command_of (call.Sample hosts) = sample hosts

-- a number of hosts that the sample may have
pub record IsHostCount (n : ℕ) : Type 0 where
  pub some : 1 ≤ n
  pub few : n ≤ 2000

-- the numbers are within the bounds of the options and arguments
abbrev pub IsWithinBounds : Call → Type 0
IsWithinBounds (call.Check w) = Unit {0}
IsWithinBounds (call.Reach w) = AreBudgets w.budgets.splits w.budgets.states
IsWithinBounds (call.Verify w) = Unit {0}
IsWithinBounds (call.Sample hosts) = IsHostCount hosts
