-- What the code answers of a report.
use Rattle.std.specs.Prelude.{ℕ, List, [], Option, IfSome}
use Rattle.outside.specs.Contents.{Contents, find}
use Rattle.serde_json.specs.Data.{Data}
use Rattle.cfg_types.specs.declared.configs.Config.{Config}
use Rattle.test_run.specs.Lines.{line_of}
use Rattle.check_core.specs.Verify.{accepted_value, rejected_value, IsJudged}
use Rattle.check_core.specs.declared.verify.Verdict.{Verdict}
use Rattle.check_core.specs.declared.verify.Verdict.TheVariants.{Accepted, Rejected}
use Rattle.check_core.specs.declared.status.Status.{Status}
use Rattle.check_core.specs.declared.status.Status.TheVariants as status

abbrev pub verdict_value : Verdict → Data
verdict_value (Accepted rows) = accepted_value rows
verdict_value (Rejected row) = rejected_value row

unfoldable pub verdict_line : Verdict → List ℕ
verdict_line verdict = line_of (verdict_value verdict)

abbrev pub verdict_status : Verdict → Status
verdict_status (Accepted rows) = status.Done
verdict_status (Rejected row) = status.Rejected

-- what holds of the bytes of a file, where it is told
abbrev pub OfFile : Option Contents → List ℕ → (List ℕ → Type 0) → Type 0
OfFile told name P = IfSome told (λ files. IfSome (find name files) P)

-- the verdict is the one that is due, where the report is told
abbrev pub IsVerdictOn : Config → Option Contents → List ℕ → Verdict → Type 0
IsVerdictOn c told name verdict = OfFile told name (λ report. IsJudged c report (verdict_line verdict) (verdict_status verdict))

-- a line is too long, where the report is told
abbrev pub IsCutLong : Config → Option Contents → List ℕ → Type 0
IsCutLong c told name = OfFile told name (λ report. IsJudged c report [] status.TooLong)
