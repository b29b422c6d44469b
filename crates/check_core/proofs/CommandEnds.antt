-- How `reach`, `verify` and `sample` go from step to step.
use Rattle.std.proofs.Common.{◌≡◌, inl, inr, ℕ, List, [], ◌++◌, length, true, Option, Some, Ok, Err, IsErrOf, refl, sym, ◌∙◌, ap, subst}
use Rattle.outside.specs.Contents.{Contents, find}
use Rattle.outside.specs.Faults.{HasReadCause}
use Rattle.outside.specs.States.{FilesState, SinkState}
use Rattle.outside.specs.Written.{Wrote}
use Rattle.outside.specs.declared.sink.WriteFail.{WriteFail}
use Rattle.outside.specs.declared.whole.FileFail.{FileFail}
use Rattle.outside.specs.declared.whole.FileFail.TheVariants as file
use Rattle.outside.proofs.Parts.{cause_later}
use Rattle.cfg_types.specs.Order.{routes}
use Rattle.cfg_types.specs.declared.configs.Config.{Config}
use Rattle.goal_form.specs.declared.goal.Row.{Row}
use Rattle.read_config.specs.Configs.{config_of}
use Rattle.sample_make.specs.Samples.{made}
use Rattle.check_core.specs.Status.{is_final, read_status_of, write_status_of}
use Rattle.check_core.specs.Begun.{FrontOf, NothingOrFrontOf}
use Rattle.check_core.specs.Inputs.{IsThere, ConfigEnds}
use Rattle.check_core.specs.Outside.{outside}
use Rattle.check_core.specs.Rows.{row_lines, summary_line, WroteRows}
use Rattle.check_core.specs.Reach.{Reaches, ReachBegins, by_config, by_rows, with_config, with_rows}
use Rattle.check_core.specs.Verify.{Verifies, IsJudged}
use Rattle.check_core.specs.Verify as verified
use Rattle.check_core.specs.Verdicts.{verdict_line, verdict_status, OfFile, IsVerdictOn, IsCutLong}
use Rattle.check_core.specs.Sample.{Samples, SampleBegins, AreSampleRows, default_budgets}
use Rattle.check_core.specs.Sample as sampled
use Rattle.check_core.specs.Run.{AreThere}
use Rattle.check_core.specs.Steps.{HoldsTold, Ended, whole, too_long, read_fault, no_memory}
use Rattle.check_core.specs.Words.{ReachCall, VerifyCall, reach, verify, sample}
use Rattle.check_core.specs.declared.counts.Counts.{Counts}
use Rattle.check_core.specs.declared.verify.Verdict.{Verdict}
use Rattle.check_core.specs.declared.verify.Verdict.TheVariants.{Accepted, Rejected}
use Rattle.check_core.specs.declared.status.Status.{Status}
use Rattle.check_core.specs.declared.status.Status.TheVariants.{Done, TooLong}
use Rattle.check_core.proofs.Ends.{Leads, front_leads, not_stopped, failed_ended}
use Rattle.check_core.proofs.LineEnds.{appends_on}

-- what the configuration holds is still known where files tell the same
pub held_after : (name : List ℕ) (told mid : Option Contents) (c : Config) → mid ≡ told → HoldsTold config_of name told c → HoldsTold config_of name mid c
held_after name told mid c same is files e there = is files (sym same ∙ e) there

-- ---- reach

module _ (told : Option Contents) (call : ReachCall) where
  pub reach_leads : Leads (IsThere call.config) (AreThere (reach call)) (ConfigEnds call.config) (Reaches call) (FrontOf (ConfigEnds call.config)) (ReachBegins call) told
  reach_leads = record {
    there = λ files e within. within call.config refl;
    text = λ files e within text status ends. by_config ends;
    front = λ files e within bytes b. with_config b;
  }

module _ (call : ReachCall) (c : Config) (f : FilesState) (k0 k1 : SinkState) (is : HoldsTold config_of call.config f.told c) where
  pub rows_failed : (status : Status) (fail : WriteFail) → status ≡ write_status_of fail → WroteRows c call.budgets k0 k1 (Err fail) → Ended (AreThere (reach call)) (Reaches call) (ReachBegins call) (outside f k0) (outside f k1) status
  rows_failed status fail e wrote =
      failed_ended {T = Counts} status f f k0 k1 (AreThere (reach call)) (Reaches call) (ReachBegins call) fail e wrote.cause
      (λ files t there. (wrote.err.0, with_rows c (is files t (there call.config refl)) wrote.err.1, wrote.err.2))

  pub rows_done : (counts : Counts) → WroteRows c call.budgets k0 k1 (Ok counts) → Ended (AreThere (reach call)) (Reaches call) (ReachBegins call) (outside f k0) (outside f k1) Done
  rows_done counts wrote =
      let (rows, all, counted, app) = wrote.ok in
      whole refl (refl, wrote.cause.kept) (λ files t there. (row_lines rows, by_rows c rows (is files t (there call.config refl)) all refl refl, app))

-- ---- sample

module _ (hosts : ℕ) (f : FilesState) (k0 k1 : SinkState) where
  pub sample_failed : (status : Status) (fail : WriteFail) → status ≡ write_status_of fail → WroteRows (made hosts) default_budgets k0 k1 (Err fail) → Ended (AreThere (sample hosts)) (Samples hosts) (SampleBegins hosts) (outside f k0) (outside f k1) status
  sample_failed status fail e wrote =
      failed_ended {T = Counts} status f f k0 k1 (AreThere (sample hosts)) (Samples hosts) (SampleBegins hosts) fail e wrote.cause
      (λ files t there. (wrote.err.0, sampled.with_rows wrote.err.1, wrote.err.2))

module _ (hosts : ℕ) (counts : Counts) (routes_are : ℕ) (f : FilesState) (k0 k1 k2 : SinkState) (wrote : WroteRows (made hosts) default_budgets k0 k1 (Ok counts)) (count : routes_are ≡ length (routes (made hosts))) where
  -- the summary tells how many rows there are
  same_line : (rows : List Row) → length rows ≡ length (routes (made hosts)) → summary_line hosts counts routes_are ≡ summary_line hosts counts (length rows)
  same_line rows all = ap (summary_line hosts counts) (count ∙ sym all)

  pub summary_failed : {T : Type 0} (status : Status) (fail : WriteFail) → status ≡ write_status_of fail → Wrote {T = T} k1 k2 (summary_line hosts counts routes_are) (Err fail) → Ended (AreThere (sample hosts)) (Samples hosts) (SampleBegins hosts) (outside f k0) (outside f k2) status
  summary_failed {T} status fail e line =
      let (rows, all, counted, app) = wrote.ok in
      let (front, part, more) = line.err in
      failed_ended {T = T} status f f k0 k2 (AreThere (sample hosts)) (Samples hosts) (SampleBegins hosts) fail e (cause_later {T = T} {U = T} k0.faults k1.faults k2.faults fail wrote.cause.kept line.cause)
      (λ files t there. (
        row_lines rows ++ front,
        sampled.with_summary rows counts front (record { all = all; counted = counted }) (part.0, sym (same_line rows all.all) ∙ part.1) refl,
        appends_on k0.written k1.written k2.written (row_lines rows) front app more,
      ))

  pub summary_done : {T : Type 0} (x : T) → Wrote {T = T} k1 k2 (summary_line hosts counts routes_are) (Ok x) → Ended (AreThere (sample hosts)) (Samples hosts) (SampleBegins hosts) (outside f k0) (outside f k2) Done
  summary_done x line =
      let (rows, all, counted, app) = wrote.ok in
      whole refl (refl, line.cause.kept ∙ wrote.cause.kept) (λ files t there. (
        row_lines rows ++ summary_line hosts counts routes_are,
        sampled.by_rows rows counts (record { all = all; counted = counted }) (ap (λ s. row_lines rows ++ s) (same_line rows all.all)) refl,
        appends_on k0.written k1.written k2.written (row_lines rows) (summary_line hosts counts routes_are) app line.ok,
      ))

-- ---- verify

module _ (call : VerifyCall) where
  pub verify_leads : (told : Option Contents) → Leads (IsThere call.config) (AreThere (verify call)) (ConfigEnds call.config) (Verifies call) (FrontOf (ConfigEnds call.config)) (NothingOrFrontOf (Verifies call)) told
  verify_leads told = record {
    there = λ files e within. within call.config (inl refl);
    text = λ files e within text status ends. verified.by_config ends;
    front = λ files e within bytes b. inr (front_leads (ConfigEnds call.config) (Verifies call) files (λ text status ends. verified.by_config ends) bytes b);
  }

  -- after the configuration the report is asked for
  report_there : (told : Option Contents) (files : Contents) (c : Config) → HoldsTold config_of call.config told c → told ≡ Some files → AreThere (verify call) files → IsThere call.report files
  report_there told files c is e within = within call.report (inr (refl, not_stopped config_of (Some files) call.config c (λ f e2 th. is f (e ∙ e2) th)))

  -- what is said of the report's bytes holds where it is there
  of_report : (P : List ℕ → Type 0) (told : Option Contents) (files : Contents) (bytes : List ℕ) → told ≡ Some files → find call.report files ≡ Some bytes → OfFile told call.report P → P bytes
  of_report P told files bytes e f h = rw (e, f) at h

  -- a judged report has its text and status
  judged_due : (told : Option Contents) (c : Config) (text : List ℕ) (status : Status) → HoldsTold config_of call.config told c → OfFile told call.report (λ report. IsJudged c report text status) →
      (files : Contents) → told ≡ Some files → AreThere (verify call) files → Verifies call files text status
  judged_due told c text status is judged files e within =
      let (report, held) = report_there told files c is e within in
      verified.by_report c report (is files e (within call.config (inl refl))) held (of_report (λ report. IsJudged c report text status) told files report e held judged)

  -- the report isn't read to its end
  pub report_ended : {T : Type 0} (c : Config) (f0 f1 : FilesState) (out : SinkState) (fail : FileFail) (status : Status) → status ≡ read_status_of fail → HoldsTold config_of call.config f0.told c →
      (IsErrOf {T = T} (Err fail) file.TooLong → IsCutLong c f0.told call.report) → HasReadCause {T = T} f0.faults f1.faults (Err fail) →
      Ended (AreThere (verify call)) (Verifies call) (NothingOrFrontOf (Verifies call)) (outside f0 out) (outside f1 out) status
  report_ended c f0 f1 out file.Failed status e is long cause = read_fault e (cause.failed refl) refl
  report_ended c f0 f1 out file.TooLong status e is long cause =
      too_long e (cause.long refl, refl) refl (λ files t within. subst (λ s. Verifies call files [] s) (sym e) (judged_due f0.told c [] TooLong is (long refl) files t within))
  report_ended c f0 f1 out file.OutOfMemory status e is long cause = no_memory e (λ files t within. inr refl)

  final_verdict : (v : Verdict) → is_final (verdict_status v) ≡ true
  final_verdict (Accepted rows) = refl
  final_verdict (Rejected row) = refl

  pub verdict_failed : {T : Type 0} (c : Config) (v : Verdict) (f0 f1 : FilesState) (k0 k1 : SinkState) (status : Status) (fail : WriteFail) → status ≡ write_status_of fail → HoldsTold config_of call.config f0.told c →
      IsVerdictOn c f0.told call.report v → Wrote {T = T} k0 k1 (verdict_line v) (Err fail) → Ended (AreThere (verify call)) (Verifies call) (NothingOrFrontOf (Verifies call)) (outside f0 k0) (outside f1 k1) status
  verdict_failed {T} c v f0 f1 k0 k1 status fail e is judged wrote =
      failed_ended {T = T} status f0 f1 k0 k1 (AreThere (verify call)) (Verifies call) (NothingOrFrontOf (Verifies call)) fail e wrote.cause
      (λ files t within. (wrote.err.0, inr (verdict_line v, verdict_status v, judged_due f0.told c (verdict_line v) (verdict_status v) is judged files t within, wrote.err.1), wrote.err.2))

  pub verdict_done : {T : Type 0} (c : Config) (v : Verdict) (f0 f1 : FilesState) (k0 k1 : SinkState) (status : Status) (x : T) → status ≡ verdict_status v → f1.faults ≡ f0.faults → HoldsTold config_of call.config f0.told c →
      IsVerdictOn c f0.told call.report v → Wrote {T = T} k0 k1 (verdict_line v) (Ok x) → Ended (AreThere (verify call)) (Verifies call) (NothingOrFrontOf (Verifies call)) (outside f0 k0) (outside f1 k1) status
  verdict_done c v f0 f1 k0 k1 status x e same is judged wrote =
      subst (λ s. Ended (AreThere (verify call)) (Verifies call) (NothingOrFrontOf (Verifies call)) (outside f0 k0) (outside f1 k1) s) (sym e)
      (whole (final_verdict v) (same, wrote.cause.kept) (λ files t within. (verdict_line v, judged_due f0.told c (verdict_line v) (verdict_status v) is judged files t within, wrote.ok)))
