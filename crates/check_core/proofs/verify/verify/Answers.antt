use Rattle.std.proofs.Common.{refl, inr, sym, ap, subst, Bool, IsTrue}
use Rattle.read_config.specs.Configs.{config_of}
use Rattle.check_core.specs.Outside.{Outside}
use Rattle.check_core.specs.Calls.{verify_of}
use Rattle.check_core.proofs.Ends.{ended_within, ended_from, either_handed, not_stopped}
use Rattle.check_core.proofs.CommandEnds.{verify_leads, report_ended, verdict_failed, verdict_done, held_after}
use Rattle.check_core.proofs.verify.verify.Goals as goal

pub returns-in_err-config-clause-ended : goal.returns-in_err-config-clause-ended
returns-in_err-config-clause-ended g c =
    either_handed _ _ _ _ c.from_residual.ensures
    (ended_within _ _ _ _ _ _ _ _ _ (verify_leads (verify_of c.args.words.now) _) c.in_err-config.ensures.ended)

pub judge_report-requires-clause-admitted : goal.judge_report-requires-clause-admitted
judge_report-requires-clause-admitted g c =
    subst (λ (b : Bool). IsTrue b) (sym (c.in_ok-config.ensures.names c.args.words.now.report.now))
    (c.requires c.args.words.now.report.now (inr (refl, not_stopped config_of _ _ _ c.in_ok-config.ensures.holds)))

pub returns-in_err-verdict-clause-ended : goal.returns-in_err-verdict-clause-ended
returns-in_err-verdict-clause-ended g c =
    let first = c.in_ok-config.ensures in
    either_handed _ _ _ _ c.from_residual-in_err-verdict.ensures
    (ended_from _ _ _ _ _ _ _ first.same
    (report_ended (verify_of c.args.words.now) _ (g.F.Files.state c.read_input.new.files) (g.F.Files.state c.judge_report.new.files) _ _ _ refl
    (held_after _ _ _ _ (ap (λ (o : Outside). o.files) first.same) first.holds) c.in_err-verdict.ensures.long c.in_err-verdict.ensures.cause))

pub returns-in_err-write_verdict-clause-ended : goal.returns-in_err-write_verdict-clause-ended
returns-in_err-write_verdict-clause-ended g c =
    let first = c.in_ok-config.ensures in
    either_handed _ _ _ _ c.from_residual-in_err-write_verdict.ensures
    (ended_from _ _ _ _ _ _ _ first.same
    (verdict_failed (verify_of c.args.words.now) _ _ (g.F.Files.state c.read_input.new.files) (g.F.Files.state c.judge_report.new.files) _ _ _ _ refl
    (held_after _ _ _ _ (ap (λ (o : Outside). o.files) first.same) first.holds) c.in_ok-verdict.ensures.judged c.in_err-write_verdict.ensures))

pub returns-clause-ended : goal.returns-clause-ended
returns-clause-ended g c =
    let first = c.in_ok-config.ensures in
    ended_from _ _ _ _ _ _ _ first.same
    (verdict_done (verify_of c.args.words.now) _ _ (g.F.Files.state c.read_input.new.files) (g.F.Files.state c.judge_report.new.files) _ _ _ _ c.status_of.ensures c.in_ok-verdict.ensures.cause.kept
    (held_after _ _ _ _ (ap (λ (o : Outside). o.files) first.same) first.holds) c.in_ok-verdict.ensures.judged c.in_ok-write_verdict.ensures)
