use Rattle.std.proofs.Common.{refl, inr, sym, ap, subst, Bool, IsTrue}
use Rattle.read_config.specs.Configs.{config_of}
use Rattle.check_core.specs.Outside.{Outside}
use Rattle.check_core.specs.Calls.{check_of}
use Rattle.check_core.proofs.Ends.{ended_within, ended_from, either_handed, not_stopped, write_ended}
use Rattle.check_core.proofs.CheckEnds.{config_leads, tests_lead, due_last, verdicts_end}
use Rattle.check_core.proofs.check.check.Goals as goal

pub returns-in_err-config-clause-ended : goal.returns-in_err-config-clause-ended
returns-in_err-config-clause-ended g c =
    either_handed _ _ _ _ c.from_residual.ensures
    (ended_within _ _ _ _ _ _ _ _ _ (config_leads _ (check_of c.args.words.now)) c.in_err-config.ensures.ended)

pub read_input-requires-2 : goal.read_input-requires-2
read_input-requires-2 g c =
    subst (λ (b : Bool). IsTrue b) (sym (c.in_ok-config.ensures.names c.args.words.now.tests.now))
    (c.requires c.args.words.now.tests.now (inr (refl, not_stopped config_of _ _ _ c.in_ok-config.ensures.holds)))

pub returns-in_err-tests-clause-ended : goal.returns-in_err-tests-clause-ended
returns-in_err-tests-clause-ended g c =
    either_handed _ _ _ _ c.from_residual-in_err-tests.ensures
    (ended_within _ _ _ _ _ _ _ _ _ (tests_lead _ (check_of c.args.words.now) _ c.in_ok-config.ensures.holds)
    (ended_from _ _ _ _ _ _ _ c.in_ok-config.ensures.same c.in_err-tests.ensures.ended))

pub returns-in_err-status-clause-ended : goal.returns-in_err-status-clause-ended
returns-in_err-status-clause-ended g c =
    let first = c.in_ok-config.ensures in
    let second = c.in_ok-tests.ensures in
    either_handed _ _ _ _ c.from_residual-in_err-status.ensures
    (ended_from _ _ _ _ _ _ _ first.same (ended_from _ _ _ _ _ _ _ second.same
    (write_ended _ _ _ (g.F.Files.state c.read_input-2.new.files) (g.F.Files.state c.read_input-2.new.files) _ _ _ _ _ refl
    (due_last _ _ _ (check_of c.args.words.now) _ _ (ap (λ (o : Outside). o.files) first.same) (ap (λ (o : Outside). o.files) second.same) first.holds second.holds)
    (rw c.as_slice.ensures at c.in_err-status.ensures.text))))

pub returns-clause-ended : goal.returns-clause-ended
returns-clause-ended g c =
    let first = c.in_ok-config.ensures in
    let second = c.in_ok-tests.ensures in
    ended_from _ _ _ _ _ _ _ first.same (ended_from _ _ _ _ _ _ _ second.same
    (verdicts_end (check_of c.args.words.now) _ _ _ (g.F.Files.state c.read_input-2.new.files) _ _ _ (rw c.as_slice.ensures at c.in_ok-status.ensures.status)
    (due_last _ _ _ (check_of c.args.words.now) _ _ (ap (λ (o : Outside). o.files) first.same) (ap (λ (o : Outside). o.files) second.same) first.holds second.holds)
    (rw c.as_slice.ensures at c.in_ok-status.ensures.text)))
