use Rattle.check_core.specs.Calls.{reach_of}
use Rattle.std.proofs.Common.{refl, ap}
use Rattle.check_core.specs.Outside.{Outside}
use Rattle.check_core.proofs.Ends.{ended_within, ended_from, either_handed}
use Rattle.check_core.proofs.CommandEnds.{reach_leads, held_after, rows_failed, rows_done}
use Rattle.check_core.proofs.reach.reach.Goals as goal

pub returns-in_err-config-clause-ended : goal.returns-in_err-config-clause-ended
returns-in_err-config-clause-ended g c =
    either_handed _ _ _ _ c.from_residual.ensures
    (ended_within _ _ _ _ _ _ _ _ _ (reach_leads _ (reach_of c.args.words.now)) c.in_err-config.ensures.ended)

pub returns-in_err-write_rows-clause-ended : goal.returns-in_err-write_rows-clause-ended
returns-in_err-write_rows-clause-ended g c =
    either_handed _ _ _ _ c.from_residual-in_err-write_rows.ensures
    (ended_from _ _ _ _ _ _ _ c.in_ok-config.ensures.same
    (rows_failed (reach_of c.args.words.now) _ (g.F.Files.state c.read_input.new.files) _ _ (held_after _ _ _ _ (ap (λ (o : Outside). o.files) c.in_ok-config.ensures.same) c.in_ok-config.ensures.holds) _ _ refl c.in_err-write_rows.ensures))

pub returns-clause-ended : goal.returns-clause-ended
returns-clause-ended g c =
    ended_from _ _ _ _ _ _ _ c.in_ok-config.ensures.same
    (rows_done (reach_of c.args.words.now) _ (g.F.Files.state c.read_input.new.files) _ _ (held_after _ _ _ _ (ap (λ (o : Outside). o.files) c.in_ok-config.ensures.same) c.in_ok-config.ensures.holds) _ c.in_ok-write_rows.ensures)
