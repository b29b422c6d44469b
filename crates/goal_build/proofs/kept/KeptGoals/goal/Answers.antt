use Rattle.std.proofs.Common.{sym, subst}
use Rattle.std.proofs.lemmas.Result.{IfOk-weaker}
use Rattle.goal_build.specs.HostGoals.{IsPlace}
use Rattle.goal_build.proofs.SentLaws.{sent_law}
use Rattle.goal_build.proofs.Spots.{route_has_guard}
use Rattle.goal_build.proofs.WellFormed.{well_formed_law}
use Rattle.goal_build.proofs.kept.KeptGoals.goal.Goals as goal

pub guard_of-at-requires : goal.guard_of-at-requires
guard_of-at-requires c =
    let kept = c.in_ok-kept.ensures in
    route_has_guard c.args.config.now c.args.route _ _ c.in_ok-kept.kept.goals kept.kept.goals
    (subst (λ h. IsPlace c.args.config.now c.args.route h c.host_from-host.result.1) (sym kept.host) c.host_from-host.ensures)

pub returns-clause-formed : goal.returns-clause-formed
returns-clause-formed c =
    IfOk-weaker c.goal-goal.result _ _ (λ g is. well_formed_law c.args.config.now c.args.route g c.requires.lawful is)
    (c.goal-goal.ensures c.args.config.now _ c.args.route c.in_ok-kept.ensures.kept.goals c.guard_of-at.ensures.route)

pub returns-clause-sent : goal.returns-clause-sent
returns-clause-sent c =
    IfOk-weaker c.goal-goal.result _ _ (λ g is. λ q valid. sent_law c.args.config.now c.args.route g q c.requires.lawful is valid)
    (c.goal-goal.ensures c.args.config.now _ c.args.route c.in_ok-kept.ensures.kept.goals c.guard_of-at.ensures.route)
