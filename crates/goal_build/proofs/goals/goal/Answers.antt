use Rattle.std.proofs.lemmas.Result.{IfOk-weaker}
use Rattle.goal_build.proofs.SentLaws.{sent_law}
use Rattle.goal_build.proofs.Spots.{route_has_guard}
use Rattle.goal_build.proofs.WellFormed.{well_formed_law}
use Rattle.goal_build.proofs.goals.goal.Goals as goal

pub guard_of-at-requires : goal.guard_of-at-requires
guard_of-at-requires c = route_has_guard c.args.config.now c.args.route _ _ c.in_ok-goals.goals c.in_ok-goals.ensures c.host_from-host.ensures

pub returns-clause-formed : goal.returns-clause-formed
returns-clause-formed c =
    IfOk-weaker c.goal.result _ _ (λ g is. well_formed_law c.args.config.now c.args.route g c.requires.lawful is)
    (c.goal.ensures c.args.config.now _ c.args.route c.in_ok-goals.ensures c.guard_of-at.ensures.route)

pub returns-clause-sent : goal.returns-clause-sent
returns-clause-sent c =
    IfOk-weaker c.goal.result _ _ (λ g is. λ q valid. sent_law c.args.config.now c.args.route g q c.requires.lawful is valid)
    (c.goal.ensures c.args.config.now _ c.args.route c.in_ok-goals.ensures c.guard_of-at.ensures.route)
