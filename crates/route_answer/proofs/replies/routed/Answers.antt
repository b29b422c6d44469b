use Rattle.std.proofs.Common.{sym, subst, ap, ◌∙◌}
use Rattle.std.specs.Prelude.{All}
use Rattle.cfg_types.specs.Lawful.{IsLawfulPair}
use Rattle.route_answer.specs.Levels.{pairs_of}
use Rattle.cfg_types.proofs.LawfulLevels.{route_lawful, levels_lawful}
use Rattle.route_answer.proofs.replies.routed.Goals as goal

pub picked_share-requires : goal.picked_share-requires
picked_share-requires c = (route_lawful c.args.config.now c.args.number c.route_at-route.result.now c.requires.lawful c.route_at-route.ensures).act

pub response_heads-requires-clause-lawful : goal.response_heads-requires-clause-lawful
response_heads-requires-clause-lawful c =
    subst (All IsLawfulPair) (sym (ap pairs_of c.as_slice.ensures.value ∙ c.in_ok-levels.ensures.order))
    (levels_lawful c.args.config.now c.args.number c.args.request.now c.host_at-host.result.now c.route_at-route.result.now _ c.requires.lawful c.route_at-route.ensures c.host_at-host.ensures c.picked_share.ensures)

pub forwarded-requires-clause-lawful : goal.forwarded-requires-clause-lawful
forwarded-requires-clause-lawful c =
    subst (All IsLawfulPair) (sym (ap pairs_of c.as_slice-in-Forward.ensures.value ∙ c.in_ok-levels.ensures.order))
    (levels_lawful c.args.config.now c.args.number c.args.request.now c.host_at-host.result.now c.route_at-route.result.now _ c.requires.lawful c.route_at-route.ensures c.host_at-host.ensures c.picked_share.ensures)
