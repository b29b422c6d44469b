use Rattle.std.proofs.Common.{ap, sym, ◌∙◌, take, ◌++◌, [], ◌∷◌}
use Rattle.std.proofs.lemmas.List.{take_more}
use Rattle.cfg_types.specs.Hosts.{best_of}
use Rattle.host_pick.specs.Tables.{better}
use Rattle.host_pick.proofs.Best.{best_of-push}
use Rattle.host_pick.proofs.domains.best_among.Goals as goal

pub loop-next-preserved : goal.loop-next-preserved
loop-next-preserved c =
    let i = c.loop-next.next-index in
    c.better_of-best.ensures
    ∙ ap (λ o. better c.args.host.now o c.next-item.result) c.loop-next.invariant
    ∙ sym (best_of-push c.args.host.now (take i c.args.domains.now) c.next-item.result)
    ∙ ap (λ d. best_of c.args.host.now (take i c.args.domains.now ++ d ∷ [])) c.next-item.is
    ∙ ap (best_of c.args.host.now) (sym (take_more c.args.domains.now i c.next-item.result c.loop-next-test.true))
