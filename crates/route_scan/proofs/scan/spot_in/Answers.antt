use Rattle.std.proofs.Common.{◌≡◌, ◌<◌, ◌+◌, length, None, get_or, arith, sym, ap, ◌∙◌, subst}
use Rattle.cfg_types.specs.Choices.{needs_tls, routes_before}
use Rattle.host_pick.specs.Tables.{host_in}
use Rattle.route_scan.specs.Walks.{IsTreeOf, tree_room}
use Rattle.route_scan.proofs.Firsts.{before_next}
use Rattle.route_scan.proofs.Spotted.{spot_there, spot_within, listed_spot, unmatched_spot, matched_spot, tree_fits, default_at}
use Rattle.route_scan.proofs.scan.spot_in.Goals as goal

pub bounds-trees-at : goal.bounds-trees-at
bounds-trees-at c = omega (arith, c.if-at-len.false, c.len.ensures, c.requires.walks.many)

pub walk-requires : goal.walk-requires
walk-requires c =
    let lt : c.in-Some.number < length c.args.trees.now = omega (arith, c.if-at-len.false, c.len.ensures, c.requires.walks.many) in
    let fits = tree_fits c.args.trees.now c.in-Some.number c.index-trees-at.result lt c.index-trees-at.is in
    let own = ap tree_room c.in-Some-trees.is in
    omega (arith, fits, own, c.requires.room)

pub returns-in-None-clause-spot : goal.returns-in-None-clause-spot
returns-in-None-clause-spot c =
    let hosts = c.args.config.now.hosts in
    let lt : c.in-Some.number < length hosts = omega (arith, c.if-at-len.false, c.len.ensures) in
    let tlt : c.in-Some.number < length c.args.trees.now = omega (arith, lt, c.requires.walks.many) in
    let host = c.index-as_slice-at.result in
    let is : host ≡ get_or hosts c.in-Some.number host = c.index-as_slice-at.is ∙ ap (λ l. get_or l c.in-Some.number host) c.as_slice-2.ensures in
    let parts = c.parts-parts.ensures.same in
    let picked = c.in-Some.ensures ∙ ap (host_in c.args.hosts.now) (c.as_slice.ensures ∙ ap (λ p. p.authority) parts) in
    let plain = ap (λ y. needs_tls y.tls c.args.request.now) c.index-as_slice-at.is ∙ ap (needs_tls (get_or c.as_slice-2.result.now c.in-Some.number host).tls) (sym parts) ∙ sym c.if-needs_tls.ensures in
    let start = c.requires.starts.start_at c.in-Some.number (omega (arith, lt)) in
    let end = c.requires.starts.start_at (c.in-Some.number + 1) (omega (arith, lt)) in
    let more = before_next hosts c.in-Some.number host lt is in
    let tree = subst (IsTreeOf host.body (get_or c.args.starts.now c.in-Some.number 0)) (sym (default_at c.args.trees.now c.in-Some.number c.index-trees-at.result None tlt c.index-trees-at.is) ∙ c.in-None.is) (c.requires.walks.each c.in-Some.number host lt is) in
    listed_spot host.body c.args.request.now (get_or c.args.starts.now c.in-Some.number 0) c.in-Some.number (routes_before hosts c.in-Some.number) _ _ tree start (omega (arith, start, end, more))
    ∙ spot_there c.args.config.now c.args.request.now c.args.hosts.now c.in-Some.number host c.requires.hosts picked lt is plain

pub returns-in-None-clause-within : goal.returns-in-None-clause-within
returns-in-None-clause-within c = spot_within c.args.config.now c.args.request.now _ (returns-in-None-clause-spot c)

pub returns-in-Unmatched-clause-spot : goal.returns-in-Unmatched-clause-spot
returns-in-Unmatched-clause-spot c =
    let hosts = c.args.config.now.hosts in
    let lt : c.in-Some.number < length hosts = omega (arith, c.if-at-len.false, c.len.ensures) in
    let tlt : c.in-Some.number < length c.args.trees.now = omega (arith, lt, c.requires.walks.many) in
    let host = c.index-as_slice-at.result in
    let is : host ≡ get_or hosts c.in-Some.number host = c.index-as_slice-at.is ∙ ap (λ l. get_or l c.in-Some.number host) c.as_slice-2.ensures in
    let parts = c.parts-parts.ensures.same in
    let picked = c.in-Some.ensures ∙ ap (host_in c.args.hosts.now) (c.as_slice.ensures ∙ ap (λ p. p.authority) parts) in
    let plain = ap (λ y. needs_tls y.tls c.args.request.now) c.index-as_slice-at.is ∙ ap (needs_tls (get_or c.as_slice-2.result.now c.in-Some.number host).tls) (sym parts) ∙ sym c.if-needs_tls.ensures in
    let tree = subst (IsTreeOf host.body (get_or c.args.starts.now c.in-Some.number 0)) (sym (default_at c.args.trees.now c.in-Some.number c.index-trees-at.result None tlt c.index-trees-at.is) ∙ c.in-Some-trees.is) (c.requires.walks.each c.in-Some.number host lt is) in
    unmatched_spot host.body c.args.request.now (get_or c.args.starts.now c.in-Some.number 0) c.in-Some.number (routes_before hosts c.in-Some.number) c.in-Some-trees.matcher tree c.in-Unmatched.ensures.outcome
    ∙ spot_there c.args.config.now c.args.request.now c.args.hosts.now c.in-Some.number host c.requires.hosts picked lt is plain

pub returns-in-Act-clause-spot : goal.returns-in-Act-clause-spot
returns-in-Act-clause-spot c =
    let hosts = c.args.config.now.hosts in
    let lt : c.in-Some.number < length hosts = omega (arith, c.if-at-len.false, c.len.ensures) in
    let tlt : c.in-Some.number < length c.args.trees.now = omega (arith, lt, c.requires.walks.many) in
    let host = c.index-as_slice-at.result in
    let is : host ≡ get_or hosts c.in-Some.number host = c.index-as_slice-at.is ∙ ap (λ l. get_or l c.in-Some.number host) c.as_slice-2.ensures in
    let parts = c.parts-parts.ensures.same in
    let picked = c.in-Some.ensures ∙ ap (host_in c.args.hosts.now) (c.as_slice.ensures ∙ ap (λ p. p.authority) parts) in
    let plain = ap (λ y. needs_tls y.tls c.args.request.now) c.index-as_slice-at.is ∙ ap (needs_tls (get_or c.as_slice-2.result.now c.in-Some.number host).tls) (sym parts) ∙ sym c.if-needs_tls.ensures in
    let start = c.requires.starts.start_at c.in-Some.number (omega (arith, lt)) in
    let tree = subst (IsTreeOf host.body (get_or c.args.starts.now c.in-Some.number 0)) (sym (default_at c.args.trees.now c.in-Some.number c.index-trees-at.result None tlt c.index-trees-at.is) ∙ c.in-Some-trees.is) (c.requires.walks.each c.in-Some.number host lt is) in
    matched_spot host.body c.args.request.now (get_or c.args.starts.now c.in-Some.number 0) c.in-Some.number (routes_before hosts c.in-Some.number) c.in-Some-trees.matcher c.in-Act.span.now tree start c.in-Act.ensures.outcome
    ∙ spot_there c.args.config.now c.args.request.now c.args.hosts.now c.in-Some.number host c.requires.hosts picked lt is plain

pub returns-in-Act-clause-within : goal.returns-in-Act-clause-within
returns-in-Act-clause-within c = spot_within c.args.config.now c.args.request.now _ (returns-in-Act-clause-spot c)
