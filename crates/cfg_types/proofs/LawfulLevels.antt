-- The levels of a lawful configuration's edits are lawful.
use Rattle.std.proofs.Common.{◌≡◌, ℕ, Bool, true, false, List, [], ◌∷◌, Option, Some, None, ◌++◌, ◌∙◌, slice_get, refl, sym}
use Rattle.std.specs.Prelude.{All, option_and_then}
use Rattle.std.proofs.lemmas.List.Elements.{All-nil, All-cons, All-head, All-tail, All-append}
use Rattle.text_base.specs.Asked.{Asked}
use Rattle.cfg_types.specs.Order.{routes, routes_of_hosts, route_hosts, host_routes, body_routes}
use Rattle.cfg_types.specs.Shares.{picked_share}
use Rattle.cfg_types.specs.HeaderEdits.{in_order}
use Rattle.cfg_types.specs.Answers.{share_of, share_in, share_levels, levels, host_of_route}
use Rattle.cfg_types.specs.Lawful.{IsLawful, IsLawfulHost, IsLawfulBody, IsLawfulRoute, IsLawfulAct, IsLawfulTarget, IsLawfulShare, IsLawfulPair}
use Rattle.cfg_types.specs.declared.configs.Config.{Config}
use Rattle.cfg_types.specs.declared.configs.Host.{Host}
use Rattle.cfg_types.specs.declared.configs.Body.{Body}
use Rattle.cfg_types.specs.declared.configs.Body.TheVariants as body
use Rattle.cfg_types.specs.declared.routes.Route.{Route}
use Rattle.cfg_types.specs.declared.changes.EditPair.{EditPair}
use Rattle.cfg_types.specs.declared.actions.Share.{Share}
use Rattle.cfg_types.specs.declared.actions.Act.{Act}
use Rattle.cfg_types.specs.declared.actions.Act.TheVariants as act
use Rattle.cfg_types.specs.declared.actions.Target.{Target}
use Rattle.cfg_types.specs.declared.actions.Target.TheVariants as to
use Rattle.cfg_types.proofs.Members.{All-at, Has-get}

-- ---- hosts, routes and shares

pub body-lawful : (b : Body) → IsLawfulBody b → All IsLawfulRoute (body_routes b)
body-lawful (body.List rs) l = l.routes
body-lawful (body.Tree t) l = l.routes

routes-lawful : (hs : List Host) → All IsLawfulHost hs → All IsLawfulRoute (routes_of_hosts hs)
routes-lawful [] a = All-nil IsLawfulRoute
routes-lawful (h ∷ hs) a =
    All-append IsLawfulRoute (host_routes h) (routes_of_hosts hs) (body-lawful h.body (All-head IsLawfulHost h hs a).body) (routes-lawful hs (All-tail IsLawfulHost h hs a))

pub route_lawful : (c : Config) (n : ℕ) (r : Route) → IsLawful c → slice_get (routes c) n ≡ Some r → IsLawfulRoute r
route_lawful c n r l e = All-at IsLawfulRoute (routes c) r (routes-lawful c.hosts l.hosts) (Has-get (routes c) n r e)

host_lawful : (c : Config) (n : ℕ) (h : Host) → IsLawful c → host_of_route c n ≡ Some h → IsLawfulHost h
host_lawful c n h l e = by (slice_get (route_hosts c) n) e
  where
    by : (o : Option ℕ) → option_and_then (slice_get c.hosts) o ≡ Some h → IsLawfulHost h
    by None e = absurd (cc)
    by (Some i) e = All-at IsLawfulHost c.hosts h l.hosts (Has-get c.hosts i h e)

target_share : (t : Target) (q : Asked) (s : Share) → IsLawfulTarget t → share_of t q ≡ Some s → IsLawfulShare s
target_share (to.Cluster name) q s l e = absurd (cc)
target_share (to.FromHeader name) q s l e = absurd (cc)
target_share (to.Weighted shares) q s l e = by (picked_share shares q.random) e
  where
    by : (o : Option ℕ) → option_and_then (slice_get shares) o ≡ Some s → IsLawfulShare s
    by None e = absurd (cc)
    by (Some i) e = All-at IsLawfulShare shares s l.each (Has-get shares i s e)

act_share : (a : Act) (q : Asked) (s : Share) → IsLawfulAct a → share_in a q ≡ Some s → IsLawfulShare s
act_share (act.Forward f) q s l e = target_share f.to q s l.to e
act_share (act.Redirect x) q s l e = absurd (cc)
act_share (act.Direct status) q s l e = absurd (cc)

-- ---- levels

module _ (P : EditPair → Type 0) where
  three : (a b c : EditPair) → P a → P b → P c → All P (a ∷ b ∷ c ∷ [])
  three a b c p q r = All-cons P a (b ∷ c ∷ []) p (All-cons P b (c ∷ []) q (All-cons P c [] r (All-nil P)))

  four : (a b c d : EditPair) → P a → P b → P c → P d → All P (a ∷ b ∷ c ∷ d ∷ [])
  four a b c d p q r s = All-cons P a (b ∷ c ∷ d ∷ []) p (three b c d q r s)

  ordered : (wins : Bool) (share : Option Share) (route host config : EditPair) → ((s : Share) → share ≡ Some s → P s.edits) → P route → P host → P config →
      All P (in_order wins (share_levels share ++ (route ∷ host ∷ config ∷ [])))
  ordered true None route host config k p q r = three config host route r q p
  ordered false None route host config k p q r = three route host config p q r
  ordered true (Some s) route host config k p q r = four config host route s.edits r q p (k s refl)
  ordered false (Some s) route host config k p q r = four s.edits route host config (k s refl) p q r

pub levels_lawful : (c : Config) (n : ℕ) (q : Asked) (host : Host) (route : Route) (share : Option Share) → IsLawful c → slice_get (routes c) n ≡ Some route →
    host_of_route c n ≡ Some host → share ≡ share_in route.act q → All IsLawfulPair (levels c host route share)
levels_lawful c n q host route share l r h e =
    let routed = route_lawful c n route l r in
    ordered IsLawfulPair c.specific_wins share route.edits host.edits c.edits (λ s k. (act_share route.act q s routed.act (sym e ∙ k)).edits) routed.edits (host_lawful c n host l h).edits l.edits
