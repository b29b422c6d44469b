use Rattle.std.proofs.Common.{refl, length, sym, subst}
use Rattle.std.proofs.lemmas.Option.{slice_get_read}
use Rattle.cfg_types.specs.Order.{host_routes}
use Rattle.goal_form.proofs.Meanings.{list_grows}
use Rattle.match_tree.specs.Told.{AreGuards}
use Rattle.goal_build.specs.Guards.{rule_at, body_guards}
use Rattle.goal_build.specs.HostGoals.{AreRulesOf}
use Rattle.goal_build.proofs.Formulas.{each_below}
use Rattle.goal_build.proofs.Guarding.{asked_meant}
use Rattle.goal_build.proofs.Spots.{rules_there}
use Rattle.goal_build.proofs.host_goals.HostGoals.build.Goals as goal

pub invariant_of-result : goal.invariant_of-result
invariant_of-result c =
    let config = c.args.config.now in
    let own = c.index-as_slice-host.result in
    let is = slice_get_read config.hosts (length config.hosts) c.args.host own refl c.requires.within (rw c.as_slice.ensures at c.index-as_slice-host.is) in
    let rules = subst (λ n. AreRulesOf config.ignore_params n (host_routes own) (rule_at config)) (sym c.requires.first) (rules_there config c.args.host own is) in
    let shared = list_grows _ _ _ _ c.in_ok-guards.ensures.kept c.in_ok-shared.ensures.meant in
    record { shared_below = each_below _ _ _ shared; guards_below = each_below _ _ _ (asked_meant _ _ _ (c.in_ok-guards.ensures.meant (rule_at config) rules)) }

pub returns : goal.returns
returns c =
    let config = c.args.config.now in
    let own = c.index-as_slice-host.result in
    let is = slice_get_read config.hosts (length config.hosts) c.args.host own refl c.requires.within (rw c.as_slice.ensures at c.index-as_slice-host.is) in
    let rules = subst (λ n. AreRulesOf config.ignore_params n (host_routes own) (rule_at config)) (sym c.requires.first) (rules_there config c.args.host own is) in
    record {
      host = own;
      is_host = is;
      shared = list_grows _ _ _ _ c.in_ok-guards.ensures.kept c.in_ok-shared.ensures.meant;
      guarded = subst (λ n. AreGuards c.body_formulas.new.atoms c.in_ok-guards.guards (body_guards (rule_at config) n own.body)) c.requires.first (c.in_ok-guards.ensures.meant (rule_at config) rules);
    }
