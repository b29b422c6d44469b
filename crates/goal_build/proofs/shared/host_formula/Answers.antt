use Rattle.std.proofs.Common.{subst, sym}
use Rattle.cfg_types.specs.Hosts.{owned}
use Rattle.goal_form.specs.Meant.{AddsMeant}
use Rattle.goal_form.proofs.Meanings.{grows_on}
use Rattle.goal_form.proofs.Meant.{adds_push, map_through}
use Rattle.goal_build.specs.Hosts.{domain_condition}
use Rattle.goal_build.proofs.Formulas.{any_all}
use Rattle.goal_build.proofs.shared.host_formula.Goals as goal

pub loop-domain-preserved : goal.loop-domain-preserved
loop-domain-preserved c =
    let i = c.loop-domain.invariant in
    let more = adds_push _ _ _ _ _ _ _ _ c.domain_formula.ensures.kept i.1 c.in_ok-domain_formula.ensures.meant c.in_ok-push.ensures.ok in
    let through = map_through (domain_condition c.args.config.now.ignore_port (owned 0 c.args.config.now.hosts) c.args.own) c.as_slice-domain-items.result.now c.loop-domain.domain-index
    c.domain-item.result c.loop-domain-test.true c.domain-item.is in
    let rest = rw c.as_slice-domain-items.ensures at through in
    (grows_on _ _ _ i.0 c.domain_formula.ensures.kept, subst (AddsMeant c.domain_formula.new.atoms c.new-members.result c.push.new.self) (sym rest) more)

pub returns-clause-meant : goal.returns-clause-meant
returns-clause-meant c =
    let past = rw c.as_slice-domain-items.ensures at c.loop-domain-test.false in
    any_all _ _ _ _ c.args.host.now.domains _ c.new-members.ensures past c.loop-domain.invariant.1
