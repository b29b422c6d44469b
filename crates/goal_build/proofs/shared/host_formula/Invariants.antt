use Rattle.std.proofs.Common.{map, take}
use Rattle.cfg_types.specs.Hosts.{owned}
use Rattle.goal_form.specs.Numbers.{Grows}
use Rattle.goal_form.specs.Meant.{AddsMeant}
use Rattle.goal_build.specs.Hosts.{domain_condition}
use Rattle.goal_build.proofs.shared.host_formula.Given as goal

abbrev pub invariant-loop-domain : goal.invariant-loop-domain
invariant-loop-domain l =
    Grows l.fn.atoms l.atoms
    × AddsMeant l.atoms l.initial.members l.members (map (domain_condition l.config.ignore_port (owned 0 l.config.hosts) l.own) (take l.domain-index l.host.domains))
