use Rattle.std.proofs.Common.{◌≡◌, take}
use Rattle.std.specs.Option.{option_copied}
use Rattle.cfg_types.specs.Hosts.{best_of}
use Rattle.host_pick.proofs.domains.best_among.Given as goal

abbrev pub invariant-loop-next : goal.invariant-loop-next
invariant-loop-next l = option_copied l.best ≡ best_of l.host (take l.next-index l.domains)
