-- What is kept of a configuration between the goals of its routes.
use Rattle.std.specs.Prelude.{◌≡◌, IfSome}
use Rattle.cfg_types.specs.Choices.{routes_before}
use Rattle.cfg_types.specs.declared.configs.Config.{Config}
use Rattle.goal_build.specs.HostGoals.{AreGoalsOf}
use Rattle.goal_build.specs.declared.kept.KeptHost.{KeptHost}
use Rattle.goal_build.specs.declared.kept.KeptGoals.{KeptGoals}

-- the parts of one of the configuration's hosts
pub record IsKept (c : Config) (k : KeptHost) : Type 0 where
  pub first : k.first ≡ routes_before c.hosts k.host
  pub goals : AreGoalsOf c k.host k.goals

-- nothing, or the parts of a host
abbrev pub AreKept : Config → KeptGoals → Type 0
AreKept c g = IfSome g.kept (IsKept c)
