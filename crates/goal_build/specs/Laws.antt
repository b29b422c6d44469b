-- What goals say.
use Rattle.std.specs.Prelude.{◌≡◌, ◌↔◌, ℕ, IsTrue, Some, slice_get}
use Rattle.text_base.specs.Asked.{Asked}
use Rattle.text_base.specs.Requests.{is_valid}
use Rattle.text_base.specs.Seen.{seen}
use Rattle.goal_form.specs.declared.goal.Goal.{Goal}
use Rattle.goal_form.specs.Conditions.{condition_at}
use Rattle.goal_form.specs.Goals.{is_true_at, IsWellFormed}
use Rattle.cfg_types.specs.Choices.{IsSent}
use Rattle.cfg_types.specs.Hosts.{host_for}
use Rattle.cfg_types.specs.Lawful.{IsLawful}
use Rattle.cfg_types.specs.declared.configs.Config.{Config}
use Rattle.cfg_types.specs.declared.configs.Host.{Host}
use Rattle.goal_build.specs.Hosts.{host_condition}
use Rattle.goal_build.specs.Goals.{IsGoal}

-- the condition of a host is true at a valid request exactly where the request is the host's
abbrev pub HostLaw : Type 0
HostLaw = (c : Config) (h : ℕ) (host : Host) (q : Asked) → IsLawful c → slice_get c.hosts h ≡ Some host → IsTrue (is_valid q) →
    IsTrue (condition_at (seen q) (host_condition c h host)) ↔ (host_for c q.authority ≡ Some h)

-- the goal of a route is true at a valid request exactly where the request is sent to the route
abbrev pub SentLaw : Type 0
SentLaw = (c : Config) (r : ℕ) (goal : Goal) (q : Asked) → IsLawful c → IsGoal c r goal → IsTrue (is_valid q) →
    IsTrue (is_true_at q goal) ↔ IsSent c q r

abbrev pub WellFormedLaw : Type 0
WellFormedLaw = (c : Config) (r : ℕ) (goal : Goal) → IsLawful c → IsGoal c r goal → IsWellFormed goal
