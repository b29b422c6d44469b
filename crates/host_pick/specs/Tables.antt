-- The domains of all hosts, and the host that an authority is sent to among them.
use Rattle.std.specs.Prelude.{ℕ, Bool, ◌&&◌, if◌then◌else◌, List, Option, Some, None, option_map}
use Rattle.text_base.specs.Asked.{Bytes}
use Rattle.text_base.specs.Hosts.{host_text}
use Rattle.cfg_types.specs.Hosts.{Owned, owned, domain_matches, ranks_before, best_of}
use Rattle.cfg_types.specs.declared.configs.Config.{Config}

-- the domains of hosts with the numbers of these, in order, and whether ports are ignored
pub record Table : Type 0 where
  pub ignore_port : Bool
  pub domains : List Owned

abbrev pub table_of : Config → Table
table_of c = record { ignore_port = c.ignore_port; domains = owned 0 c.hosts }

-- the number of the host for an authority; of the table of a configuration it is the configuration's
abbrev pub host_in : Table → Bytes → Option ℕ
host_in h a = option_map (λ d. d.1) (best_of (host_text h.ignore_port a) h.domains)

-- the better of the best domain so far and one that follows, which has to match
abbrev pub better : Bytes → Option Owned → Owned → Option Owned
better t None d = if domain_matches d.0 t then Some d else None
better t (Some b) d = if domain_matches d.0 t && ranks_before d.0 b.0 then Some d else Some b
