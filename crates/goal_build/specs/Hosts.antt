-- The condition that a request is sent to a host, and that it needn't go to https first.
use Rattle.std.specs.Prelude.{ℕ, Bool, false, not, ◌&&◌, ◌==◌, List, [], ◌∷◌, map, filter, codes}
use Rattle.text_base.specs.declared.request.Field.TheVariants as field
use Rattle.rx_term.specs.declared.terms.Term.{Term}
use Rattle.rx_rows.specs.Rows.{choice}
use Rattle.rx_build.specs.Texts.{exact_term}
use Rattle.rx_build.specs.Hosts.{host_term}
use Rattle.goal_form.specs.declared.sight.Condition.{Condition}
use Rattle.goal_form.specs.declared.sight.Condition as of
use Rattle.cfg_types.specs.Hosts.{Owned, owned, written, ranks_before}
use Rattle.cfg_types.specs.declared.configs.Config.{Config}
use Rattle.cfg_types.specs.declared.configs.Host.{Host}
use Rattle.cfg_types.specs.declared.configs.Domain.{Domain}
use Rattle.cfg_types.specs.declared.configs.Domain.TheVariants as domain
use Rattle.cfg_types.specs.declared.configs.Tls.{Tls}
use Rattle.cfg_types.specs.declared.configs.Tls.TheVariants as tls
use Rattle.goal_form.specs.Leaves.{within, present}

-- the authorities whose host text the domain matches
abbrev pub domain_term : Bool → Domain → Term
domain_term ignore_port d = host_term ignore_port (written d)

-- every authority matches `*`
abbrev pub own_condition : Bool → Domain → Condition
own_condition ignore_port (domain.Exact w) = within field.Authority (domain_term ignore_port (domain.Exact w)) false
own_condition ignore_port (domain.Suffix w) = within field.Authority (domain_term ignore_port (domain.Suffix w)) false
own_condition ignore_port (domain.Prefix w) = within field.Authority (domain_term ignore_port (domain.Prefix w)) false
own_condition ignore_port domain.Any = of.Yes

-- the domains of other hosts than h that rank before d, in order
abbrev pub rivals : List Owned → ℕ → Domain → List Owned
rivals all h d = filter (λ e. not (e.1 == h) && ranks_before e.0 d) all

-- one of these domains matches
abbrev pub matched_condition : Bool → List Owned → Condition
matched_condition ignore_port es = within field.Authority (choice (map (λ e. domain_term ignore_port e.0) es)) false

-- nothing is asked where there are none
abbrev pub unmatched_conditions : Bool → List Owned → List Condition
unmatched_conditions ignore_port [] = []
unmatched_conditions ignore_port (e ∷ es) = of.Not (matched_condition ignore_port (e ∷ es)) ∷ []

-- the domain matches, and none of another host that ranks before it
abbrev pub domain_condition : Bool → List Owned → ℕ → Domain → Condition
domain_condition ignore_port all h d = of.All (own_condition ignore_port d ∷ unmatched_conditions ignore_port (rivals all h d))

-- one of the domains of host h does
abbrev pub host_condition : Config → ℕ → Host → Condition
host_condition c h host = of.Any (map (domain_condition c.ignore_port (owned 0 c.hosts) h) host.domains)

abbrev pub https_condition : Condition
https_condition = within field.Proto (exact_term false (codes "https")) false

-- what a request that isn't sent to https first is
abbrev pub tls_conditions : Tls → List Condition
tls_conditions tls.No = []
tls_conditions tls.External = of.Any (https_condition ∷ present field.Internal ∷ []) ∷ []
tls_conditions tls.All = https_condition ∷ []
