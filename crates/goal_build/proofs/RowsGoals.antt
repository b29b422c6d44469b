-- Goals of small tables.
use Rattle.std.proofs.Common.{◌≡◌, true, false, [], ◌∷◌, List, Some, None, pos, refl}
use Rattle.std.specs.Prelude.{codes}
use Rattle.text_base.specs.declared.request.Field.TheVariants as field
use Rattle.rx_term.specs.Term.{alt}
use Rattle.rx_build.specs.Texts.{exact_term}
use Rattle.rx_build.specs.Hosts.{host_term}
use Rattle.rx_build.specs.Numbers.{range_term}
use Rattle.rx_build.specs.Paths.{path_ends_set, path_prefix_term, path_exact_term}
use Rattle.goal_form.specs.declared.atom.Atom.TheVariants.{Present}
use Rattle.goal_form.specs.declared.sight.Condition as of
use Rattle.cfg_types.specs.declared.configs.Config.{Config}
use Rattle.cfg_types.specs.declared.configs.Host.{Host}
use Rattle.cfg_types.specs.declared.configs.Body.TheVariants as body
use Rattle.cfg_types.specs.declared.configs.Domain.{Domain}
use Rattle.cfg_types.specs.declared.configs.Domain.TheVariants as domain
use Rattle.cfg_types.specs.declared.configs.Tls.{Tls}
use Rattle.cfg_types.specs.declared.configs.Tls.TheVariants as tls
use Rattle.cfg_types.specs.declared.routes.Route.{Route}
use Rattle.cfg_types.specs.declared.rules.PathRule.{PathRule}
use Rattle.cfg_types.specs.declared.rules.PathRule.TheVariants as path
use Rattle.cfg_types.specs.declared.rules.HeaderRule.{HeaderRule}
use Rattle.cfg_types.specs.declared.rules.HeaderForm.TheVariants as header
use Rattle.cfg_types.specs.declared.actions.Act.TheVariants as act
use Rattle.cfg_types.specs.declared.changes.EditPair.{EditPair}
use Rattle.goal_form.specs.Leaves.{within}
use Rattle.rule_form.specs.Conditions.{rule_condition, header_condition}
use Rattle.goal_build.specs.Hosts.{host_condition, tls_conditions}
use Rattle.goal_build.specs.Guards.{guards}
use Rattle.goal_build.specs.Goals.{goal_condition}
use Rattle.goal_build.specs.Numbering.{firsts}

abbrev no_edits : EditPair
no_edits = record { request = record { remove = []; add = [] }; response = record { remove = []; add = [] } }

abbrev a_route : PathRule → List HeaderRule → Route
a_route p hs = record {
  place = [];
  name = [];
  rule = record { path = p; fold = false; headers = hs; queries = []; grpc = false; fraction = None };
  act = act.Direct 200;
  edits = no_edits;
}

abbrev a_host : List Domain → Tls → List Route → Host
a_host ds t rs = record { name = codes "h"; domains = ds; body = body.List rs; tls = t; clusters = []; edits = no_edits }

abbrev a_table : List Host → Config
a_table hs = record { name = []; hosts = hs; edits = no_edits; specific_wins = false; ignore_port = false; ignore_params = false }

-- a path below an earlier prefix
abbrev front : Route
front = a_route (path.Prefix (codes "/a")) []

abbrev inner : Route
inner = a_route (path.Exact (codes "/a/x")) []

abbrev one_host : Host
one_host = a_host (domain.Any ∷ []) tls.No (front ∷ inner ∷ [])

guards_of_a_list : guards (a_table (one_host ∷ [])) 0 one_host ≡ (rule_condition false front.rule, Some 0) ∷ (rule_condition false inner.rule, Some 1) ∷ []
guards_of_a_list = refl

goal_below_a_prefix : goal_condition (a_table (one_host ∷ [])) 0 one_host (rule_condition false inner.rule) ((rule_condition false front.rule, Some 0) ∷ []) ≡ of.All (
    of.Any (of.All (of.Yes ∷ []) ∷ [])
    ∷ of.All (within field.Target (path_exact_term false (path_ends_set false) (codes "/a/x")) false ∷ [])
    ∷ of.Not (of.All (within field.Target (path_prefix_term false (path_ends_set false) (codes "/a")) false ∷ []))
    ∷ [])
goal_below_a_prefix = refl

-- the lone star of the second host has the other host's two domains as rivals, and they have none
abbrev two_domains : Host
two_domains = a_host (domain.Exact (codes "a.com") ∷ domain.Suffix (codes ".a.com") ∷ []) tls.External []

abbrev star_host : Host
star_host = a_host (domain.Any ∷ []) tls.All []

rivals_of_a_star : host_condition (a_table (two_domains ∷ star_host ∷ [])) 1 star_host ≡ of.Any (of.All (of.Yes
    ∷ of.Not (within field.Authority (alt (host_term false (codes "a.com")) (host_term false (codes "*.a.com"))) false) ∷ []) ∷ [])
rivals_of_a_star = refl

no_rivals_of_an_exact_domain : host_condition (a_table (two_domains ∷ star_host ∷ [])) 0 two_domains ≡ of.Any (
    of.All (within field.Authority (host_term false (codes "a.com")) false ∷ [])
    ∷ of.All (within field.Authority (host_term false (codes "*.a.com")) false ∷ []) ∷ [])
no_rivals_of_an_exact_domain = refl

external_needs_https_or_internal : tls_conditions tls.External ≡ of.Any (within field.Proto (exact_term false (codes "https")) false ∷ of.Leaf (Present field.Internal) ∷ []) ∷ []
external_needs_https_or_internal = refl

-- an inverted value asks that the header is there
inverted_value : header_condition (record { name = codes "x"; form = header.Range (pos 0) (pos 5); invert = true; missing_empty = false }) ≡ of.All (of.Leaf (Present (field.Header (codes "x")))
    ∷ of.Not (within (field.Header (codes "x")) (range_term (pos 0) (pos 5)) false) ∷ [])
inverted_value = refl

-- `:path` is always there
presence_of_a_part : header_condition (record { name = codes ":path"; form = header.Present true; invert = false; missing_empty = false }) ≡ of.Yes
presence_of_a_part = refl

first_places : firsts (2 ∷ 0 ∷ 2 ∷ 1 ∷ 0 ∷ []) ≡ 2 ∷ 0 ∷ 1 ∷ []
first_places = refl
