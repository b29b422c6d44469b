-- A host that is read is lawful.
use Rattle.std.proofs.Common.{◌≢◌, ◌≤◌, ℕ, List, [], ◌∷◌, length, IfOk, IfSome, Option, Some, None, lit≤, nat_le, arith}
use Rattle.std.proofs.lemmas.Bool.Decides.{nat_tests}
use Rattle.std.specs.Prelude.{All, unwrap_or}
use Rattle.std.proofs.lemmas.List.Elements.{All-nil}
use Rattle.json_tables.specs.declared.message.Message.TheVariants as messages
use Rattle.json_tables.specs.Names as name
use Rattle.json_walk.specs.Members.{members_at}
use Rattle.json_walk.specs.Fields.{optional, required}
use Rattle.json_walk.specs.Leaves.{list_of}
use Rattle.json_walk.proofs.ReadFacts.{Reads, after, whatever, of_required, of_optional, of_maybe, of_list, of_short_list, where_true}
use Rattle.cfg_types.specs.Lawful.{IsLawfulBody, IsLawfulHost, IsLawfulCluster, IsLawfulDomain, IsLawfulHeader, IsLawfulRoute, IsLawfulPair}
use Rattle.cfg_types.specs.declared.configs.Domain.{Domain}
use Rattle.cfg_types.specs.Order.{tree_routes}
use Rattle.cfg_types.specs.declared.configs.Body.TheVariants as body
use Rattle.cfg_types.specs.declared.trees.Tree.{Tree}
use Rattle.json_walk.specs.declared.refusal.Kind.TheVariants.{TooMany}
use Rattle.json_walk.specs.Places.{under}
use Rattle.read_tree.specs.Trees.{matcher}
use Rattle.cfg_types.specs.declared.routes.Route.{Route}
use Rattle.read_match.specs.Kinds.{some_name}
use Rattle.read_match.specs.Headers.{header_matcher}
use Rattle.read_action.specs.Routes.{route}
use Rattle.read_action.specs.Edits.{edits}
use Rattle.read_config.specs.Domains.{domain}
use Rattle.read_config.specs.Hosts.{virtual_cluster, require_tls, Beside, beside_domains, some_domain, few_in_tree, body_form, virtual_host}
use Rattle.read_match.proofs.LawfulTexts.{IsSome, of_some_name}
use Rattle.read_match.proofs.LawfulRules.{of_header}
use Rattle.read_action.proofs.LawfulRoutes.{of_route, of_edits}
use Rattle.read_tree.proofs.LawfulTrees.{IsGrown, of_tree}
use Rattle.read_config.proofs.LawfulDomains.{of_domain}

of_cluster : Reads IsLawfulCluster virtual_cluster
unfolding virtual_cluster
of_cluster p d =
    whatever (members_at messages.VirtualCluster p d) _ IsLawfulCluster (λ _.
    after (required p d name.name some_name) _ IsSome IsLawfulCluster (of_required p d name.name some_name IsSome of_some_name) (λ called n.
    after (required p d name.headers (list_of None header_matcher)) _ (All IsLawfulHeader) IsLawfulCluster (of_required p d name.headers _ _ (of_list None header_matcher IsLawfulHeader of_header)) (λ rules all.
    record { name = n; headers = all })))

abbrev FewRoutes : List Route → Type 0
FewRoutes rs = All IsLawfulRoute rs × (length rs ≤ 1000)

few_none : FewRoutes []
few_none = (All-nil IsLawfulRoute, lit≤ tt)

-- what stands beside the domains
pub record IsBeside (b : Beside) : Type 0 where
  pub routes : FewRoutes b.routes
  pub tree : IfSome b.tree IsGrown
  pub clusters : All IsLawfulCluster b.clusters
  pub edits : IsLawfulPair b.edits

of_beside : Reads IsBeside beside_domains
unfolding beside_domains
of_beside p d =
    after (optional p d name.routes (list_of (Some 1000) route)) _ (λ o. FewRoutes (unwrap_or o [])) IsBeside (of_optional p d name.routes _ [] FewRoutes few_none (of_short_list 1000 route IsLawfulRoute of_route)) (λ routes few.
    after (optional p d name.matcher (matcher 12)) _ (λ o. IfSome o IsGrown) IsBeside (of_maybe p d name.matcher (matcher 12) IsGrown of_tree) (λ tree is.
    whatever (optional p d name.require_tls require_tls) _ IsBeside (λ first.
    after (optional p d name.virtual_clusters (list_of None virtual_cluster)) _ (λ o. All IsLawfulCluster (unwrap_or o [])) IsBeside (of_optional p d name.virtual_clusters _ [] (All IsLawfulCluster) (All-nil IsLawfulCluster) (of_list None virtual_cluster IsLawfulCluster of_cluster)) (λ clusters all.
    after (edits p d) _ IsLawfulPair IsBeside (of_edits p d) (λ changes pair.
    record { routes = few; tree = is; clusters = all; edits = pair })))))

few_tree : (p : List ℕ) (t : Tree) → IsGrown t → IfOk (few_in_tree p t) IsLawfulBody
unfolding few_in_tree
few_tree p t g = where_true (nat_le (length (tree_routes t)) 1000) (body.Tree t) (under p name.matcher) TooMany IsLawfulBody (λ e. record { depth = g.depth; filled = g.filled; predicates = g.predicates; routes = g.routes; few_routes = grind (arith, nat_tests, e) })

of_body : (p : List ℕ) (rs : List Route) (o : Option Tree) → FewRoutes rs → IfSome o IsGrown → IfOk (body_form p rs o) IsLawfulBody
unfolding body_form
of_body p [] None few g = record { routes = few.0; few_routes = few.1 }
of_body p (r ∷ rs) None few g = record { routes = few.0; few_routes = few.1 }
of_body p [] (Some t) few g = few_tree p t g
of_body p (r ∷ rs) (Some t) few g = tt

some_there : (p : List ℕ) (ds : List Domain) → IfOk (some_domain p ds) (λ _. ds ≢ [])
unfolding some_domain
some_there p [] = tt
some_there p (x ∷ xs) = λ e. cc e

pub of_host : Reads IsLawfulHost virtual_host
unfolding virtual_host
of_host p d =
    whatever (members_at messages.VirtualHost p d) _ IsLawfulHost (λ _.
    after (required p d name.name some_name) _ IsSome IsLawfulHost (of_required p d name.name some_name IsSome of_some_name) (λ called n.
    after (required p d name.domains (list_of None domain)) _ (All IsLawfulDomain) IsLawfulHost (of_required p d name.domains _ _ (of_list None domain IsLawfulDomain of_domain)) (λ names all.
    after (beside_domains p d) _ IsBeside IsLawfulHost (of_beside p d) (λ rest b.
    after (some_domain p names) _ (λ _. names ≢ []) IsLawfulHost (some_there p names) (λ _ some.
    after (body_form p rest.routes rest.tree) _ IsLawfulBody IsLawfulHost (of_body p rest.routes rest.tree b.routes b.tree) (λ own is.
    record { name = n; some_domain = some; domains = all; body = is; clusters = b.clusters; edits = b.edits }))))))
