-- The members of each message that no part of the profile reads: they are refused where they are not null.
use Rattle.std.specs.Prelude.{ℕ, List, [], ◌∷◌}
use Rattle.json_tables.specs.declared.message.Message.{Message}
use Rattle.json_tables.specs.declared.message.Message.TheVariants as messages
use Rattle.json_tables.specs.Names as name

abbrev pub outside : Message → List (List ℕ)
outside messages.RouteConfiguration = name.vhds ∷ name.cluster_specifier_plugins ∷ []
outside messages.Route = name.filter_action ∷ name.non_forwarding_action ∷ []
outside messages.TypedRoute = name.filter_action ∷ name.non_forwarding_action ∷ []
outside messages.RouteMatch = name.connect_matcher ∷ name.path_match_policy ∷ name.tls_context ∷ name.dynamic_metadata ∷ name.filter_state ∷ name.cookies ∷ []
outside messages.StringMatcher = name.custom ∷ []
outside messages.RouteAction = name.cluster_specifier_plugin ∷ name.inline_cluster_specifier_plugin ∷ name.regex_rewrite ∷ name.path_rewrite_policy ∷ name.host_rewrite_path_regex ∷ []
outside messages.WeightedCluster = name.header_name ∷ name.use_hash_policy ∷ []
outside messages.ClusterWeight = name.cluster_header ∷ name.host_rewrite_literal ∷ []
outside messages.RedirectAction = name.regex_rewrite ∷ []
outside messages.HeaderValue = name.raw_value ∷ []
outside messages.SinglePredicate = name.custom_match ∷ []
outside messages.MatcherTree = name.custom_match ∷ []
outside _ = []
