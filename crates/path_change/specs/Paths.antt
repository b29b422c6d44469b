-- The paths of targets before their queries, and the redirect of a route.
use Rattle.std.specs.Prelude.{Bool, not, ◌&&◌, [], ◌∷◌, ◌++◌, Option, Some, None, length, drop}
use Rattle.text_base.specs.Asked.{Bytes}
use Rattle.text_base.specs.Seen.{has_byte}
use Rattle.cfg_types.specs.Redirects.{or_text}
use Rattle.cfg_types.specs.declared.rules.PathRule.{PathRule}
use Rattle.cfg_types.specs.declared.rules.PathRule.TheVariants as path
use Rattle.cfg_types.specs.declared.actions.Act.{Act}
use Rattle.cfg_types.specs.declared.actions.Act.TheVariants as act
use Rattle.cfg_types.specs.declared.actions.Redirect.{Redirect}
use Rattle.cfg_types.specs.declared.actions.PathTo.{PathTo}
use Rattle.cfg_types.specs.declared.actions.PathTo.TheVariants as to

-- the redirect that an action is, if it is one
abbrev pub redirect_of : Act → Option Redirect
redirect_of (act.Forward f) = None
redirect_of (act.Redirect x) = Some x
redirect_of (act.Direct status) = None

-- the text that an action puts into the path
abbrev pub rewrite_of : Act → Bytes
rewrite_of (act.Forward f) = f.prefix_rewrite
rewrite_of (act.Redirect x) = []
rewrite_of (act.Direct status) = []

-- what stays of a path whose matched prefix is swapped; nothing where all of it is
abbrev pub rest_of : PathRule → Bytes → Bytes
rest_of (path.Prefix v) p = drop (length v) p
rest_of (path.Separated v) p = drop (length v) p
rest_of (path.Exact v) p = []
rest_of (path.Pattern x) p = []

-- the path with s, where not empty, in place of what the rule matches
abbrev pub rewritten_path : PathRule → Bytes → Bytes → Bytes
rewritten_path r [] p = p
rewritten_path r (b ∷ s) p = (b ∷ s) ++ rest_of r p

-- the path that a redirect leads to
abbrev pub path_to : PathRule → PathTo → Bytes → Bytes
path_to r to.Keep p = p
path_to r (to.Whole t) p = or_text t p
path_to r (to.Prefix s) p = rewritten_path r s p

-- whether the request's query follows that path
abbrev pub keeps_query : PathTo → Bool → Bool
keeps_query to.Keep strip = not strip
keeps_query (to.Whole t) strip = not strip && not (has_byte 63 t)
keeps_query (to.Prefix s) strip = not strip
