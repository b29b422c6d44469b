use Rattle.std.proofs.Common.{◌∙◌}
use Rattle.rx_term.specs.Term.{cat as cat_term}
use Rattle.rx_term.proofs.Shapes.{cat_is}
use Rattle.rx_parse.proofs.Exact.{joined_is}
use Rattle.rx_parse.proofs.made.then.Goals as goal

pub returns-in_ok-cat-in-Some-Some : goal.returns-in_ok-cat-in-Some-Some
returns-in_ok-cat-in-Some-Some c =
    joined_is cat_term c.args.first c.args.second c.in-Some-Some.a c.in-Some-Some.b _ _ c.in-Some-Some.is-0 c.in-Some-Some.is-1
    (c.in_ok-cat-in-Some-Some.ensures ∙ cat_is _ _) c.sum-positions.ensures
