use Rattle.std.proofs.Common.{◌∙◌}
use Rattle.rx_term.specs.Term.{alt as alt_term}
use Rattle.rx_term.proofs.Shapes.{alt_is}
use Rattle.rx_parse.proofs.Exact.{joined_is}
use Rattle.rx_parse.proofs.made.either.Goals as goal

pub returns-in_ok-alt-in-Some-Some : goal.returns-in_ok-alt-in-Some-Some
returns-in_ok-alt-in-Some-Some c =
    joined_is alt_term c.args.first c.args.second c.in-Some-Some.a c.in-Some-Some.b _ _ c.in-Some-Some.is-0 c.in-Some-Some.is-1
    (c.in_ok-alt-in-Some-Some.ensures ∙ alt_is _ _) c.sum-positions.ensures
