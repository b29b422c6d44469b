use Rattle.std.proofs.Common.{◌≡◌, IfOk, ◌∙◌, subst}
use Rattle.sample_make.proofs.Written.{written}
use Rattle.sample_make.proofs.routes.place_of.Goals as goal

pub returns : goal.returns
returns c =
    subst (λ v. IfOk c.of.result (λ t. t ≡ v)) (c.as_str.ensures.value ∙ c.in_ok-text.ensures ∙ written c.args.host c.args.at) c.of.ensures
