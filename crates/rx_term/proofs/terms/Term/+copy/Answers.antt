use Rattle.std.proofs.Common.{◌≡◌, ◌∙◌, rules}
use Rattle.rx_term.specs.declared.terms.Term.{Cat, Alt, Star, the_lemmas}
use Rattle.rx_term.specs.declared.layers.Layer.TheVariants.{Row, Choice, Iteration}
use Rattle.rx_term.proofs.Wrapping.{wrapped_push}
use Rattle.rx_term.proofs.terms.Term.+copy.Goals as goal

pub loop-rest-preserved-in-Cat : goal.loop-rest-preserved-in-Cat
loop-rest-preserved-in-Cat t c =
    let whole : c.loop-rest.rest.now ≡ Cat c.in_ok-copied-in-Cat.copied c.get-rest.result.now = cc (c.in_ok-copied-in-Cat.ensures) in (
      search (rules, the_lemmas),
      wrapped_push _ _ (Row c.in_ok-copied-in-Cat.copied) _ _ c.in_ok-push-in-Cat.ensures.ok whole ∙ c.loop-rest.invariant.1,
    )

pub loop-rest-preserved-in-Alt : goal.loop-rest-preserved-in-Alt
loop-rest-preserved-in-Alt t c =
    let whole : c.loop-rest.rest.now ≡ Alt c.in_ok-copied-in-Alt.copied c.get-rest-in-Alt.result.now = cc (c.in_ok-copied-in-Alt.ensures) in (
      search (rules, the_lemmas),
      wrapped_push _ _ (Choice c.in_ok-copied-in-Alt.copied) _ _ c.in_ok-push-in-Alt.ensures.ok whole ∙ c.loop-rest.invariant.1,
    )

pub loop-rest-preserved : goal.loop-rest-preserved
loop-rest-preserved t c =
    let whole : c.loop-rest.rest.now ≡ Star c.get-rest-in-Star.result.now = cc in (
      search (rules, the_lemmas),
      wrapped_push _ _ Iteration _ _ c.in_ok-push-in-Star.ensures.ok whole ∙ c.loop-rest.invariant.1,
    )
