-- A layer taken from the inner end of a list of layers, and one put there.
use Rattle.std.proofs.Common.{◌≡◌, List, [], ◌∷◌, ◌++◌, refl, sym, ◌∙◌, ap}
use Rattle.rx_term.specs.declared.terms.Term.{Term}
use Rattle.rx_term.specs.declared.layers.Layer.{Layer}
use Rattle.rx_term.specs.Layers.{around, wrapped}

wrapped-append : (layers : List Layer) (layer : Layer) (t : Term) → wrapped (layers ++ layer ∷ []) t ≡ wrapped layers (around layer t)
wrapped-append [] layer t = refl
wrapped-append (l ∷ layers) layer t = ap (around l) (wrapped-append layers layer t)

-- the innermost layer goes around the term
pub wrapped_pop : (old new : List Layer) (layer : Layer) (t u : Term) → old ≡ new ++ layer ∷ [] → u ≡ around layer t →
    wrapped new u ≡ wrapped old t
wrapped_pop old new layer t u e f = ap (wrapped new) f ∙ sym (wrapped-append new layer t) ∙ ap (λ ls. wrapped ls t) (sym e)

-- the outermost layer of what is left goes behind the others
pub wrapped_push : (old new : List Layer) (layer : Layer) (rest inner : Term) → new ≡ old ++ layer ∷ [] → rest ≡ around layer inner →
    wrapped new inner ≡ wrapped old rest
wrapped_push old new layer rest inner e f = sym (wrapped_pop new old layer inner rest e f)
