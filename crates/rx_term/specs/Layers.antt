-- The layers of a term along its right side.
use Rattle.std.specs.Prelude.{List, [], ◌∷◌}
use Rattle.rx_term.specs.declared.terms.Term.{Term, Cat, Alt, Star}
use Rattle.rx_term.specs.declared.layers.Layer.{Layer}
use Rattle.rx_term.specs.declared.layers.Layer.TheVariants.{Row, Choice, Iteration}

-- the term with the layer around it
abbrev pub around : Layer → Term → Term
around (Row first) t = Cat first t
around (Choice first) t = Alt first t
around Iteration t = Star t

-- the term with all the layers around it, the first one outermost
abbrev pub wrapped : List Layer → Term → Term
wrapped [] t = t
wrapped (layer ∷ layers) t = around layer (wrapped layers t)
