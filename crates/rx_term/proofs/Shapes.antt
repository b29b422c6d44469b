-- The variants as code makes them are the terms that definitions match on.
use Rattle.std.proofs.Common.{◌≡◌, refl}
use Rattle.rx_term.specs.declared.terms.Term.{Term, Cat, Alt, Star}
use Rattle.rx_term.specs.declared.terms.Term.TheBlock.{hidden-the_row-Term-0}
use denote.Hole.Carrier.{hidden}
use Rattle.rx_term.specs.Term.{cat, alt, star}

pub cat_is : (s u : Term) → Cat s u ≡ cat s u
unfolding hidden-the_row-Term-0 hidden
cat_is s u = refl

pub alt_is : (s u : Term) → Alt s u ≡ alt s u
unfolding hidden-the_row-Term-0 hidden
alt_is s u = refl

pub star_is : (s : Term) → Star s ≡ star s
unfolding hidden-the_row-Term-0 hidden
star_is s = refl
