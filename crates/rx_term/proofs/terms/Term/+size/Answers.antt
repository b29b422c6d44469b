use Rattle.std.proofs.Common.{◌≡◌, ◌+◌, ◌∙◌, ap, arith, rules}
use Rattle.rx_term.specs.declared.terms.Term.{the_lemmas}
use Rattle.rx_term.specs.Term.{nodes}
use Rattle.rx_term.proofs.Shapes.{cat_is, alt_is, star_is}
use Rattle.rx_term.proofs.terms.Term.+size.Goals as goal

pub loop-rest-preserved-in-Cat-1 : goal.loop-rest-preserved-in-Cat-1
loop-rest-preserved-in-Cat-1 t c =
    let whole : nodes c.loop-rest.rest.now ≡ nodes c.in-Cat.first + nodes c.in-Cat.second + 1 = ap nodes (c.in-Cat.is ∙ cat_is _ _) in
    let first : nodes c.get.result.now ≡ nodes c.in-Cat.first = ap nodes c.get.ensures in
    let second : nodes c.get-rest.result.now ≡ nodes c.in-Cat.second = ap nodes c.get-rest.ensures in
    (search (rules, the_lemmas), omega (arith, c.size.ensures, c.saturating_add.ensures, c.saturating_add-before.ensures, c.loop-rest.invariant.1))

pub loop-rest-preserved-in-Alt-1 : goal.loop-rest-preserved-in-Alt-1
loop-rest-preserved-in-Alt-1 t c =
    let whole : nodes c.loop-rest.rest.now ≡ nodes c.in-Alt.first + nodes c.in-Alt.second + 1 = ap nodes (c.in-Alt.is ∙ alt_is _ _) in
    let first : nodes c.get-in-Alt.result.now ≡ nodes c.in-Alt.first = ap nodes c.get-in-Alt.ensures in
    let second : nodes c.get-rest-in-Alt.result.now ≡ nodes c.in-Alt.second = ap nodes c.get-rest-in-Alt.ensures in
    (search (rules, the_lemmas), omega (arith, c.size-in-Alt.ensures, c.saturating_add-in-Alt.ensures, c.saturating_add-before-in-Alt.ensures, c.loop-rest.invariant.1))

pub loop-rest-preserved : goal.loop-rest-preserved
loop-rest-preserved t c =
    let whole : nodes c.loop-rest.rest.now ≡ nodes c.in-Star.body + 1 = ap nodes (c.in-Star.is ∙ star_is _) in
    let body : nodes c.get-rest-in-Star.result.now ≡ nodes c.in-Star.body = ap nodes c.get-rest-in-Star.ensures in
    (search (rules, the_lemmas), omega (arith, c.saturating_add-before-in-Star.ensures, c.loop-rest.invariant.1))
