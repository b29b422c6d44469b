use Rattle.std.proofs.Common.{◌≡◌, ◌++◌, ap, sym, ◌∙◌, rules}
use Rattle.rx_term.specs.declared.terms.Term.{the_lemmas}
use Rattle.rx_term.proofs.Shapes.{cat_is, alt_is, star_is}
use Rattle.rx_auto.specs.Classes.{sets_of}
use Rattle.rx_auto.proofs.Likeness.{adds_both, adds_as}
use Rattle.rx_auto.proofs.sets.+add_sets.Goals as goal

pub loop-rest-preserved-in-Cat : goal.loop-rest-preserved-in-Cat
loop-rest-preserved-in-Cat t c =
    let e : sets_of c.loop-rest.rest.now ≡ sets_of c.get.result.now ++ sets_of c.get-rest.result.now =
    ap sets_of (c.in-Cat.is ∙ cat_is c.in-Cat.first c.in-Cat.second) ∙ ap (λ z. sets_of z ++ sets_of c.in-Cat.second) (sym c.get.ensures) ∙ ap (λ z. sets_of c.get.result.now ++ sets_of z) (sym c.get-rest.ensures) in
    record {
      depth = search (rules, the_lemmas);
      adds = λ new f. c.loop-rest.invariant.adds new (adds_both _ _ new _ _ _ c.in_ok-add_sets-in-Cat.ensures f e);
    }

pub loop-rest-preserved-in-Alt : goal.loop-rest-preserved-in-Alt
loop-rest-preserved-in-Alt t c =
    let e : sets_of c.loop-rest.rest.now ≡ sets_of c.get-in-Alt.result.now ++ sets_of c.get-rest-in-Alt.result.now =
    ap sets_of (c.in-Alt.is ∙ alt_is c.in-Alt.first c.in-Alt.second) ∙ ap (λ z. sets_of z ++ sets_of c.in-Alt.second) (sym c.get-in-Alt.ensures) ∙ ap (λ z. sets_of c.get-in-Alt.result.now ++ sets_of z) (sym c.get-rest-in-Alt.ensures) in
    record {
      depth = search (rules, the_lemmas);
      adds = λ new f. c.loop-rest.invariant.adds new (adds_both _ _ new _ _ _ c.in_ok-add_sets-in-Alt.ensures f e);
    }

pub loop-rest-preserved : goal.loop-rest-preserved
loop-rest-preserved t c =
    let e : sets_of c.loop-rest.rest.now ≡ sets_of c.get-rest-in-Star.result.now =
    ap sets_of (c.in-Star.is ∙ star_is c.in-Star.body) ∙ ap sets_of (sym c.get-rest-in-Star.ensures) in
    record {
      depth = search (rules, the_lemmas);
      adds = λ new f. c.loop-rest.invariant.adds new (adds_as _ new _ _ f e);
    }
