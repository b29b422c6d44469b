use Rattle.std.proofs.Common.{List, ◌∷◌, Some, sym, ◌∙◌, subst}
use Rattle.rx_term.specs.declared.terms.Term.{Term}
use Rattle.rx_term.proofs.Shapes.{cat_is}
use Rattle.rx_parse.specs.Answer.{IsRow}
use Rattle.rx_parse.proofs.Terms.{ok_map, row_some}
use Rattle.rx_parse.proofs.made.prepend.Goals as goal

pub returns-in-Some : goal.returns-in-Some
returns-in-Some c =
    ok_map _ (λ made. (ts : List Term) → IsRow c.args.rest ts → IsRow (Some made) (c.args.first ∷ ts)) c.cat.result
    (λ made e ts h.
    let k : IsRow (Some c.in-Some.rest) ts = subst (λ o. IsRow o ts) c.in-Some.is h in
    subst (λ t. IsRow (Some t) (c.args.first ∷ ts)) (sym (e ∙ cat_is _ _)) (row_some c.args.first c.in-Some.rest ts k))
    c.cat.ensures
