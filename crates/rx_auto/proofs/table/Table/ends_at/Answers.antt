use Rattle.std.proofs.Common.{◌<◌, length, sym, ◌∙◌, ap, arith}
use Rattle.std.proofs.lemmas.List.{get_or_default}
use Rattle.rx_term.specs.Language.{nullable}
use Rattle.rx_auto.specs.Node.{term_at}
use Rattle.rx_auto.specs.Parts.{no_spot}
use Rattle.rx_auto.proofs.Tables.{tails_at, tails_long}
use Rattle.rx_auto.proofs.table.Table.ends_at.Goals as goal

pub index-requires : goal.index-requires
index-requires c = omega (arith, c.requires, ap (λ t. length t.terms) c.self.view_is, tails_long c.self.inside.dag c.self.inside.spots.items)

pub returns : goal.returns
returns c =
    let n : c.args.place < length c.self.inside.spots.items =
    omega (arith, c.requires, ap (λ t. length t.terms) c.self.view_is, tails_long c.self.inside.dag c.self.inside.spots.items) in
    ap (λ s. s.ends) (c.index.ensures ∙ get_or_default c.self.inside.spots.items c.args.place c.index.result.now no_spot n)
    ∙ (c.self.invariant.table.each c.args.place n).ends
    ∙ ap nullable (sym (tails_at c.self.inside.dag c.self.inside.spots.items c.args.place n) ∙ ap (λ t. term_at t.terms c.args.place) c.self.view_is)
