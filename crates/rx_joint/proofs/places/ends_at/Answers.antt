use Rattle.std.proofs.Common.{◌<◌, inl, refl, subst}
use Rattle.rx_auto.proofs.Likeness.{Has_get}
use Rattle.rx_joint.specs.Joint.{table_of, terms_in, picked}
use Rattle.rx_joint.proofs.Building.{picked_long, table_is}
use Rattle.rx_joint.proofs.Ending.{ends_one}
use Rattle.rx_joint.proofs.places.ends_at.Goals as goal

pub returns : goal.returns
returns c =
    let g = c.args.number in
    let l = subst (λ n. table_of g < n) (picked_long (terms_in c.args.tables.now) c.args.numbers.now) (c.requires.number g (inl refl)).0 in
    ends_one (picked (terms_in c.args.tables.now) c.args.numbers.now) g c.index-tables-numbers.result.terms c.ends_at.result
    (table_is c.args.tables.now c.args.numbers.now (table_of g) c.index-tables-numbers.result _ l (c.requires.numbers _ (Has_get c.args.numbers.now (table_of g) 0 l)) c.index-tables-numbers.is)
    c.ends_at.ensures
