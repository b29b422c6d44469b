use Rattle.std.proofs.Common.{subst}
use Rattle.rx_auto.specs.Classes.{sets_of, IsClassOf}
use Rattle.rx_auto.specs.Node.{term_at}
use Rattle.rx_auto.proofs.Numbering.{class_is}
use Rattle.rx_auto.proofs.table.Table.class_of.Goals as goal

pub returns : goal.returns
returns c = subst (λ t. IsClassOf (sets_of (term_at t.terms 0)) c.args.byte c.class_of.result) c.self.view_is
    (class_is _ _ _ c.self.invariant.classes c.args.byte c.class_of.result c.class_of.ensures)
