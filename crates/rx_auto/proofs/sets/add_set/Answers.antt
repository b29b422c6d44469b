use Rattle.std.proofs.Common.{sym, subst}
use Rattle.rx_term.specs.declared.terms.Term.{One}
use Rattle.rx_term.specs.Language.{Has}
use Rattle.rx_auto.specs.Classes.{AddsSets}
use Rattle.rx_auto.proofs.Likeness.{adds_there, adds_new}
use Rattle.rx_auto.proofs.sets.add_set.Goals as goal

pub returns-in_ok-push : goal.returns-in_ok-push
returns-in_ok-push c = subst (λ z. AddsSets c.args.sets.now.items z (One c.args.set)) (sym c.in_ok-push.ensures.items) (adds_new c.args.sets.now.items c.args.set)

pub returns-else-not-has_set : goal.returns-else-not-has_set
returns-else-not-has_set c = adds_there c.args.sets.now.items c.args.set
    (subst (λ z. Has z c.args.set) c.deref.ensures.value (c.has_set.ensures.0 c.if-not-has_set.false))
