use Rattle.std.proofs.Common.{◌≡◌, sym, ◌∙◌, true, false, arith, below_more}
use Rattle.rx_auto.proofs.classes.place_of.Goals as goal

no : false ≡ true → ⊥
no e = cc

pub loop-i-preserved : goal.loop-i-preserved
loop-i-preserved c = below_more _ _ c.loop-i.invariant (λ e. no (sym c.if-alike.false ∙ c.alike.ensures.1 e))

pub returns-clause-none : goal.returns-clause-none
returns-clause-none c = λ i h. c.loop-i.invariant i (omega arith)
