use Rattle.std.proofs.Common.{sym, subst, ap, arith}
use denote.Param.Weighed.{at_most}
use Rattle.goal_form.proofs.formula.Formula.TheLaws.{the_size}
use Rattle.goal_form.specs.declared.formula.Formula as formula
use Rattle.goal_build.specs.Renumbering.{IsRenumbered}
use Rattle.goal_build.proofs.Renumbered.{renumbered_leaf, renumbered_all, renumbered_any, renumbered_next, below_at}
use Rattle.goal_build.proofs.numbering.+renumber.Goals as goal

pub renumber-returns-in_ok-new_number-in-Leaf-clause-done : goal.renumber-returns-in_ok-new_number-in-Leaf-clause-done
renumber-returns-in_ok-new_number-in-Leaf-clause-done t c =
    subst (λ x. IsRenumbered c.args.pool.now x c.args.atoms.now c.new_number.new.atoms (formula.Leaf c.in_ok-new_number-in-Leaf.field-0)) (sym c.in-Leaf.is)
    (renumbered_leaf c.args.pool.now _ _ _ _ c.in_ok-new_number-in-Leaf.ensures.found)

pub renumber-returns-in_ok-renumber_all-in-All-clause-done : goal.renumber-returns-in_ok-renumber_all-in-All-clause-done
renumber-returns-in_ok-renumber_all-in-All-clause-done t c =
    let done = rw c.as_slice.ensures at c.in_ok-renumber_all-in-All.ensures.done in
    subst (λ x. IsRenumbered c.args.pool.now x c.args.atoms.now c.renumber_all.new.atoms (formula.All c.in_ok-renumber_all-in-All.field-0)) (sym c.in-All.is)
    (renumbered_all c.args.pool.now _ _ _ _ done)

pub renumber-returns-in_ok-renumber_all-in-Any-clause-done : goal.renumber-returns-in_ok-renumber_all-in-Any-clause-done
renumber-returns-in_ok-renumber_all-in-Any-clause-done t c =
    let done = rw c.as_slice-in-Any.ensures at c.in_ok-renumber_all-in-Any.ensures.done in
    subst (λ x. IsRenumbered c.args.pool.now x c.args.atoms.now c.renumber_all-in-Any.new.atoms (formula.Any c.in_ok-renumber_all-in-Any.field-0)) (sym c.in-Any.is)
    (renumbered_any c.args.pool.now _ _ _ _ done)

pub renumber_all-loop-formula-preserved : goal.renumber_all-loop-formula-preserved
renumber_all-loop-formula-preserved t c =
    let i = c.loop-formula.invariant in (
      c.renumber.ensures.kept,
      renumbered_next c.args.pool.now _ _ _ c.args.formulas.now c.loop-formula.formula-index c.formula-item.result _ _ _ c.loop-formula-test.true c.formula-item.is
          c.in_ok-push.ensures.ok i.1 c.in_ok-renumber.ensures.done,
    )

pub renumber_all-renumber-requires : goal.renumber_all-renumber-requires
renumber_all-renumber-requires t c =
    let below = below_at _ c.args.formulas.now c.loop-formula.formula-index c.formula-item.result c.requires.below c.loop-formula-test.true c.formula-item.is in
    let kept = c.loop-formula.invariant.0 in
    let m = at_most the_size c.args.formulas.now c.loop-formula.formula-index c.formula-item.result c.loop-formula-test.true in
    let e = ap the_size c.formula-item.is in
    (omega (arith, m, e, c.decreases), (below, kept))
