use Rattle.std.proofs.Common.{subst, arith}
use Rattle.goal_build.specs.Parts.{asked}
use Rattle.goal_build.specs.Renumbering.{AreRefused}
use Rattle.goal_build.proofs.Guarding.{asked_long, asked_read, asked_all}
use Rattle.goal_build.proofs.Renumbered.{below_at, refused_next}
use Rattle.goal_build.proofs.numbering.renumber_none.Goals as goal

pub renumber-requires-clause-below : goal.renumber-requires-clause-below
renumber-requires-clause-below c =
    let long = asked_long c.args.guards.now in
    let within = c.loop-guard-test.true in
    below_at _ (asked c.args.guards.now) c.loop-guard.guard-index c.guard-item.result.formula c.requires.below (omega (arith, long, within))
    (asked_read c.args.guards.now c.loop-guard.guard-index c.guard-item.result c.loop-guard-test.true c.guard-item.is)

pub loop-guard-preserved : goal.loop-guard-preserved
loop-guard-preserved c =
    let i = c.loop-guard.invariant in
    let long = asked_long c.args.guards.now in
    let within = c.loop-guard-test.true in (
      c.renumber.ensures.kept,
      refused_next c.args.pool.now _ _ _ (asked c.args.guards.now) c.loop-guard.guard-index c.guard-item.result.formula _ _ _ _ (omega (arith, long, within))
          (asked_read c.args.guards.now c.loop-guard.guard-index c.guard-item.result c.loop-guard-test.true c.guard-item.is)
          c.in_ok-negated.ensures c.in_ok-push.ensures.ok i.1 c.in_ok-formula.ensures.done,
    )

pub returns-clause-done : goal.returns-clause-done
returns-clause-done c =
    let i = c.loop-guard.invariant in
    let past = c.loop-guard-test.false in
    subst (λ l. AreRefused c.args.pool.now l c.args.atoms.now c.loop-guard.atoms c.loop-guard.list) (asked_all c.args.guards.now c.loop-guard.guard-index (omega (arith, past))) i.1
