use Rattle.std.proofs.Common.{sym, subst, refl, ◌∙◌, arith}
use Rattle.std.proofs.lemmas.Result.{IfOk-weaker}
use Rattle.goal_form.specs.Conditions.{IsMeant}
use Rattle.goal_form.proofs.Meanings.{grows_none}
use Rattle.goal_form.proofs.Meant.{meant_both}
use Rattle.match_tree.proofs.GuardLists.{where_more, where_all, meant_alone}
use Rattle.match_tree.proofs.guard.add_conditioned.Goals as goal

pub loop-guard-preserved : goal.loop-guard-preserved
loop-guard-preserved c =
    let i = c.loop-guard.invariant in
    record {
      same = i.same;
      added = λ atoms k gs m are.
          where_more atoms k c.args.guards.now c.loop-guard.guard-index c.guard-item.result gs _ _ _ _ c.loop-guard-test.true c.guard-item.is are (i.added atoms k gs m are) c.in_ok-push.ensures.ok
          (λ d h. meant_both atoms atoms c.in_ok-asked.asked c.in_ok-inner.inner c.in_ok-all_of.field-0 k d c.in_ok-all_of.ensures (grows_none atoms)
          (subst (λ z. IsMeant atoms z k) (sym (c.in_ok-asked.ensures ∙ i.same)) m) (subst (λ z. IsMeant atoms z d) (sym c.in_ok-inner.ensures) h))
          refl;
    }

pub returns : goal.returns
returns c = λ atoms k gs m are.
    let i = c.loop-guard.invariant in
    IfOk-weaker c.push-3.result _ _
    (λ u e. where_all atoms k c.args.guards.now c.loop-guard.guard-index gs _ _ _ _ (omega (arith, c.loop-guard-test.false)) are (i.added atoms k gs m are) e
    (meant_alone atoms _ k _ _ c.new-members.ensures c.in_ok-push-2.ensures.ok (subst (λ z. IsMeant atoms z k) (sym i.same) m)) refl)
    c.push-3.ensures.ok
