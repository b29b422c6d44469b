use Rattle.std.proofs.lemmas.Result.{err_from_is_err_and}
use Rattle.json_walk.proofs.Elements.{reads_on, ends_at, is_read}
use Rattle.json_walk.proofs.leaves.read_items.Goals as goal

pub returns-in_err-one : goal.returns-in_err-one
returns-in_err-one g c =
    let p = err_from_is_err_and c.from_residual-in_err-one.result c.from_residual-in_err-one.ensures.1 in
    rw (p.1, p.2) (ends_at _ _ _ _ _ _ _ _ _ c.loop-i-test.true c.index-values-i.is c.in_ok-at.ensures c.in_err-one.ensures c.loop-i.invariant)

pub loop-i-preserved : goal.loop-i-preserved
loop-i-preserved g c =
    reads_on _ _ _ _ _ _ _ _ _ _ c.loop-i-test.true c.index-values-i.is c.in_ok-at.ensures c.in_ok-one.ensures c.in_ok-push.ensures.ok c.loop-i.invariant

pub returns : goal.returns
returns g c = is_read _ _ _ _ _ _ c.loop-i-test.false c.loop-i.invariant
