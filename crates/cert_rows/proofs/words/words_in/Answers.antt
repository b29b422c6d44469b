use Rattle.std.proofs.lemmas.Result.{err_from_is_err_and}
use Rattle.cert_rows.proofs.WordSteps.{one_more_read, first_fault, all_read}
use Rattle.cert_rows.proofs.words.words_in.Goals as goal

pub returns-in_err-word : goal.returns-in_err-word
returns-in_err-word c =
    let p = err_from_is_err_and c.from_residual.result c.from_residual.ensures.1 in
    rw (p.1, p.2) (first_fault _ _ _ _ _ _ _ c.loop-i-test.true c.index-values-i.is c.in_err-word.ensures c.loop-i.invariant)

pub loop-i-preserved : goal.loop-i-preserved
loop-i-preserved c = one_more_read _ _ _ _ _ _ _ _ c.loop-i-test.true c.index-values-i.is c.in_ok-word.ensures c.in_ok-push.ensures.ok c.loop-i.invariant

pub returns : goal.returns
returns c = all_read _ _ _ _ _ c.loop-i-test.false c.loop-i.invariant
