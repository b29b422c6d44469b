use Rattle.cert_rows.specs.Shapes.{IsTypedWord}
use Rattle.cert_rows.specs.Values.{word_value}
use Rattle.cert_rows.proofs.Steps.{one_more_written, one_more_holds, all_hold, on_ok, is_at}
use Rattle.cert_rows.proofs.words.push_words.Goals as goal

pub loop-word-preserved : goal.loop-word-preserved
loop-word-preserved c = record {
  written = one_more_written word_value _ _ _ _ _ _ _ _ c.loop-word-test.true (is_at _ _ _ c.loop-word-test.true) c.in_ok-push_comma.ensures c.in_ok-push_word.ensures.text c.loop-word.invariant.written;
  typed = one_more_holds IsTypedWord _ _ _ c.loop-word-test.true (is_at _ _ _ c.loop-word-test.true) c.loop-word.invariant.typed c.in_ok-push_word.ensures.typed;
}

pub returns-clause-typed : goal.returns-clause-typed
returns-clause-typed c = on_ok c.push_str-2.result _ (all_hold IsTypedWord _ _ c.loop-word-test.false c.loop-word.invariant.typed)
