use Rattle.std.proofs.Common.{◌++◌, [], ◌∷◌, sym, ap, ◌∙◌}
use Rattle.test_run.specs.HeaderTexts.{text_seen}
use Rattle.test_run.specs.declared.verdicts.Failure.TheVariants as failure
use Rattle.test_run.proofs.HeaderFailures.{rule_fails, rule_passes, named_more}
use Rattle.test_run.proofs.headers.judge.Goals as goal

pub loop-index-preserved-then-branch : goal.loop-index-preserved-then-branch
loop-index-preserved-then-branch c = record {
  more = rule_passes c.args.field (text_seen c.args.looked.now) c.args.rules.now c.loop-index.index c.index-rules-index.result c.args.failures.now c.loop-index.failures
      c.loop-index-test.true c.index-rules-index.is (sym c.in_ok-holds.ensures ∙ c.if-branch.true) c.loop-index.invariant.more;
  named = c.loop-index.invariant.named;
}

pub loop-index-preserved : goal.loop-index-preserved
loop-index-preserved c =
    let pushed = c.in_ok-push.ensures.ok ∙ ap (λ k. c.loop-index.failures ++ failure.Header c.args.field k ∷ []) c.in-Ok.ensures.1 in
    record {
      more = rule_fails c.args.field (text_seen c.args.looked.now) c.args.rules.now c.loop-index.index c.index-rules-index.result c.args.failures.now c.loop-index.failures c.push.new.self
          c.loop-index-test.true c.index-rules-index.is (sym c.in_ok-holds.ensures ∙ c.if-branch.false) c.loop-index.invariant.more pushed;
      named = named_more c.args.field c.loop-index.index c.loop-index.failures c.push.new.self c.requires.told c.loop-index.invariant.named pushed;
    }
