use Rattle.std.proofs.Common.{◌∙◌}
use Rattle.test_run.specs.Verdicts.{choice_at, reply_to}
use Rattle.test_run.proofs.ReplyTexts.{texts_of_reply, within_of_reply, failures_same}
use Rattle.test_run.proofs.verdicts.verdict.Goals as goal

pub failures_of-requires-clause-texts : goal.failures_of-requires-clause-texts
failures_of-requires-clause-texts c =
    let t = c.args.test.now in
    texts_of_reply c.args.config.now (choice_at c.args.config.now t) t.request t.response.list c.args.answer.now c.requires.lawful c.parts.ensures.valid c.requires.answer

pub failures_of-requires-clause-within : goal.failures_of-requires-clause-within
failures_of-requires-clause-within c =
    let t = c.args.test.now in
    within_of_reply c.args.config.now (choice_at c.args.config.now t) t.request t.response.list c.args.answer.now c.requires.answer

pub returns-clause-failures : goal.returns-clause-failures
returns-clause-failures c =
    c.in_ok-failures_of.ensures.failures ∙ failures_same c.args.config.now c.args.answer.now (reply_to c.args.config.now c.args.test.now) c.args.test.now c.requires.answer
