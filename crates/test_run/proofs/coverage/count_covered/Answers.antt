use Rattle.std.proofs.Common.{get_or, false, ap, ◌∙◌, List, Bool}
use Rattle.test_run.proofs.Counted.{covered_flags}
use Rattle.test_run.proofs.coverage.count_covered.Goals as goal

pub returns : goal.returns
returns c =
    let flags = c.in_ok-flags.ensures in
    c.count_set.ensures
    ∙ covered_flags c.deref.result.now c.args.choices.now c.args.routes (c.deref.ensures.len ∙ flags.many) (λ r lt. ap (λ (fs : List Bool). get_or fs r false) c.deref.ensures.value ∙ flags.sent r lt)
