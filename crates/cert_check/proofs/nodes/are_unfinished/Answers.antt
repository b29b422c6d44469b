use Rattle.std.proofs.Common.{sym, ◌∙◌}
use Rattle.goal_form.proofs.WaitingLemmas.{met}
use Rattle.cert_check.proofs.Refuting.{read_unfinished, unfinished_read, told}
use Rattle.cert_check.proofs.nodes.are_unfinished.Goals as goal

pub returns : goal.returns
returns c =
    told c.reads.result c.reads.ensures
    (read_unfinished c.args.goal.now c.args.cap c.args.nodes.now c.args.splits (met c.counts_fit.result c.if-not-counts_fit.false c.counts_fit.ensures)
    (sym c.rests_are_last.ensures ∙ c.if-not-rests_are_last.false) (sym c.has_unfinished.ensures ∙ c.if-not-has_unfinished.false))
    (unfinished_read c.args.goal.now c.args.cap c.args.nodes.now c.args.splits)
