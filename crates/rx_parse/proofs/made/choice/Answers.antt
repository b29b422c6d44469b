use Rattle.rx_parse.proofs.Exact.{choice_goes, choice_ends}
use Rattle.rx_parse.proofs.made.choice.Goals as goal

pub loop-branch-preserved : goal.loop-branch-preserved
loop-branch-preserved c =
    choice_goes c.args.branches c.loop-branch.branches _ c.args.last c.in-Some.branch c.loop-branch.made c.in_ok-made.made c.loop-branch.invariant c.in-Some.ensures c.in_ok-made.ensures

pub returns : goal.returns
returns c = choice_ends c.args.branches c.loop-branch.branches c.args.last c.loop-branch.made c.loop-branch.invariant c.in_default.ensures.0
