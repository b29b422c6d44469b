use Rattle.std.proofs.Common.{ap, ◌∙◌, map, take_all, arith}
use Rattle.cfg_types.specs.Trees.{predicate_holds}
use Rattle.match_tree.specs.Checks.{check_holds}
use Rattle.match_tree.proofs.Checked.{one_more}
use Rattle.match_tree.proofs.build.checks_of.Goals as goal

pub loop-entry-preserved : goal.loop-entry-preserved
loop-entry-preserved g c = λ q.
    one_more (check_holds g.I.Input.sees q) (λ e. predicate_holds q e.test) c.loop-entry.checks c.push.new.self c.in_ok-check_of.field-0 c.args.entries.now c.loop-entry.entry-index c.entry-item.result
    (c.loop-entry.invariant q) c.in_ok-push.ensures.ok (c.in_ok-check_of.ensures q) c.loop-entry-test.true c.entry-item.is

pub returns : goal.returns
returns g c = λ q. c.loop-entry.invariant q ∙ ap (map (λ e. predicate_holds q e.test)) (take_all c.loop-entry.entry-index c.args.entries.now (omega (arith, c.loop-entry-test.false)))
