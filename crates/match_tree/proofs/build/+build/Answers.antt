use Rattle.std.proofs.Common.{arith, ap}
use Rattle.cfg_types.specs.Trees.{entry_way, key_way}
use Rattle.match_tree.proofs.Bodies.{entry-is, key-is}
use Rattle.match_tree.proofs.Built.{one_more_step, all_steps, of_list, of_exact, of_prefix, of_some, of_inner, of_whole}
use Rattle.match_tree.proofs.build.+build.Goals as goal

pub of_body-returns-in_ok-steps-in-List : goal.of_body-returns-in_ok-steps-in-List
of_body-returns-in_ok-steps-in-List g t c =
    of_list g.I.Input.sees g.A.Action.span c.args.body.now c.in-List.entries c.as_slice.result.now c.as_slice-in-List.result.now c.args.first c.in_ok-steps-in-List.next c.in_ok-checks-in-List.checks c.in_ok-steps-in-List.steps
    c.in-List.is c.as_slice.ensures c.as_slice-in-List.ensures c.in_ok-checks-in-List.ensures c.in_ok-steps-in-List.ensures

pub of_body-returns-in_ok-made-in-Exact : goal.of_body-returns-in_ok-made-in-Exact
of_body-returns-in_ok-made-in-Exact g t c =
    of_exact g.I.Input.sees g.A.Action.span c.args.body.now c.in-Exact.rule c.in-Exact.map c.as_slice-entries.result.now c.args.first c.in_ok-steps-in-Exact.next c.in_ok-made-in-Exact.made c.in_ok-keys-in-Exact.keys c.in_ok-steps-in-Exact.steps
    c.in-Exact.is c.as_slice-entries.ensures c.in_ok-made-in-Exact.ensures c.in_ok-keys-in-Exact.ensures c.in_ok-steps-in-Exact.ensures

pub of_body-returns-in_ok-made-in-Prefix : goal.of_body-returns-in_ok-made-in-Prefix
of_body-returns-in_ok-made-in-Prefix g t c =
    of_prefix g.I.Input.sees g.A.Action.span c.args.body.now c.in-Prefix.rule c.in-Prefix.map c.as_slice-entries-in-Prefix.result.now c.args.first c.in_ok-steps-in-Prefix.next c.in_ok-made-in-Prefix.made c.in_ok-keys-in-Prefix.keys c.in_ok-steps-in-Prefix.steps
    c.in-Prefix.is c.as_slice-entries-in-Prefix.ensures c.in_ok-made-in-Prefix.ensures c.in_ok-keys-in-Prefix.ensures c.in_ok-steps-in-Prefix.ensures

pub of_entries-loop-entry-preserved : goal.of_entries-loop-entry-preserved
of_entries-loop-entry-preserved g t c =
    one_more_step g.I.Input.sees g.A.Action.span (λ e. e.next) (λ q e. (entry_way q e).1) (λ q e. ap (λ w. w.1) (entry-is q e)) c.args.entries.now c.loop-entry.entry-index c.entry-item.result c.args.first c.loop-entry.next c.in_ok-step.after
    c.loop-entry.steps c.push.new.self c.in_ok-step.step c.loop-entry-test.true c.entry-item.is c.loop-entry.invariant c.in_ok-step.ensures c.in_ok-push.ensures.ok

pub of_entries-returns : goal.of_entries-returns
of_entries-returns g t c =
    all_steps g.I.Input.sees g.A.Action.span (λ q e. (entry_way q e).1) c.args.entries.now c.loop-entry.entry-index c.args.first c.loop-entry.next c.loop-entry.steps (omega (arith, c.loop-entry-test.false)) c.loop-entry.invariant

pub of_keys-loop-entry-preserved : goal.of_keys-loop-entry-preserved
of_keys-loop-entry-preserved g t c =
    one_more_step g.I.Input.sees g.A.Action.span (λ e. e.next) (λ q e. (key_way q e).1) (λ q e. ap (λ w. w.1) (key-is q e)) c.args.keys.now c.loop-entry.entry-index c.entry-item.result c.args.first c.loop-entry.next c.in_ok-step.after
    c.loop-entry.steps c.push.new.self c.in_ok-step.step c.loop-entry-test.true c.entry-item.is c.loop-entry.invariant c.in_ok-step.ensures c.in_ok-push.ensures.ok

pub of_keys-returns : goal.of_keys-returns
of_keys-returns g t c =
    all_steps g.I.Input.sees g.A.Action.span (λ q e. (key_way q e).1) c.args.keys.now c.loop-entry.entry-index c.args.first c.loop-entry.next c.loop-entry.steps (omega (arith, c.loop-entry-test.false)) c.loop-entry.invariant

pub of_rest-returns-in_ok-step-in-Some : goal.of_rest-returns-in_ok-step-in-Some
of_rest-returns-in_ok-step-in-Some g t c =
    of_some g.I.Input.sees g.A.Action.span c.args.rest.now c.in-Some.then c.args.first c.in_ok-step-in-Some.next c.in_ok-step-in-Some.step c.in-Some.is c.in_ok-step-in-Some.ensures

pub of_then-returns-in_ok-new-in-Inner : goal.of_then-returns-in_ok-new-in-Inner
of_then-returns-in_ok-new-in-Inner g t c =
    of_inner g.I.Input.sees g.A.Action.span c.args.then.now c.in-Inner.tree c.get.result.now c.args.first c.in_ok-matcher-in-Inner.next c.in_ok-matcher-in-Inner.matcher c.in_ok-new-in-Inner.field-0
    c.in-Inner.is c.get.ensures c.in_ok-new-in-Inner.ensures c.in_ok-matcher-in-Inner.ensures

pub of_tree-returns : goal.of_tree-returns
of_tree-returns g t c =
    of_whole g.I.Input.sees g.A.Action.span c.args.tree.now c.args.first c.in_ok-selector.next c.in_ok-otherwise.next
    (record { selector = c.in_ok-selector.selector; steps = c.in_ok-selector.steps; otherwise = c.in_ok-otherwise.otherwise })
    c.in_ok-selector.ensures c.in_ok-otherwise.ensures
