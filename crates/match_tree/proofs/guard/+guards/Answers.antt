use Rattle.std.proofs.Common.{map, take_all, refl, sym, ap, subst, arith, ◌∙◌, IsTrue}
use Rattle.std.proofs.lemmas.Result.{IfOk-weaker}
use denote.Param.Weighed.{at_most}
use Rattle.cfg_types.proofs.trees.Entry.TheLaws as entry
use Rattle.cfg_types.proofs.trees.KeyThen.TheLaws as key
use Rattle.cfg_types.specs.Kinds.{is_matcher_text}
use Rattle.goal_form.specs.Conditions.{IsMeant}
use Rattle.goal_form.proofs.Meanings.{meant_grows, grows_on}
use Rattle.match_tree.specs.Guards.{asked_in_turn, entry_asking, then_asking, key_condition, predicate_condition}
use Rattle.match_tree.specs.Told.{AreGuards, IsAsked}
use Rattle.match_tree.proofs.FilledParts.{filled_body, filled_otherwise, filled_inner, filled_list, filled_exact, filled_prefix, filled_entry, filled_key}
use Rattle.match_tree.proofs.Depths.{depth-body, depth-otherwise, depth-entry, depth-key, depth-Inner, depth-List, depth-Exact, depth-Prefix}
use Rattle.match_tree.proofs.GuardLists.{rules_later, asked_more, asked_if}
use Rattle.match_tree.proofs.AskingLayers.{entry_asks, key_asked, keys_asked, tree-None, tree-Some, body-Bare, body-List, body-Exact, body-Prefix, then-Inner, then-Routes}
use Rattle.match_tree.proofs.guard.+guards.Goals as goal

pub add_tree-add_body-requires : goal.add_tree-add_body-requires
add_tree-add_body-requires t c =
    let s = depth-body c.args.tree.now in
    (omega (arith, s, c.decreases), filled_body c.args.tree.now c.requires)

pub add_tree-returns-in-None-clause-asked : goal.add_tree-returns-in-None-clause-asked
add_tree-returns-in-None-clause-asked t c = λ rule r. tree-None rule c.args.tree.now _ _ _ _ _ c.in-None.is (c.in_ok-next.ensures.asked rule r)

pub add_tree-add_then-requires : goal.add_tree-add_then-requires
add_tree-add_then-requires t c =
    let s = depth-otherwise c.args.tree.now c.in-Some.then c.in-Some.is in
    (omega (arith, s, c.decreases), filled_otherwise c.args.tree.now c.in-Some.then c.in-Some.is c.requires)

pub add_tree-returns-in-Some-clause-kept : goal.add_tree-returns-in-Some-clause-kept
add_tree-returns-in-Some-clause-kept t c = grows_on _ _ _ c.add_body.ensures.kept c.add_then.ensures.kept

pub add_tree-returns-in-Some-clause-asked : goal.add_tree-returns-in-Some-clause-asked
add_tree-returns-in-Some-clause-asked t c = λ rule r.
    IfOk-weaker c.add_then.result _ _
    (λ n h. tree-Some rule c.args.tree.now c.in-Some.then _ _ _ _ _ _ _ _ c.in-Some.is c.add_then.ensures.kept (c.in_ok-next.ensures.asked rule r) h)
    (c.add_then.ensures.asked rule (rules_later _ _ _ _ rule c.add_body.ensures.kept r))

pub add_body-returns-in-Bare-clause-asked : goal.add_body-returns-in-Bare-clause-asked
add_body-returns-in-Bare-clause-asked t c = λ rule r. body-Bare rule c.args.body.now _ _ _ c.in-Bare.is

pub add_body-add_entries-requires : goal.add_body-add_entries-requires
add_body-add_entries-requires t c =
    let s = depth-List c.args.body.now c.in-List.entries c.as_slice.result.now c.in-List.is c.as_slice.ensures in
    (omega (arith, s, c.decreases), filled_list c.args.body.now c.in-List.entries c.as_slice.result.now c.in-List.is c.as_slice.ensures c.requires)

pub add_body-returns-in-List-clause-asked : goal.add_body-returns-in-List-clause-asked
add_body-returns-in-List-clause-asked t c = λ rule r.
    IfOk-weaker c.add_entries.result _ _ (λ n h. body-List rule c.args.body.now c.in-List.entries _ _ _ _ _ _ c.in-List.is c.as_slice.ensures h) (c.add_entries.ensures.asked rule r)

pub add_body-add_keys-requires : goal.add_body-add_keys-requires
add_body-add_keys-requires t c =
    let f = filled_exact c.args.body.now c.in-Exact.input c.in-Exact.map c.as_slice-in-Exact.result.now c.in-Exact.is c.as_slice-in-Exact.ensures c.requires in
    let s = depth-Exact c.args.body.now c.in-Exact.input c.in-Exact.map c.as_slice-in-Exact.result.now c.in-Exact.is c.as_slice-in-Exact.ensures in
    (omega (arith, s, c.decreases), f)

pub add_body-returns-in-Exact-clause-asked : goal.add_body-returns-in-Exact-clause-asked
add_body-returns-in-Exact-clause-asked t c = λ rule r.
    IfOk-weaker c.add_keys.result _ _ (λ n h. body-Exact rule c.args.body.now c.in-Exact.input c.in-Exact.map _ _ _ _ _ _ c.in-Exact.is c.as_slice-in-Exact.ensures h) (c.add_keys.ensures.asked rule r)

pub add_body-add_keys-requires-in-Prefix : goal.add_body-add_keys-requires-in-Prefix
add_body-add_keys-requires-in-Prefix t c =
    let f = filled_prefix c.args.body.now c.in-Prefix.input c.in-Prefix.map c.as_slice-in-Prefix.result.now c.in-Prefix.is c.as_slice-in-Prefix.ensures c.requires in
    let s = depth-Prefix c.args.body.now c.in-Prefix.input c.in-Prefix.map c.as_slice-in-Prefix.result.now c.in-Prefix.is c.as_slice-in-Prefix.ensures in
    (omega (arith, s, c.decreases), f)

pub add_body-returns-in-Prefix-clause-asked : goal.add_body-returns-in-Prefix-clause-asked
add_body-returns-in-Prefix-clause-asked t c = λ rule r.
    IfOk-weaker c.add_keys-in-Prefix.result _ _
    (λ n h. body-Prefix rule c.args.body.now c.in-Prefix.input c.in-Prefix.map _ _ _ _ _ _ c.in-Prefix.is c.as_slice-in-Prefix.ensures h)
    (c.add_keys-in-Prefix.ensures.asked rule r)

pub add_entries-predicate_formula-requires : goal.add_entries-predicate_formula-requires
add_entries-predicate_formula-requires t c = (filled_entry c.args.entries.now c.loop-entry.entry-index c.entry-item.result c.loop-entry-test.true c.entry-item.is c.requires).0

pub add_entries-add_where-requires : goal.add_entries-add_where-requires
add_entries-add_where-requires t c =
    let s = depth-entry c.entry-item.result in
    let m = at_most entry.the_size c.args.entries.now c.loop-entry.entry-index c.entry-item.result c.loop-entry-test.true in
    let e = ap entry.the_size c.entry-item.is in
    (omega (arith, s, m, e, c.decreases), (filled_entry c.args.entries.now c.loop-entry.entry-index c.entry-item.result c.loop-entry-test.true c.entry-item.is c.requires).1)

pub add_entries-loop-entry-preserved : goal.add_entries-loop-entry-preserved
add_entries-loop-entry-preserved t c =
    let i = c.loop-entry.invariant in
    let e = c.entry-item.result in
    let before = grows_on _ _ _ i.kept c.predicate_formula.ensures.kept in
    let more = grows_on _ _ _ c.predicate_formula.ensures.kept c.add_where.ensures.kept in
    record {
      kept = grows_on _ _ _ i.kept more;
      asked = λ rule r.
          asked_more (entry_asking rule) c.args.entries.now c.loop-entry.entry-index e _ _ _ _ _ _ _ _ _ c.loop-entry-test.true c.entry-item.is (entry_asks rule e) more (i.asked rule r)
          (c.in_ok-next.ensures.asked rule (predicate_condition e.test) (rules_later _ _ _ _ rule before r) c.in_ok-condition.ensures.meant);
    }

pub add_entries-returns-clause-asked : goal.add_entries-returns-clause-asked
add_entries-returns-clause-asked t c = λ rule r.
    subst (λ l. IsAsked (asked_in_turn (map (entry_asking rule) l)) c.args.first c.loop-entry.next c.loop-entry.atoms c.args.list.now c.loop-entry.list)
    (take_all c.loop-entry.entry-index c.args.entries.now (omega (arith, c.loop-entry-test.false))) (c.loop-entry.invariant.asked rule r)

pub add_keys-key_formula-requires : goal.add_keys-key_formula-requires
add_keys-key_formula-requires t c =
    let f = filled_key c.args.keys.now c.loop-entry.entry-index c.entry-item.result c.loop-entry-test.true c.entry-item.is c.requires.keys in
    record { input = c.requires.input; key = subst (λ k. IsTrue (is_matcher_text k)) (sym c.as_bytes.ensures) f.0 }

pub add_keys-add_where-requires : goal.add_keys-add_where-requires
add_keys-add_where-requires t c =
    let s = depth-key c.entry-item.result in
    let m = at_most key.the_size c.args.keys.now c.loop-entry.entry-index c.entry-item.result c.loop-entry-test.true in
    let e = ap key.the_size c.entry-item.is in
    (omega (arith, s, m, e, c.decreases), (filled_key c.args.keys.now c.loop-entry.entry-index c.entry-item.result c.loop-entry-test.true c.entry-item.is c.requires.keys).1)

pub add_keys-loop-entry-preserved : goal.add_keys-loop-entry-preserved
add_keys-loop-entry-preserved t c =
    let i = c.loop-entry.invariant in
    let e = c.entry-item.result in
    let own = key_condition c.args.prefixes c.args.input.now in
    let before = grows_on _ _ _ i.kept c.key_formula.ensures.kept in
    let more = grows_on _ _ _ c.key_formula.ensures.kept c.add_where.ensures.kept in
    let meant = subst (λ k. IsMeant c.key_formula.new.atoms c.in_ok-condition.condition (own k)) c.as_bytes.ensures c.in_ok-condition.ensures.meant in
    record {
      kept = grows_on _ _ _ i.kept more;
      asked = λ rule r.
          asked_more (key_asked rule own) c.args.keys.now c.loop-entry.entry-index e _ _ _ _ _ _ _ _ _ c.loop-entry-test.true c.entry-item.is refl more (i.asked rule r)
          (c.in_ok-next.ensures.asked rule (own e.key) (rules_later _ _ _ _ rule before r) meant);
    }

pub add_keys-returns-clause-asked : goal.add_keys-returns-clause-asked
add_keys-returns-clause-asked t c = λ rule r.
    let own = key_condition c.args.prefixes c.args.input.now in
    let all = take_all c.loop-entry.entry-index c.args.keys.now (omega (arith, c.loop-entry-test.false)) in
    subst (λ x. IsAsked x c.args.first c.loop-entry.next c.loop-entry.atoms c.args.list.now c.loop-entry.list)
    (ap (λ l. asked_in_turn (map (key_asked rule own) l)) all ∙ sym (keys_asked rule own c.args.keys.now)) (c.loop-entry.invariant.asked rule r)

pub add_where-returns-clause-asked : goal.add_where-returns-clause-asked
add_where-returns-clause-asked t c = λ rule k r m.
    let asks = then_asking rule c.args.then.now in
    asked_if k asks c.args.first c.in_ok-next.next c.add_then.new.atoms _ c.add_then.new.list _ _ c.new-inner.ensures (c.in_ok-next.ensures.asked rule r)
    (λ h. c.in_ok-add_conditioned.ensures c.add_then.new.atoms k (asks.guards c.args.first) (meant_grows _ _ _ _ c.add_then.ensures.kept m)
    (subst (λ z. AreGuards c.add_then.new.atoms z (asks.guards c.args.first)) (sym c.as_slice.ensures) h))

pub add_then-add_tree-requires : goal.add_then-add_tree-requires
add_then-add_tree-requires t c =
    let s = depth-Inner c.args.then.now c.in-Inner.tree c.get.result.now c.in-Inner.is c.get.ensures in
    (omega (arith, s, c.decreases), filled_inner c.args.then.now c.in-Inner.tree c.get.result.now c.in-Inner.is c.get.ensures c.requires)

pub add_then-returns-in-Inner-clause-asked : goal.add_then-returns-in-Inner-clause-asked
add_then-returns-in-Inner-clause-asked t c = λ rule r.
    IfOk-weaker c.add_tree.result _ _ (λ n h. then-Inner rule c.args.then.now c.in-Inner.tree c.get.result.now _ _ _ _ _ c.in-Inner.is c.get.ensures h) (c.add_tree.ensures.asked rule r)

pub add_then-returns-in-Routes-clause-asked : goal.add_then-returns-in-Routes-clause-asked
add_then-returns-in-Routes-clause-asked t c = λ rule r.
    IfOk-weaker c.add_routes.result _ _ (λ n h. then-Routes rule c.args.then.now c.in-Routes.routes _ _ _ _ _ _ c.in-Routes.is c.len.ensures h.0 h.1) (c.add_routes.ensures _ rule r)
