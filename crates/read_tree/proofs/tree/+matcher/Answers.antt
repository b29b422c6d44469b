use Rattle.std.proofs.Common.{rules, ap, sym, ◌∙◌}
use Rattle.serde_json.specs.Data.{member}
use Rattle.serde_json.specs.View.{view, members_view}
use Rattle.std.proofs.lemmas.Result.{err_from_is_err_and}
use Rattle.json_walk.proofs.Elements.{reads_on, ends_at, is_read}
use Rattle.json_walk.specs.Fields.{optional, required}
use Rattle.json_walk.specs.Leaves.{list_of}
use Rattle.read_tree.specs.Trees.{matcher_list, match_map, keyed, matcher}
use Rattle.read_tree.proofs.ByteOrder.{ordered_is}
use Rattle.read_tree.proofs.Keyed.{keyed_on, keyed_ends, keyed_done}
use Rattle.read_tree.proofs.tree.+matcher.Goals as goal

pub each_entry-returns-in_err-one : goal.each_entry-returns-in_err-one
each_entry-returns-in_err-one t c =
    let p = err_from_is_err_and c.from_residual-in_err-one.result c.from_residual-in_err-one.ensures.1 in
    rw (p.1, p.2) (ends_at _ _ _ _ _ _ _ _ _ c.loop-i-test.true c.index-values-i.is c.in_ok-at.ensures c.in_err-one.ensures c.loop-i.invariant)

pub each_entry-loop-i-preserved : goal.each_entry-loop-i-preserved
each_entry-loop-i-preserved t c =
    reads_on _ _ _ _ _ _ _ _ _ _ c.loop-i-test.true c.index-values-i.is c.in_ok-at.ensures c.in_ok-one.ensures c.in_ok-push.ensures.ok c.loop-i.invariant

pub each_entry-returns : goal.each_entry-returns
each_entry-returns t c = is_read _ _ _ _ _ _ c.loop-i-test.false c.loop-i.invariant

pub optional_list-returns-in_err-matcher_list-in-Some : goal.optional_list-returns-in_err-matcher_list-in-Some
unfolding optional
optional_list-returns-in_err-matcher_list-in-Some t c = search rules

pub optional_list-returns-in_ok-matcher_list-in-Some : goal.optional_list-returns-in_ok-matcher_list-in-Some
unfolding optional
optional_list-returns-in_ok-matcher_list-in-Some t c = search rules

pub optional_list-returns-in-None : goal.optional_list-returns-in-None
unfolding optional
optional_list-returns-in-None t c = search rules

pub optional_tree-returns-in_err-matcher_tree-in-Some : goal.optional_tree-returns-in_err-matcher_tree-in-Some
unfolding optional
optional_tree-returns-in_err-matcher_tree-in-Some t c = search rules

pub optional_tree-returns-in_ok-matcher_tree-in-Some : goal.optional_tree-returns-in_ok-matcher_tree-in-Some
unfolding optional
optional_tree-returns-in_ok-matcher_tree-in-Some t c = search rules

pub optional_tree-returns-in-None : goal.optional_tree-returns-in-None
unfolding optional
optional_tree-returns-in-None t c = search rules

pub optional_map-returns-in_err-match_map-in-Some : goal.optional_map-returns-in_err-match_map-in-Some
unfolding optional
optional_map-returns-in_err-match_map-in-Some t c = search rules

pub optional_map-returns-in_ok-match_map-in-Some : goal.optional_map-returns-in_ok-match_map-in-Some
unfolding optional
optional_map-returns-in_ok-match_map-in-Some t c = search rules

pub optional_map-returns-in-None : goal.optional_map-returns-in-None
unfolding optional
optional_map-returns-in-None t c = search rules

pub optional_matcher-returns-in_err-read_matcher-in-Some : goal.optional_matcher-returns-in_err-read_matcher-in-Some
unfolding optional
optional_matcher-returns-in_err-read_matcher-in-Some t c = search rules

pub optional_matcher-returns-in_ok-read_matcher-in-Some : goal.optional_matcher-returns-in_ok-read_matcher-in-Some
unfolding optional
optional_matcher-returns-in_ok-read_matcher-in-Some t c = search rules

pub optional_matcher-returns-in-None : goal.optional_matcher-returns-in-None
unfolding optional
optional_matcher-returns-in-None t c = search rules

pub optional_on_match-returns-in_err-read_on_match-in-Some : goal.optional_on_match-returns-in_err-read_on_match-in-Some
unfolding optional
optional_on_match-returns-in_err-read_on_match-in-Some t c = search rules

pub optional_on_match-returns-in_ok-read_on_match-in-Some : goal.optional_on_match-returns-in_ok-read_on_match-in-Some
unfolding optional
optional_on_match-returns-in_ok-read_on_match-in-Some t c = search rules

pub optional_on_match-returns-in-None : goal.optional_on_match-returns-in-None
unfolding optional
optional_on_match-returns-in-None t c = search rules

pub matcher_list-returns-in_err-items : goal.matcher_list-returns-in_err-items
unfolding matcher_list required list_of
matcher_list-returns-in_err-items t c = search rules

pub matcher_list-returns-in_err-list : goal.matcher_list-returns-in_err-list
unfolding matcher_list required list_of
matcher_list-returns-in_err-list t c = search rules

pub matcher_list-returns-in_default : goal.matcher_list-returns-in_default
unfolding matcher_list required list_of
matcher_list-returns-in_default t c = search rules

pub matcher_list-returns : goal.matcher_list-returns
unfolding matcher_list required list_of
matcher_list-returns t c = search rules

pub required_on_match-returns-in-Some : goal.required_on_match-returns-in-Some
unfolding required
required_on_match-returns-in-Some t c = search rules

pub required_on_match-returns-in-None : goal.required_on_match-returns-in-None
unfolding required
required_on_match-returns-in-None t c = search rules

pub match_map-returns-in_default : goal.match_map-returns-in_default
unfolding match_map required
match_map-returns-in_default t c = search rules

pub match_map-returns-in_err-list : goal.match_map-returns-in_err-list
unfolding match_map required
match_map-returns-in_err-list t c = search rules

pub match_map-returns : goal.match_map-returns
unfolding match_map required
match_map-returns t c = search rules

pub each_key-returns-in_err-one : goal.each_key-returns-in_err-one
each_key-returns-in_err-one t c =
    let p = err_from_is_err_and c.from_residual.result c.from_residual.ensures.1 in
    let left = ap members_view c.in-Some.ensures.steps ∙ ap (λ k. member k (view c.in-Some.member.now) (members_view c.next.new.self)) (sym c.as_str.ensures.value) in
    let all = c.loop-key.invariant ∙ sym (ap (keyed (matcher c.args.left) c.args.place.now) (ordered_is c.args.members.now.entries c.iter-key-items.ensures.ordered)) in
    rw (p.1, p.2) (keyed_ends (matcher c.args.left) c.args.place.now c.as_str.result.now (view c.in-Some.member.now) (members_view c.loop-key.key-iterator) (members_view c.next.new.self) _ _ _ left c.in_err-one.ensures all)

pub each_key-loop-key-preserved : goal.each_key-loop-key-preserved
each_key-loop-key-preserved t c =
    let left = ap members_view c.in-Some.ensures.steps ∙ ap (λ k. member k (view c.in-Some.member.now) (members_view c.next.new.self)) (sym c.as_str.ensures.value) in
    keyed_on (matcher c.args.left) c.args.place.now c.as_str.result.now (view c.in-Some.member.now) (members_view c.loop-key.key-iterator) (members_view c.next.new.self) _ _ c.in_ok-one.one _ left
    c.in_ok-one.ensures c.in_ok-push.ensures.items c.loop-key.invariant

pub each_key-returns : goal.each_key-returns
each_key-returns t c =
    ap (keyed (matcher c.args.left) c.args.place.now) (ordered_is c.args.members.now.entries c.iter-key-items.ensures.ordered)
    ∙ keyed_done (matcher c.args.left) c.args.place.now (members_view c.loop-key.key-iterator) c.loop-key.all.items _ (ap members_view c.in-None.ensures.steps.0) c.loop-key.invariant
