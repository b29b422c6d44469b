use Rattle.std.proofs.Common.{◌≡◌, ◌+◌, ◌-◌, ◌/◌, ◌<◌, ℕ, length, true, false, arith, sym, ◌∙◌, subst}
use Rattle.match_tree.specs.KeyOrder.{order}
use Rattle.match_tree.proofs.Places.{key_at, below_middle, above_middle}
use Rattle.match_tree.proofs.keys.bound_of.Goals as goal

pub loop-low-preserved-then-precedes : goal.loop-low-preserved-then-precedes
loop-low-preserved-then-precedes c =
    let middle : ℕ = c.loop-low.low + (c.loop-low.high - c.loop-low.low) / 2 in
    let lt : middle < length c.args.keys.now = omega (arith, c.loop-low.invariant.within, c.loop-low-test.true) in
    let key = c.as_bytes.ensures ∙ key_at c.args.keys.now middle c.index-keys-middle.result lt c.index-keys-middle.is in
    let before = subst (λ k. order c.args.by_length k c.args.text.now ≡ true) key (sym c.precedes.ensures ∙ c.if-precedes.true) in
    record {
      level = omega (arith, c.loop-low.invariant.within, c.loop-low-test.true);
      within = c.loop-low.invariant.within;
      below = below_middle c.args.by_length c.args.keys.now c.args.text.now middle c.requires lt before;
      above = c.loop-low.invariant.above;
    }

pub loop-low-preserved : goal.loop-low-preserved
loop-low-preserved c =
    let middle : ℕ = c.loop-low.low + (c.loop-low.high - c.loop-low.low) / 2 in
    let lt : middle < length c.args.keys.now = omega (arith, c.loop-low.invariant.within, c.loop-low-test.true) in
    let key = c.as_bytes.ensures ∙ key_at c.args.keys.now middle c.index-keys-middle.result lt c.index-keys-middle.is in
    let behind = subst (λ k. order c.args.by_length k c.args.text.now ≡ false) key (sym c.precedes.ensures ∙ c.if-precedes.false) in
    record {
      level = omega arith;
      within = omega arith;
      below = c.loop-low.invariant.below;
      above = above_middle c.args.by_length c.args.keys.now c.args.text.now middle c.requires lt behind;
    }
