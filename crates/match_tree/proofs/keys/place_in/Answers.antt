use Rattle.std.proofs.Common.{◌≡◌, ◌<◌, length, true, false, arith, sym, ◌∙◌, subst, bytes_eq}
use Rattle.match_tree.proofs.Places.{key_at, found_at, absent_at}
use Rattle.match_tree.proofs.keys.place_in.Goals as goal

pub returns-then-bound-keys : goal.returns-then-bound-keys
returns-then-bound-keys c =
    absent_at c.args.by_length c.args.keys.now c.args.text.now c.bound_of-bound.result c.requires c.bound_of-bound.ensures (λ l. absurd (omega (arith, c.if-bound-keys.true)))

pub returns-then-eq : goal.returns-then-eq
returns-then-eq c =
    let lt : c.bound_of-bound.result < length c.args.keys.now = omega (arith, c.if-bound-keys.false) in
    let key = c.as_bytes.ensures ∙ key_at c.args.keys.now c.bound_of-bound.result c.index-keys-bound.result lt c.index-keys-bound.is in
    found_at c.args.by_length c.args.keys.now c.args.text.now c.bound_of-bound.result c.bound_of-bound.ensures lt
    (subst (λ k. bytes_eq c.args.text.now k ≡ true) key (sym c.eq.ensures ∙ c.if-eq.true))

pub returns : goal.returns
returns c =
    let lt : c.bound_of-bound.result < length c.args.keys.now = omega (arith, c.if-bound-keys.false) in
    let key = c.as_bytes.ensures ∙ key_at c.args.keys.now c.bound_of-bound.result c.index-keys-bound.result lt c.index-keys-bound.is in
    absent_at c.args.by_length c.args.keys.now c.args.text.now c.bound_of-bound.result c.requires c.bound_of-bound.ensures
    (λ l. subst (λ k. bytes_eq c.args.text.now k ≡ false) key (sym c.eq.ensures ∙ c.if-eq.false))
