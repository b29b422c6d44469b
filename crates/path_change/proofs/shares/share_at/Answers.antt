use Rattle.std.proofs.Common.{ℕ, ◌≡◌, ◌%◌, sym, refl, arith}
use Rattle.cfg_types.specs.Shares.{weight_of}
use Rattle.path_change.proofs.Picked.{no_weight, ends_at, weight_more}
use Rattle.path_change.proofs.shares.share_at.Goals as goal

pub returns-then-total-eq0-clause-picked : goal.returns-then-total-eq0-clause-picked
returns-then-total-eq0-clause-picked c =
    sym (no_weight c.args.shares.now c.args.random (omega (arith, c.total_weight-total.ensures, c.if-total-eq0.true)))

pub returns-then-value-through-clause-picked : goal.returns-then-value-through-clause-picked
returns-then-value-through-clause-picked c =
    let value : ℕ = c.from.result % c.total_weight-total.result in
    let is : c.from.result % c.total_weight-total.result ≡ c.args.random % weight_of c.args.shares.now = rw (c.from.ensures, c.total_weight-total.ensures) refl in
    let more = weight_more c.args.shares.now c.loop-at.at c.index-shares-at.result c.loop-at-test.true c.index-shares-at.is in
    sym (ends_at c.args.shares.now c.args.random value c.loop-at.at is c.loop-at-test.true c.loop-at.invariant.passed
    (omega (arith, c.loop-at.invariant.through, c.loop-at.invariant.behind))
    (omega (arith, more, c.loop-at.invariant.through, c.from-through.ensures, c.if-value-through.true)))
