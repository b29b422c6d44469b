use Rattle.std.proofs.Common.{◌≡◌, ℕ, ◌+◌, ◌*◌, ◌<◌, ◌≤◌, ◌^◌, Bool, true, false, sym, ap, subst, arith}
use Rattle.rx_term.specs.declared.sets.ByteSet.{ByteSet}
use mir.Val.{bool_byte}
use Rattle.rx_parse.specs.Sets.{holds as holds_test, filled}
use Rattle.rx_parse.specs.Answer.{set_with}
use Rattle.rx_parse.proofs.Filled.{filled_room}
use Rattle.rx_parse.proofs.bytes.set_of.Goals as goal

abbrev set_of_number : ℕ → ByteSet
set_of_number n = record { 0 = n }

bool_small : (b : Bool) → bool_byte b ≤ 1
bool_small true = omega arith
bool_small false = omega arith

pub overflow_mul-bits : goal.overflow_mul-bits
overflow_mul-bits c =
    let r : 2 * filled (holds_test c.args.bytes) c.loop-i.i + 1 < 2 ^ 128 = filled_room (holds_test c.args.bytes) c.loop-i.i c.loop-i-test.true in
    let e : c.loop-i.bits ≡ filled (holds_test c.args.bytes) c.loop-i.i = c.loop-i.invariant in
    omega arith

pub overflow_add-bits : goal.overflow_add-bits
overflow_add-bits c =
    let r : 2 * filled (holds_test c.args.bytes) c.loop-i.i + 1 < 2 ^ 128 = filled_room (holds_test c.args.bytes) c.loop-i.i c.loop-i-test.true in
    let e : c.loop-i.bits ≡ filled (holds_test c.args.bytes) c.loop-i.i = c.loop-i.invariant in
    let f : c.from.result ≤ 1 = subst (λ n. n ≤ 1) (sym c.from.ensures) (bool_small c.holds.result) in
    omega arith

pub returns : goal.returns
unfolding set_with
returns c =
    let e : c.loop-i.i ≡ 128 = omega arith in
    ap set_of_number (subst (λ n. c.loop-i.bits ≡ filled (holds_test c.args.bytes) n) e c.loop-i.invariant)
