use Rattle.std.proofs.Common.{◌≡◌, ◌≤◌, length, take, arith, sym, subst, bytes_eq}
use Rattle.std.specs.List.{position_or_len}
use Rattle.match_tree.proofs.Places.{NoneLonger, none_longer, none_longer-less, no_prefix, longest_found}
use Rattle.match_tree.proofs.keys.longest_in.Goals as goal

pub fronts-init : goal.fronts-init
fronts-init c = record {
  within = omega (arith, c.min-size.ensures);
  none = subst (NoneLonger c.args.text.now c.args.keys.now) (sym c.min-size.ensures) (none_longer c.args.text.now c.args.keys.now c.args.longest c.requires.within);
}

pub returns-then-place-keys : goal.returns-then-place-keys
returns-then-place-keys c =
    longest_found c.args.text.now c.args.keys.now c.fronts.size c.place_in-place.result c.fronts.invariant.within c.fronts.invariant.none c.place_in-place.ensures c.if-place-keys.true

pub returns-then-size-eq0 : goal.returns-then-size-eq0
returns-then-size-eq0 c =
    let zero : c.fronts.size ≡ 0 = c.if-size-eq0.true in
    let past : length c.args.keys.now ≤ position_or_len (λ k. bytes_eq (take c.fronts.size c.args.text.now) k) c.args.keys.now = omega (arith, c.if-place-keys.false, c.place_in-place.ensures) in
    no_prefix c.args.text.now c.args.keys.now
    (subst (NoneLonger c.args.text.now c.args.keys.now) zero c.fronts.invariant.none)
    (subst (λ n. length c.args.keys.now ≤ position_or_len (λ k. bytes_eq (take n c.args.text.now) k) c.args.keys.now) zero past)

pub fronts-preserved : goal.fronts-preserved
fronts-preserved c =
    let past : length c.args.keys.now ≤ position_or_len (λ k. bytes_eq (take c.fronts.size c.args.text.now) k) c.args.keys.now = omega (arith, c.if-place-keys.false, c.place_in-place.ensures) in
    record {
      within = omega (arith, c.fronts.invariant.within);
      none = none_longer-less c.args.text.now c.args.keys.now c.fronts.size c.fronts.invariant.none past;
    }
