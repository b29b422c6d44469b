use Rattle.std.proofs.Common.{◌≡◌, ℕ, ◌<◌, ◌^◌, List, length, ◌∙◌, ap, sym, subst, arith}
use Rattle.rx_auto.specs.declared.parts.Spot.{Spot}
use Rattle.rx_auto.specs.Distinct.{AreDistinct}
use Rattle.rx_auto.specs.Parts.{spot_at}
use Rattle.rx_auto.specs.Marks.{rep_at}
use Rattle.rx_auto.specs.Table.{IsRep}
use Rattle.rx_auto.proofs.Wholes.{ok_all, ok_map}
use Rattle.rx_auto.proofs.firsts.firsts_of.Goals as goal

pub all_firsts-requires : goal.all_firsts-requires
all_firsts-requires c = record {
  few = omega (arith, ap length c.deref.ensures.value, c.len.ensures, c.if-len-gt-MOST.false);
  tails = subst (λ (z : List Spot). (p : ℕ) → p < length z → (spot_at z p).tail < c.len-2.result) (sym c.deref.ensures.value)
      (λ p h. omega (arith, c.requires p h, c.len-2.ensures));
}

pub returns : goal.returns
returns c =
    let spots = c.args.parts.now.spots.items in
    let few : length spots < 2 ^ 32 = omega (arith, c.len.ensures, c.if-len-gt-MOST.false) in
    let nodes : length c.args.parts.now.ways < 2 ^ 32 = omega (arith, c.len-else-len-gt-MOST.ensures, c.if-len-gt-MOST-2.false) in
    record {
      few = ok_all c.all_firsts.result (λ _. length spots < 2 ^ 32) (λ _. few);
      nodes = ok_all c.all_firsts.result (λ _. length c.args.parts.now.ways < 2 ^ 32) (λ _. nodes);
      apart = ok_all c.all_firsts.result (λ _. AreDistinct c.args.parts.now.dag) (λ _. c.known.ensures);
      long = ok_map c.all_firsts.result (λ reps. length reps.items ≡ length c.deref.result.now) (λ reps. length reps.items ≡ length spots)
          (λ x e. e ∙ ap length c.deref.ensures.value) c.all_firsts.ensures.long;
      rep = ok_map c.all_firsts.result (λ reps. (p : ℕ) → p < length c.deref.result.now → IsRep c.deref.result.now p (rep_at reps.items p))
          (λ reps. (p : ℕ) → p < length spots → IsRep spots p (rep_at reps.items p))
          (λ x. subst (λ (z : List Spot). (p : ℕ) → p < length z → IsRep z p (rep_at x.items p)) c.deref.ensures.value) c.all_firsts.ensures.rep;
    }
