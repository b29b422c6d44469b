use Rattle.std.proofs.Common.{◌≡◌, ◌<◌, ◌+◌, ◌++◌, ◌∷◌, ℕ, true, false, List, [], length, get_or, sym, ◌∙◌, ap, subst, arith, rules}
use Rattle.rx_auto.specs.Table.{TableMeaning}
use Rattle.rx_joint.specs.Joint.{terms_in, picked}
use Rattle.rx_joint.specs.Claims.{AreChosen, AreWanted, IsJoint, chosen, all_claims}
use Rattle.rx_joint.proofs.Building.{owns_long, terms_long}
use Rattle.rx_joint.proofs.Spelling.{at_Each}
use Rattle.rx_joint.proofs.Choosing.{numbers_of, holds_of, ArePicked, picked_more, picked_all, picked_same, wanted_true, wanted_false, is_chosen, is_joint}
use Rattle.rx_joint.proofs.joint.Joint.choose.Goals as goal
use Rattle.rx_joint.proofs.joint.Joint.choose.Goals.{then-wants+in_ok-push-4, else-wants}

pub overflow_add-number : goal.overflow_add-number
overflow_add-number c =
    let k = at_Each (λ c'. c'.0 < length c.args.self.now.terms) c.args.choice.now (0, false) c.requires c.loop-claim.claim-index c.loop-claim-test.true in
    omega (arith, k, ap (λ j. length j.terms) c.self.view_is, owns_long c.self.inside.tables.items c.self.invariant.some, terms_long c.self.inside.tables.items, c.self.invariant.ready.few)

pub loop-claim-preserved : goal.loop-claim-preserved
loop-claim-preserved c =
    let choice = c.args.choice.now in
    let i = c.loop-claim.claim-index in
    let inv = c.loop-claim.invariant in
    let wants = (get_or choice i (0, false)).1 in
    let same = picked_same choice i c.loop-claim.numbers.items c.loop-claim.holds.items c.loop-claim.wanted.items inv in
    let wanted : AreWanted (c.loop-claim.holds.items ++ wants ∷ []) c.if-wants.wanted.items = elim c.if-wants.branch [
      | then-wants+in_ok-push-4 w ↦ subst (λ v. AreWanted (c.loop-claim.holds.items ++ wants ∷ []) v.items) (sym w.wanted-is)
          (subst (λ b. AreWanted (c.loop-claim.holds.items ++ b ∷ []) w.push-then-wants.new.self.items) (sym w.if-wants.true)
          (subst (AreWanted (c.loop-claim.holds.items ++ true ∷ [])) (sym w.in_ok-push-4.ensures.items)
          (let n : w.len.result ≡ length c.loop-claim.numbers.items = search rules in wanted_true c.loop-claim.holds.items c.loop-claim.wanted.items inv.wants w.len.result (n ∙ same))))
      | else-wants w ↦ subst (λ v. AreWanted (c.loop-claim.holds.items ++ wants ∷ []) v.items) (sym w.wanted-is)
          (subst (λ b. AreWanted (c.loop-claim.holds.items ++ b ∷ []) c.loop-claim.wanted.items) (sym w.if-wants.false)
          (wanted_false c.loop-claim.holds.items c.loop-claim.wanted.items inv.wants))
    ] in
    subst (λ hs. ArePicked choice (i + 1) c.push-in-loop-claim.new.self.items hs c.if-wants.wanted.items) (sym c.in_ok-push-6.ensures.items)
    (picked_more choice i (0, false) c.loop-claim.numbers.items c.push-in-loop-claim.new.self.items c.loop-claim.holds.items c.loop-claim.wanted.items c.if-wants.wanted.items c.loop-claim-test.true inv
    c.in_ok-push-5.ensures.items wanted)

pub invariant_of-result : goal.invariant_of-result
invariant_of-result c =
    let choice = c.args.choice.now in
    let tables = c.self.inside.tables.items in
    let bytes = c.self.inside.bytes.items in
    let all = picked_all choice c.loop-claim.claim-index c.loop-claim.numbers.items c.loop-claim.holds.items c.loop-claim.wanted.items c.loop-claim-test.false c.loop-claim.auto.claim-index-end c.loop-claim.invariant in
    let few : length choice < 4294967295 = search rules in
    let r = is_chosen tables c.self.inside.sets.items bytes c.self.inside.room c.self.invariant choice (subst (λ j. AreChosen j.terms choice) (sym c.self.view_is) c.requires) few c.loop-claim.wanted.items
    (subst (λ hs. AreWanted hs c.loop-claim.wanted.items) all.1 c.loop-claim.invariant.wants) in
    rw (all.0, all.1, c.deref.ensures.value, c.deref-3.ensures.value) r

pub returns : goal.returns
returns c =
    let choice = c.args.choice.now in
    let tables = c.self.inside.tables.items in
    let bytes = c.self.inside.bytes.items in
    let all = picked_all choice c.loop-claim.claim-index c.loop-claim.numbers.items c.loop-claim.holds.items c.loop-claim.wanted.items c.loop-claim-test.false c.loop-claim.auto.claim-index-end c.loop-claim.invariant in
    let few : length choice < 4294967295 = search rules in
    let r = is_joint tables c.self.inside.sets.items bytes c.self.inside.room c.self.invariant choice (subst (λ j. AreChosen j.terms choice) (sym c.self.view_is) c.requires) few in
    let s = subst (λ j. IsJoint (picked (terms_in tables) (numbers_of choice)) (holds_of choice) bytes (all_claims j.valid (chosen j.terms choice))) c.self.view_is r in
    let claims = all_claims c.args.self.now.valid (chosen c.args.self.now.terms choice) in
    subst (λ (ts : List TableMeaning). IsJoint (picked (terms_in ts) c.loop-claim.numbers.items) c.loop-claim.holds.items c.deref-3.result.now claims) (sym c.deref.ensures.value)
    (subst (λ (bs : List ℕ). IsJoint (picked (terms_in tables) c.loop-claim.numbers.items) c.loop-claim.holds.items bs claims) (sym c.deref-3.ensures.value)
    (subst (λ ns. IsJoint (picked (terms_in tables) ns) c.loop-claim.holds.items bytes claims) (sym all.0)
    (subst (λ hs. IsJoint (picked (terms_in tables) (numbers_of choice)) hs bytes claims) (sym all.1) s)))
