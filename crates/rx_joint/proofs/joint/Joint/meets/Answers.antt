use Rattle.std.proofs.Common.{◌≡◌, ◌<◌, ℕ, Bool, false, true, length, get_or, sym, subst}
use Rattle.std.proofs.Math.ListN.{length-map}
use Rattle.std.proofs.lemmas.List.{get_or-map}
use Rattle.rx_term.specs.declared.terms.Term.{Nothing}
use Rattle.rx_term.specs.Language.{In}
use Rattle.rx_term.specs.Closing.{Is, Claim}
use Rattle.rx_auto.specs.Node.{term_at}
use Rattle.rx_joint.specs.Claims.{chosen}
use Rattle.rx_joint.proofs.Spelling.{at_Each}
use Rattle.rx_joint.proofs.Choosing.{differs, is_wrong}
use Rattle.rx_joint.proofs.joint.Joint.meets.Goals as goal

pub returns-then-has-holds-clause-meets : goal.returns-then-has-holds-clause-meets
returns-then-has-holds-clause-meets c = (
  λ h. absurd (clash h),
  λ m. absurd (
      let i = c.loop-claim.claim-index in
      let terms = c.args.self.now.terms in
      let choice = c.args.choice.now in
      let claim : ℕ × Bool → Claim = λ p. (term_at terms p.0, p.1) in
      let l : i < length (chosen terms choice) = subst (λ n. i < n) (sym (length-map choice claim)) c.loop-claim-test.true in
      let k = at_Each (λ (p : Claim). Is p.1 (In c.args.text.now p.0)) (chosen terms choice) (Nothing, false) m.1 i l in
      let e = get_or-map claim choice i (0, false) (Nothing, false) c.loop-claim-test.true in
      is_wrong (get_or choice i (0, false)).1 c.has.result (In c.args.text.now (term_at terms (get_or choice i (0, false)).0)) c.has.ensures.is_in (differs c.has.result (get_or choice i (0, false)).1 c.if-has-holds.true)
      (subst (λ (p : Claim). Is p.1 (In c.args.text.now p.0)) e k)),
)
  where
    clash : false ≡ true → ⊥
    clash k = cc
