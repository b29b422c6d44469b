use Rattle.std.proofs.Common.{◌≡◌, ◌++◌, ◌∷◌, ℕ, [], length, take, sym, ◌∙◌, ap, subst}
use Rattle.rx_joint.specs.declared.literals.Literal.{Literal}
use Rattle.rx_joint.specs.Claims.{AreChosen, chosen, claims_of}
use Rattle.rx_joint.proofs.AllLiterals.{chosen_push, chosen_claims, claims_more}
use Rattle.rx_joint.proofs.closing.joint_of.Goals as goal

pub loop-literal-preserved : goal.loop-literal-preserved
loop-literal-preserved c =
    let l = c.literal-item.result in
    let i = c.loop-literal.literal-index in
    let literals = c.args.literals.now in
    let terms = c.loop-literal.joint.terms in
    let choice = c.loop-literal.choice.items in
    let inv = c.loop-literal.invariant in
    let added = c.in_ok-add.ensures.added in
    let items : c.push.new.self.items ≡ choice ++ (length terms, l.holds) ∷ [] = c.in_ok-push.ensures.items ∙ ap (λ (k : ℕ). choice ++ (k, l.holds) ∷ []) c.count.ensures in
    record {
      valid = added.0 ∙ inv.valid;
      within = subst (λ ts. AreChosen ts c.push.new.self.items) (sym added.1)
          (subst (AreChosen (terms ++ l.term ∷ [])) (sym items) (chosen_push terms l.term l.holds choice inv.within));
      claims = ap (λ ts. chosen ts c.push.new.self.items) added.1 ∙ ap (chosen (terms ++ l.term ∷ [])) items ∙ chosen_claims terms l.term l.holds choice inv.within
          ∙ ap (λ z. z ++ (l.term, l.holds) ∷ []) inv.claims ∙ ap (λ (k : Literal). claims_of (take i literals) ++ (k.term, k.holds) ∷ []) c.literal-item.is
          ∙ sym (claims_more literals i l c.loop-literal-test.true);
    }
