use Rattle.std.proofs.Common.{◌≡◌, ◌++◌, ◌∷◌, [], refl, sym, ◌∙◌, ap, subst, arith, inl, inr}
use Rattle.std.proofs.lemmas.Bool.{cases_lt}
use Rattle.rx_term.specs.Language.{Has}
use Rattle.rx_term.specs.Closing.{IsPrintable}
use Rattle.rx_term.proofs.Language.{Has_left, Has_right, Has_cases}
use Rattle.rx_auto.specs.Classes.{AreAlike}
use Rattle.rx_auto.proofs.Likeness.{alike_same}
use Rattle.rx_auto.proofs.sets.first_bytes.Goals as goal
use Rattle.rx_auto.proofs.sets.first_bytes.Goals.{then-not-has_alike+in_ok-push, else-not-has_alike}

pub loop-byte-preserved : goal.loop-byte-preserved
loop-byte-preserved c =
    let i = c.loop-byte.invariant in
    elim c.if-not-has_alike.branch [
      | then-not-has_alike+in_ok-push w ↦
          let e : c.if-not-has_alike.bytes.items ≡ c.loop-byte.bytes.items ++ c.loop-byte.byte ∷ [] = ap (λ v. v.items) w.bytes-is ∙ w.in_ok-push.ensures.items in
          record {
            within = λ d h. elim (Has_cases c.loop-byte.bytes.items (c.loop-byte.byte ∷ []) d (subst (λ z. Has z d) e h)) [
              | inl k ↦ i.within d k
              | inr k ↦ elim k [ inl q ↦ subst IsPrintable q (omega arith, omega arith) | inr z ↦ absurd z ]
            ];
            each = λ b l m. elim (cases_lt b c.loop-byte.byte) [
              | inl k ↦ let r = i.each b l k in (r.0, subst (λ z. Has z r.0) (sym e) (Has_left c.loop-byte.bytes.items (c.loop-byte.byte ∷ []) r.0 r.1), r.2)
              | inr k ↦
                  let q : c.loop-byte.byte ≡ b = omega arith in
                  (c.loop-byte.byte, subst (λ z. Has z c.loop-byte.byte) (sym e) (Has_right c.loop-byte.bytes.items (c.loop-byte.byte ∷ []) c.loop-byte.byte (inl refl)), subst (AreAlike c.args.sets.now c.loop-byte.byte) q (alike_same c.args.sets.now c.loop-byte.byte))
            ];
          }
      | else-not-has_alike w ↦
          let e : c.if-not-has_alike.bytes.items ≡ c.loop-byte.bytes.items = ap (λ v. v.items) w.bytes-is in
          let t = c.has_alike.ensures.0 w.if-not-has_alike.false in
          record {
            within = λ d h. i.within d (subst (λ z. Has z d) e h);
            each = λ b l m. elim (cases_lt b c.loop-byte.byte) [
              | inl k ↦ let r = i.each b l k in (r.0, subst (λ z. Has z r.0) (sym e) r.1, r.2)
              | inr k ↦
                  let q : c.loop-byte.byte ≡ b = omega arith in
                  (t.0, subst (λ z. Has z t.0) (c.deref.ensures.value ∙ sym e) t.1, subst (AreAlike c.args.sets.now t.0) q t.2)
            ];
          }
    ]

pub returns : goal.returns
returns c = record {
  within = c.loop-byte.invariant.within;
  each = λ b p. c.loop-byte.invariant.each b p.0 (omega (arith, p.1, c.loop-byte-test.false));
}
