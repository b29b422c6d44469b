use Rattle.std.proofs.Common.{◌≡◌, ◌≤◌, ℕ, List, refl, sym, ◌∙◌, ap, subst, get_or, take, length, arith, true, false, inl, inr}
use Rattle.std.proofs.Math.Seq.{take-length}
use Rattle.rx_term.specs.Language.{Has}
use Rattle.rx_auto.specs.Classes.{AreAlike}
use Rattle.rx_auto.proofs.Likeness.{Has_get, Has_taken}
use Rattle.rx_auto.proofs.sets.has_alike.Goals as goal

pub returns-then-alike : goal.returns-then-alike
returns-then-alike c =
    (λ _. (get_or c.args.bytes.now c.loop-other.other-index 0, Has_get c.args.bytes.now c.loop-other.other-index 0 c.loop-other-test.true, c.alike.ensures.0 c.if-alike.true), λ _. refl)

pub loop-other-preserved : goal.loop-other-preserved
loop-other-preserved c = λ b h k. elim (Has_taken c.args.bytes.now c.loop-other.other-index 0 b c.loop-other-test.true h) [
  | inl x ↦ c.loop-other.invariant b x k
  | inr e ↦ no (sym c.if-alike.false ∙ c.alike.ensures.1 (subst (λ z. AreAlike c.args.sets.now z c.args.byte) (sym e) k))
]
  where
    no : false ≡ true → ⊥
    no e = cc

pub returns : goal.returns
returns c = (
  λ h. absurd (no h),
  λ h. absurd (c.loop-other.invariant h.0 (subst (λ z. Has z h.0) (sym (take_all c.loop-other.other-index c.args.bytes.now c.loop-other-test.false c.loop-other.auto.other-index-end)) h.1) h.2),
)
  where
    no : false ≡ true → ⊥
    no e = cc

    take_all : (n : ℕ) (xs : List ℕ) → length xs ≤ n → n ≤ length xs → take n xs ≡ xs
    take_all n xs h k = let e : n ≡ length xs = omega arith in ap (λ z. take z xs) e ∙ take-length xs
