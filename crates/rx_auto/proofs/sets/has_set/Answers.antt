use Rattle.std.proofs.Common.{◌≡◌, refl, subst, get_or, arith, rules, true, false}
use Rattle.rx_term.specs.Language.{Has}
use Rattle.rx_auto.proofs.Likeness.{no_set, Has_get, Has_place}
use Rattle.rx_auto.proofs.sets.has_set.Goals as goal

pub returns-then-eq : goal.returns-then-eq
returns-then-eq c =
    let e : get_or c.args.sets.now c.loop-other.other-index no_set ≡ c.args.set = search rules in
    (λ _. subst (Has c.args.sets.now) e (Has_get c.args.sets.now c.loop-other.other-index no_set c.loop-other-test.true), λ _. refl)

pub returns : goal.returns
returns c = (
  λ h. absurd (no h),
  λ h. absurd (
      let r = Has_place c.args.sets.now c.args.set no_set h in
      c.loop-other.invariant r.0 (omega (arith, r.1)) r.2),
)
  where
    no : false ≡ true → ⊥
    no e = cc
