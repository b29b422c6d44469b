use Rattle.std.proofs.Common.{◌≡◌, ◌≤◌, ◌+◌, ◌++◌, ◌∷◌, [], ℕ, Bool, false, ◌∙◌, eqb, arith}
use Rattle.std.proofs.lemmas.Bool.{ne_eqb}
use Rattle.goal_form.specs.declared.formula.Truth.TheVariants.{Unknown}
use Rattle.goal_form.specs.Formulas.{Path, leaf_on}
use Rattle.goal_form.proofs.Leaves.{leaf_other}
use Rattle.split_seek.proofs.first.decided.Goals as goal
use Rattle.split_seek.proofs.first.decided.Goals.{then-truth+in_ok-decide, else-truth+else-all}

later_on : (path : Path) (atom : ℕ) (b : Bool) → ((k : ℕ) → atom ≤ k → leaf_on path k ≡ Unknown) → (k : ℕ) → atom + 1 ≤ k → leaf_on (path ++ (atom, b) ∷ []) k ≡ Unknown
later_on path atom b h k le =
    let other : eqb atom k ≡ false = ne_eqb atom k (λ e. omega arith) in
    leaf_other path atom b k other ∙ h k (omega arith)

pub loop-atom-preserved : goal.loop-atom-preserved
loop-atom-preserved c =
    elim c.if-truth.branch [
      | then-truth+in_ok-decide w ↦
          record {
            count = rw (w.trail-is, w.in_ok-decide.ensures.count) c.loop-atom.invariant.count;
            later = rw (w.trail-is, w.in_ok-decide.ensures.path) (later_on c.loop-atom.trail.path c.loop-atom.atom _ c.loop-atom.invariant.later);
          }
      | else-truth+else-all w ↦
          record {
            count = rw w.trail-is c.loop-atom.invariant.count;
            later = rw w.trail-is (λ k le. c.loop-atom.invariant.later k (omega arith));
          }
    ]
