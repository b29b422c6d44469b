-- What a matcher leads to. A node takes one entry, or else what is left; what is taken decides, also where it has no outcome.
use Rattle.std.specs.Prelude.{Option, Some, None, slice_get}
use Rattle.std.specs.Borrow.{Bor}
use Rattle.text_base.specs.Asked.{Bytes, Asked}
use Rattle.match_tree.specs.Selected.{selected}
use Rattle.match_tree.specs.declared.tree.Outcome.{Outcome}
use Rattle.match_tree.specs.declared.tree.Outcome.TheVariants as outcome
use Rattle.match_tree.specs.declared.tree.Matcher.{Matcher}
use Rattle.match_tree.specs.declared.tree.Step.{Step}
use Rattle.match_tree.specs.declared.tree.Step.TheOpen.{Step-F, Matcher-F, Inner, Act}
use Rattle.match_tree.specs.declared.tree.Step.TheFolds.{fold-Matcher, fold-Step}

-- the action that an outcome lends
abbrev pub lent : {A : Type 0} → Outcome (Bor A) → Option A
lent (outcome.Act a) = Some a.now
lent outcome.Unmatched = None

-- what is taken, or else what is left
abbrev pub taken_or : {A : Type 0} → Option (Option A) → Option (Option A) → Option A
taken_or (Some o) left = o
taken_or None None = None
taken_or None (Some o) = o

module _ {I A : Type 0} (sees : I → Asked → Option Bytes) (q : Asked) where
  abbrev pub step_step : Step-F I A (Option A) (Option A) → Option A
  step_step (Inner n) = n
  step_step (Act a) = Some a

  abbrev pub matcher_step : Matcher-F I A (Option A) (Option A) → Option A
  matcher_step n = taken_or (slice_get n.steps (selected sees q n.selector)) n.otherwise

  abbrev pub matcher_outcome : Matcher I A → Option A
  matcher_outcome = fold-Matcher I A (Option A) (Option A) step_step matcher_step

  abbrev pub step_outcome : Step I A → Option A
  step_outcome = fold-Step I A (Option A) (Option A) step_step matcher_step
