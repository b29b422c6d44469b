-- Whether a predicate holds, by what its inputs see.
use Rattle.std.specs.Prelude.{Bool, not, Option}
use Rattle.std.specs.List.{list_any, list_all}
use Rattle.text_base.specs.Asked.{Bytes, Asked}
use Rattle.cfg_types.specs.Trees.{single_holds}
use Rattle.match_tree.specs.declared.check.Check.{Check}
use Rattle.match_tree.specs.declared.check.Check.TheOpen.{Check-F, Single, Any, All, Not}
use Rattle.match_tree.specs.declared.check.Check.TheFolds.{fold-Check}

module _ {I : Type 0} (sees : I → Asked → Option Bytes) (q : Asked) where
  abbrev pub check_step : Check-F I Bool → Bool
  check_step (Single i t) = single_holds t.rule (sees i q)
  check_step (Any cs) = list_any (λ b. b) cs
  check_step (All cs) = list_all (λ b. b) cs
  check_step (Not c) = not c

  abbrev pub check_holds : Check I → Bool
  check_holds = fold-Check I Bool check_step
