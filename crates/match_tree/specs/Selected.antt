-- Which entry of a tree is taken, by its place; where none is, a place behind the last one.
use Rattle.std.specs.Prelude.{ℕ, Option}
use Rattle.std.specs.List.{position_or_len}
use Rattle.text_base.specs.Asked.{Bytes, Asked}
use Rattle.cfg_types.specs.Trees.{equal_key}
use Rattle.match_tree.specs.KeyOrder.{is_longest}
use Rattle.match_tree.specs.Checks.{check_holds}
use Rattle.match_tree.specs.declared.selector.Selector.{Selector}
use Rattle.match_tree.specs.declared.selector.Selector.TheVariants.{List as Checks, Exact, Prefix}

module _ {I : Type 0} (sees : I → Asked → Option Bytes) (q : Asked) where
  abbrev pub selected : Selector I → ℕ
  selected (Checks cs) = position_or_len (check_holds sees q) cs
  selected (Exact i ks) = position_or_len (equal_key (sees i q)) ks
  selected (Prefix i ks) = position_or_len (is_longest (sees i q) ks) ks
