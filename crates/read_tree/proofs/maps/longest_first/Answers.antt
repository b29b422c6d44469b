use Rattle.std.proofs.Common.{◌∙◌, ℕ, length, rules}
use Rattle.std.proofs.lemmas.List.Sorted.{answers_always}
use Rattle.std.specs.declared.cmp.Reverse.{Reverse}
use Rattle.cfg_types.specs.declared.trees.KeyThen.{KeyThen}
use Rattle.read_tree.proofs.Sorts.{sorted_is}
use Rattle.read_tree.proofs.maps.longest_first.Goals as goal

abbrev by_length : KeyThen → Reverse ℕ
by_length k = record { 0 = length k.key }

pub returns : goal.returns
returns c =
    c.from_vec.ensures ∙ sorted_is c.args.keys.items c.sort_by_key.new.self.items
    (c.in_ok-sort_by_key.ensures.sorted by_length (answers_always _ _ _ (λ f a r g h. search rules)))
    (c.in_ok-sort_by_key.ensures.stable by_length (answers_always _ _ _ (λ f a r g h. search rules)))
