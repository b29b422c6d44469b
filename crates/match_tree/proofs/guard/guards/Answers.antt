use Rattle.match_tree.proofs.FilledParts.{lawful_filled}
use Rattle.match_tree.proofs.GuardLists.{adds_are}
use Rattle.match_tree.proofs.guard.guards.Goals as goal

pub add_tree-requires : goal.add_tree-requires
add_tree-requires c = lawful_filled c.args.tree.now c.requires

pub returns-clause-meant : goal.returns-clause-meant
returns-clause-meant c = λ rule r. adds_are _ _ _ _ c.new-list.ensures (c.in_ok-add_tree.ensures.asked rule r).guards
