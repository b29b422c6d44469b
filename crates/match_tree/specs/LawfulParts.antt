-- The parts of a lawful tree, as far as its guards ask: each map is filled, and each predicate is lawful.
use Rattle.std.specs.Prelude.{IsTrue, List, map, All}
use Rattle.std.specs.List.{list_all}
use Rattle.cfg_types.specs.Kinds.{is_matcher_text}
use Rattle.cfg_types.specs.Lawful.{IsLawfulText, IsLawfulPredicate, predicate_is_filled, predicate_rules, tree_is_filled, tree_predicates, then_is_filled, then_predicates, body_is_filled, body_predicates, entry_is_filled, entry_predicates, key_filled, key_predicates}
use Rattle.cfg_types.specs.Order.{joined}
use Rattle.cfg_types.specs.declared.trees.Predicate.{Predicate}
use Rattle.cfg_types.specs.declared.trees.Tree.{Tree}
use Rattle.cfg_types.specs.declared.trees.Then.{Then}
use Rattle.cfg_types.specs.declared.trees.TreeBody.{TreeBody}
use Rattle.cfg_types.specs.declared.trees.Entry.{Entry}
use Rattle.cfg_types.specs.declared.trees.KeyThen.{KeyThen}

-- inputs are lawful, and so are text rules
pub record IsFilledPredicate (p : Predicate) : Type 0 where
  pub filled : IsTrue (predicate_is_filled p)
  pub rules : All IsLawfulText (predicate_rules p)

-- the members of a list of predicates
pub record AreFilledPredicates (ps : List Predicate) : Type 0 where
  pub filled : IsTrue (list_all (λ p. p) (map predicate_is_filled ps))
  pub rules : All IsLawfulText (joined (map predicate_rules ps))

pub record IsFilledTree (t : Tree) : Type 0 where
  pub filled : IsTrue (tree_is_filled t)
  pub predicates : All IsLawfulPredicate (tree_predicates t)

pub record IsFilledThen (t : Then) : Type 0 where
  pub filled : IsTrue (then_is_filled t)
  pub predicates : All IsLawfulPredicate (then_predicates t)

pub record IsFilledBody (b : TreeBody) : Type 0 where
  pub filled : IsTrue (body_is_filled b)
  pub predicates : All IsLawfulPredicate (body_predicates b)

-- the entries of a list
pub record AreFilledEntries (es : List Entry) : Type 0 where
  pub filled : IsTrue (list_all (λ e. e) (map entry_is_filled es))
  pub predicates : All IsLawfulPredicate (joined (map entry_predicates es))

-- the entries of a map
pub record AreFilledKeys (ks : List KeyThen) : Type 0 where
  pub keys : IsTrue (list_all (λ k. is_matcher_text k.key) ks)
  pub filled : IsTrue (list_all (λ k. (key_filled k).1) ks)
  pub predicates : All IsLawfulPredicate (joined (map key_predicates ks))
