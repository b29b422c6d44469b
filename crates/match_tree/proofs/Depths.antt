-- How deep a part of a tree or of a predicate is, beside the whole.
use Rattle.std.proofs.Common.{rules, ◌≡◌, ◌<◌, List, Some, arith}
use denote.Param.Weighed.{most}
use Rattle.cfg_types.specs.declared.trees.InputRule.{InputRule}
use Rattle.cfg_types.specs.declared.trees.Predicate.{Predicate, Any, All, Not}
use Rattle.cfg_types.specs.declared.trees.Predicate.TheFolds as predicates
use Rattle.cfg_types.specs.declared.trees.Tree.{Tree}
use Rattle.cfg_types.specs.declared.trees.Then.{Then, Inner}
use Rattle.cfg_types.specs.declared.trees.TreeBody.{TreeBody, List as Entries, Exact, Prefix}
use Rattle.cfg_types.specs.declared.trees.Entry.{Entry}
use Rattle.cfg_types.specs.declared.trees.KeyThen.{KeyThen}
use Rattle.cfg_types.specs.declared.trees.Then.TheFolds as folds
use Rattle.cfg_types.proofs.trees.Predicate.TheLaws as predicate
use Rattle.cfg_types.proofs.trees.Tree.TheLaws as tree
use Rattle.cfg_types.proofs.trees.Then.TheLaws as then_
use Rattle.cfg_types.proofs.trees.TreeBody.TheLaws as body
use Rattle.cfg_types.proofs.trees.Entry.TheLaws as entry
use Rattle.cfg_types.proofs.trees.KeyThen.TheLaws as key

-- ---- predicates

below-Any : (ps : List Predicate) → most predicate.the_size ps < predicate.the_size (Any ps)
below-Any ps = first_of (search (rules, predicates.the_lemmas), grind (arith, predicates.the_lemmas))

below-All : (ps : List Predicate) → most predicate.the_size ps < predicate.the_size (All ps)
below-All ps = first_of (search (rules, predicates.the_lemmas), grind (arith, predicates.the_lemmas))

below-Not : (p : Predicate) → predicate.the_size p < predicate.the_size (Not p)
below-Not p = first_of (search (rules, predicates.the_lemmas), grind (arith, predicates.the_lemmas))

pub depth-Any : (p : Predicate) (ps us : List Predicate) → p ≡ Any ps → us ≡ ps → most predicate.the_size us < predicate.the_size p
depth-Any p ps us e s = rw (e, s) (below-Any ps)

pub depth-All : (p : Predicate) (ps us : List Predicate) → p ≡ All ps → us ≡ ps → most predicate.the_size us < predicate.the_size p
depth-All p ps us e s = rw (e, s) (below-All ps)

pub depth-Not : (p m n : Predicate) → p ≡ Not m → n ≡ m → predicate.the_size n < predicate.the_size p
depth-Not p m n e s = rw (e, s) (below-Not m)

-- ---- trees

pub depth-body : (t : Tree) → body.the_size t.body < tree.the_size t
depth-body t = first_of (search (rules, folds.the_lemmas), grind (arith, folds.the_lemmas))

pub depth-otherwise : (t : Tree) (o : Then) → t.otherwise ≡ Some o → then_.the_size o < tree.the_size t
depth-otherwise t o e = first_of (search (rules, folds.the_lemmas), grind (arith, folds.the_lemmas))

pub depth-entry : (e : Entry) → then_.the_size e.next < entry.the_size e
depth-entry e = first_of (search (rules, folds.the_lemmas), grind (arith, folds.the_lemmas))

pub depth-key : (k : KeyThen) → then_.the_size k.next < key.the_size k
depth-key k = first_of (search (rules, folds.the_lemmas), grind (arith, folds.the_lemmas))

below-Inner : (t : Tree) → tree.the_size t < then_.the_size (Inner t)
below-Inner t = first_of (search (rules, folds.the_lemmas), grind (arith, folds.the_lemmas))

below-List : (es : List Entry) → most entry.the_size es < body.the_size (Entries es)
below-List es = first_of (search (rules, folds.the_lemmas), grind (arith, folds.the_lemmas))

below-Exact : (i : InputRule) (ks : List KeyThen) → most key.the_size ks < body.the_size (Exact i ks)
below-Exact i ks = first_of (search (rules, folds.the_lemmas), grind (arith, folds.the_lemmas))

below-Prefix : (i : InputRule) (ks : List KeyThen) → most key.the_size ks < body.the_size (Prefix i ks)
below-Prefix i ks = first_of (search (rules, folds.the_lemmas), grind (arith, folds.the_lemmas))

pub depth-Inner : (t : Then) (x y : Tree) → t ≡ Inner x → y ≡ x → tree.the_size y < then_.the_size t
depth-Inner t x y e s = rw (e, s) (below-Inner x)

pub depth-List : (b : TreeBody) (es us : List Entry) → b ≡ Entries es → us ≡ es → most entry.the_size us < body.the_size b
depth-List b es us e s = rw (e, s) (below-List es)

pub depth-Exact : (b : TreeBody) (i : InputRule) (ks us : List KeyThen) → b ≡ Exact i ks → us ≡ ks → most key.the_size us < body.the_size b
depth-Exact b i ks us e s = rw (e, s) (below-Exact i ks)

pub depth-Prefix : (b : TreeBody) (i : InputRule) (ks us : List KeyThen) → b ≡ Prefix i ks → us ≡ ks → most key.the_size us < body.the_size b
depth-Prefix b i ks us e s = rw (e, s) (below-Prefix i ks)
