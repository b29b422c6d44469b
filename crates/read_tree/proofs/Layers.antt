-- One layer of a tree: its depth, whether it is filled, its predicates, and the places of its routes.
use Rattle.std.proofs.Common.{rules, ◌≡◌, ◌+◌, true, not, ◌&&◌, List, [], ◌∷◌, ◌++◌, map, option_map, arith}
use Rattle.std.specs.Prelude.{max}
use Rattle.std.specs.List.{list_all}
use Rattle.text_base.specs.Asked.{Bytes}
use Rattle.cfg_types.specs.Kinds.{is_empty, byte_order, longer_first}
use Rattle.cfg_types.specs.Order.{joined, or_nothing, tree_routes, then_routes, branch_routes}
use Rattle.cfg_types.specs.Lawful.{greatest, or_zero, or_true, map_is_filled, tree_depth, then_depth, body_depth, entry_depth, key_depth, tree_is_filled, then_is_filled, body_is_filled, entry_is_filled, key_filled, tree_predicates, then_predicates, body_predicates, entry_predicates, key_predicates}
use Rattle.cfg_types.specs.Places.{Below, then_step, body_step, entry_step, key_step, tree_step, tree_places}
use Rattle.cfg_types.specs.declared.routes.Route.{Route}
use Rattle.cfg_types.specs.declared.trees.InputRule.{InputRule}
use Rattle.cfg_types.specs.declared.trees.Tree.{Tree}
use Rattle.cfg_types.specs.declared.trees.Then.{Then, Inner, Routes}
use Rattle.cfg_types.specs.declared.trees.TreeBody.{TreeBody, Bare, List as Entries, Exact, Prefix}
use Rattle.cfg_types.specs.declared.trees.Entry.{Entry}
use Rattle.cfg_types.specs.declared.trees.KeyThen.{KeyThen}
use Rattle.cfg_types.specs.declared.trees.Then.TheOpen as layer
use Rattle.cfg_types.specs.declared.trees.Then.TheFolds.{the_lemmas, fold-Then, fold-TreeBody, fold-Entry, fold-KeyThen}

-- ---- depth

pub depth-Inner : (t : Tree) → then_depth (Inner t) ≡ tree_depth t
depth-Inner t = first_of (search (rules, the_lemmas), grind (arith, the_lemmas))

pub depth-Routes : (rs : List Route) → then_depth (Routes rs) ≡ 0
depth-Routes rs = first_of (search (rules, the_lemmas), grind (arith, the_lemmas))

pub depth-Bare : body_depth Bare ≡ 0
depth-Bare = first_of (search (rules, the_lemmas), grind (arith, the_lemmas))

pub depth-List : (es : List Entry) → body_depth (Entries es) ≡ greatest (map entry_depth es)
depth-List es = first_of (search (rules, the_lemmas), grind (arith, the_lemmas))

pub depth-Exact : (i : InputRule) (ks : List KeyThen) → body_depth (Exact i ks) ≡ greatest (map key_depth ks)
depth-Exact i ks = first_of (search (rules, the_lemmas), grind (arith, the_lemmas))

pub depth-Prefix : (i : InputRule) (ks : List KeyThen) → body_depth (Prefix i ks) ≡ greatest (map key_depth ks)
depth-Prefix i ks = first_of (search (rules, the_lemmas), grind (arith, the_lemmas))

pub depth-entry : (e : Entry) → entry_depth e ≡ then_depth e.next
depth-entry e = first_of (search (rules, the_lemmas), grind (arith, the_lemmas))

pub depth-key : (k : KeyThen) → key_depth k ≡ then_depth k.next
depth-key k = first_of (search (rules, the_lemmas), grind (arith, the_lemmas))

pub depth-tree : (t : Tree) → tree_depth t ≡ 1 + max (body_depth t.body) (or_zero (option_map then_depth t.otherwise))
depth-tree t = first_of (search (rules, the_lemmas), grind (arith, the_lemmas))

-- ---- whether it is filled

pub filled-Inner : (t : Tree) → then_is_filled (Inner t) ≡ tree_is_filled t
filled-Inner t = first_of (search (rules, the_lemmas), grind (arith, the_lemmas))

pub filled-Routes : (rs : List Route) → then_is_filled (Routes rs) ≡ true
filled-Routes rs = first_of (search (rules, the_lemmas), grind (arith, the_lemmas))

pub filled-Bare : body_is_filled Bare ≡ true
filled-Bare = first_of (search (rules, the_lemmas), grind (arith, the_lemmas))

pub filled-List : (es : List Entry) → body_is_filled (Entries es) ≡ (not (is_empty (map entry_is_filled es)) && list_all (λ b. b) (map entry_is_filled es))
filled-List es = first_of (search (rules, the_lemmas), grind (arith, the_lemmas))

pub filled-Exact : (i : InputRule) (ks : List KeyThen) → body_is_filled (Exact i ks) ≡ map_is_filled byte_order i (map key_filled ks)
filled-Exact i ks = first_of (search (rules, the_lemmas), grind (arith, the_lemmas))

pub filled-Prefix : (i : InputRule) (ks : List KeyThen) → body_is_filled (Prefix i ks) ≡ map_is_filled longer_first i (map key_filled ks)
filled-Prefix i ks = first_of (search (rules, the_lemmas), grind (arith, the_lemmas))

pub filled-entry : (e : Entry) → entry_is_filled e ≡ then_is_filled e.next
filled-entry e = first_of (search (rules, the_lemmas), grind (arith, the_lemmas))

pub filled-key : (k : KeyThen) → key_filled k ≡ (k.key, then_is_filled k.next)
filled-key k = first_of (search (rules, the_lemmas), grind (arith, the_lemmas))

pub filled-tree : (t : Tree) → tree_is_filled t ≡ (body_is_filled t.body && or_true (option_map then_is_filled t.otherwise))
filled-tree t = first_of (search (rules, the_lemmas), grind (arith, the_lemmas))

-- ---- predicates

pub predicates-Inner : (t : Tree) → then_predicates (Inner t) ≡ tree_predicates t
predicates-Inner t = first_of (search (rules, the_lemmas), grind (arith, the_lemmas))

pub predicates-Routes : (rs : List Route) → then_predicates (Routes rs) ≡ []
predicates-Routes rs = first_of (search (rules, the_lemmas), grind (arith, the_lemmas))

pub predicates-Bare : body_predicates Bare ≡ []
predicates-Bare = first_of (search (rules, the_lemmas), grind (arith, the_lemmas))

pub predicates-List : (es : List Entry) → body_predicates (Entries es) ≡ joined (map entry_predicates es)
predicates-List es = first_of (search (rules, the_lemmas), grind (arith, the_lemmas))

pub predicates-Exact : (i : InputRule) (ks : List KeyThen) → body_predicates (Exact i ks) ≡ joined (map key_predicates ks)
predicates-Exact i ks = first_of (search (rules, the_lemmas), grind (arith, the_lemmas))

pub predicates-Prefix : (i : InputRule) (ks : List KeyThen) → body_predicates (Prefix i ks) ≡ joined (map key_predicates ks)
predicates-Prefix i ks = first_of (search (rules, the_lemmas), grind (arith, the_lemmas))

pub predicates-entry : (e : Entry) → entry_predicates e ≡ e.test ∷ then_predicates e.next
predicates-entry e = first_of (search (rules, the_lemmas), grind (arith, the_lemmas))

pub predicates-key : (k : KeyThen) → key_predicates k ≡ then_predicates k.next
predicates-key k = first_of (search (rules, the_lemmas), grind (arith, the_lemmas))

pub predicates-tree : (t : Tree) → tree_predicates t ≡ body_predicates t.body ++ or_nothing (option_map then_predicates t.otherwise)
predicates-tree t = first_of (search (rules, the_lemmas), grind (arith, the_lemmas))

-- ---- routes

pub routes-Inner : (t : Tree) → then_routes (Inner t) ≡ tree_routes t
routes-Inner t = first_of (search (rules, the_lemmas), grind (arith, the_lemmas))

pub routes-Routes : (rs : List Route) → then_routes (Routes rs) ≡ rs
routes-Routes rs = first_of (search (rules, the_lemmas), grind (arith, the_lemmas))

pub routes-Bare : branch_routes Bare ≡ []
routes-Bare = first_of (search (rules, the_lemmas), grind (arith, the_lemmas))

-- ---- places

abbrev pub then_below : Then → Below
then_below = fold-Then Below Below Below (Bytes × Below) Below then_step body_step entry_step key_step tree_step

abbrev pub body_below : TreeBody → Below
body_below = fold-TreeBody Below Below Below (Bytes × Below) Below then_step body_step entry_step key_step tree_step

abbrev pub entry_below : Entry → Below
entry_below = fold-Entry Below Below Below (Bytes × Below) Below then_step body_step entry_step key_step tree_step

-- the key of an entry, and the places below it
abbrev pub key_below : KeyThen → Bytes × Below
key_below = fold-KeyThen Below Below Below (Bytes × Below) Below then_step body_step entry_step key_step tree_step

pub below-Inner : (t : Tree) → then_below (Inner t) ≡ then_step (layer.Inner (tree_places t))
below-Inner t = first_of (search (rules, the_lemmas), grind (arith, the_lemmas))

pub below-Routes : (rs : List Route) → then_below (Routes rs) ≡ then_step (layer.Routes rs)
below-Routes rs = first_of (search (rules, the_lemmas), grind (arith, the_lemmas))

pub below-Bare : body_below Bare ≡ body_step layer.Bare
below-Bare = first_of (search (rules, the_lemmas), grind (arith, the_lemmas))

pub below-List : (es : List Entry) → body_below (Entries es) ≡ body_step (layer.List (map entry_below es))
below-List es = first_of (search (rules, the_lemmas), grind (arith, the_lemmas))

pub below-Exact : (i : InputRule) (ks : List KeyThen) → body_below (Exact i ks) ≡ body_step (layer.Exact i (map key_below ks))
below-Exact i ks = first_of (search (rules, the_lemmas), grind (arith, the_lemmas))

pub below-Prefix : (i : InputRule) (ks : List KeyThen) → body_below (Prefix i ks) ≡ body_step (layer.Prefix i (map key_below ks))
below-Prefix i ks = first_of (search (rules, the_lemmas), grind (arith, the_lemmas))

pub below-entry : (e : Entry) → entry_below e ≡ then_below e.next
below-entry e = first_of (search (rules, the_lemmas), grind (arith, the_lemmas))

pub below-key : (k : KeyThen) → key_below k ≡ (k.key, then_below k.next)
below-key k = first_of (search (rules, the_lemmas), grind (arith, the_lemmas))

pub below-tree : (t : Tree) → tree_places t ≡ tree_step (record { body = body_below t.body; otherwise = option_map then_below t.otherwise })
below-tree t = first_of (search (rules, the_lemmas), grind (arith, the_lemmas))
