-- The guards of a matcher tree: what is asked in order, and the route that is taken where a guard is the first that is true.
-- A guard without a route ends the search: where its condition is true, nothing after it is tried.
use Rattle.std.specs.Prelude.{ℕ, ◌+◌, Bool, true, false, List, [], ◌∷◌, ◌++◌, Option, Some, None, length, map}
use Rattle.std.specs.List.{range_with_len}
use Rattle.text_base.specs.Asked.{Bytes}
use Rattle.text_base.specs.Seen.{field_named}
use Rattle.text_base.specs.declared.request.Field.TheVariants as field
use Rattle.rx_term.specs.declared.terms.Term.{Term}
use Rattle.rx_build.specs.Texts.{exact_term, prefix_term}
use Rattle.rx_build.specs.Queries.{query_first_term}
use Rattle.rx_build.specs.Rules.{text_term, is_pattern}
use Rattle.goal_form.specs.Leaves.{within}
use Rattle.goal_form.specs.declared.sight.Condition.{Condition}
use Rattle.goal_form.specs.declared.sight.Condition as of
use Rattle.cfg_types.specs.declared.trees.InputRule.{InputRule}
use Rattle.cfg_types.specs.declared.trees.InputRule.TheVariants as input
use Rattle.cfg_types.specs.declared.trees.Predicate.{Predicate}
use Rattle.cfg_types.specs.declared.trees.Predicate.TheOpen as layer
use Rattle.cfg_types.specs.declared.trees.Predicate.TheFolds.{fold-Predicate}
use Rattle.cfg_types.specs.declared.trees.Tree.{Tree}
use Rattle.cfg_types.specs.declared.trees.Then.{Then}
use Rattle.cfg_types.specs.declared.trees.TreeBody.{TreeBody}
use Rattle.cfg_types.specs.declared.trees.Entry.{Entry}
use Rattle.cfg_types.specs.declared.trees.KeyThen.{KeyThen}
use Rattle.cfg_types.specs.declared.trees.Then.TheOpen.{Then-F, TreeBody-F, Entry-F, KeyThen-F, Tree-F, Inner, Routes, Bare, List as Entries, Exact, Prefix}
use Rattle.cfg_types.specs.declared.trees.Then.TheFolds.{fold-Tree, fold-Then, fold-TreeBody, fold-Entry, fold-KeyThen}

-- the text that an input sees is there and in the term
abbrev pub input_condition : InputRule → Term → Bool → Condition
input_condition (input.Header name) term user = within (field_named name) term user
input_condition (input.Query key) term user = within field.Target (query_first_term key term) user

-- one layer of a predicate, with the conditions of its members in their places
abbrev pub condition_step : layer.Predicate-F Condition → Condition
condition_step (layer.Single i r) = input_condition i (text_term r) (is_pattern r.form)
condition_step (layer.Any cs) = of.Any cs
condition_step (layer.All cs) = of.All cs
condition_step (layer.Not c) = of.Not c

abbrev pub predicate_condition : Predicate → Condition
predicate_condition = fold-Predicate Condition condition_step

-- the input's text is the key, or begins with it where keys are prefixes
abbrev pub key_condition : Bool → InputRule → Bytes → Condition
key_condition false i key = input_condition i (exact_term false key) false
key_condition true i key = input_condition i (prefix_term false key) false

-- a condition, and the number of its route
abbrev pub Guard : Type 0
Guard = Condition × Option ℕ

-- the guards of so many routes from `first` on, by the condition of each route's rule
abbrev pub route_guards : (ℕ → Condition) → ℕ → ℕ → List Guard
route_guards rule first many = map (λ r. (rule r, Some r)) (range_with_len first many)

-- guards of which each is asked where the condition is true too, and nothing after them is where it is
abbrev pub guards_where : Condition → List Guard → List Guard
guards_where c gs = map (λ g. (of.All (c ∷ g.0 ∷ []), g.1)) gs ++ (of.All (c ∷ []), None) ∷ []

-- what a part of a tree asks: how many routes stand there, and its guards, by the number of the first of these routes
pub record Asking : Type 0 where
  pub size : ℕ
  pub guards : ℕ → List Guard

abbrev pub nothing_asked : Asking
nothing_asked = record { size = 0; guards = λ first. [] }

-- one part after another
abbrev pub then_asked : Asking → Asking → Asking
then_asked a b = record { size = a.size + b.size; guards = λ first. a.guards first ++ b.guards (first + a.size) }

abbrev pub asked_in_turn : List Asking → Asking
asked_in_turn [] = nothing_asked
asked_in_turn (a ∷ rest) = then_asked a (asked_in_turn rest)

abbrev pub asked_where : Condition → Asking → Asking
asked_where c a = record { size = a.size; guards = λ first. guards_where c (a.guards first) }

abbrev pub asked_or_nothing : Option Asking → Asking
asked_or_nothing None = nothing_asked
asked_or_nothing (Some a) = a

-- a key, and what is asked where it is taken
abbrev pub Keyed : Type 0
Keyed = Bytes × Asking

-- the entries of a map, by the condition of a key
abbrev pub asked_by_keys : (Bytes → Condition) → List Keyed → Asking
asked_by_keys c ks = asked_in_turn (map (λ k. asked_where (c k.0) k.1) ks)

module _ (rule : ℕ → Condition) where
  -- one layer of a tree, with what its children ask in their places
  abbrev pub then_step : Then-F Asking Asking Asking Keyed Asking → Asking
  then_step (Inner tree) = tree
  then_step (Routes rs) = record { size = length rs; guards = λ first. route_guards rule first (length rs) }

  abbrev pub body_step : TreeBody-F Asking Asking Asking Keyed Asking → Asking
  body_step Bare = nothing_asked
  body_step (Entries es) = asked_in_turn es
  body_step (Exact i ks) = asked_by_keys (key_condition false i) ks
  body_step (Prefix i ks) = asked_by_keys (key_condition true i) ks

  abbrev pub entry_step : Entry-F Asking Asking Asking Keyed Asking → Asking
  entry_step e = asked_where (predicate_condition e.test) e.next

  abbrev pub key_step : KeyThen-F Asking Asking Asking Keyed Asking → Keyed
  key_step k = (k.key, k.next)

  abbrev pub tree_step : Tree-F Asking Asking Asking Keyed Asking → Asking
  tree_step t = then_asked t.body (asked_or_nothing t.otherwise)

  abbrev pub tree_asking : Tree → Asking
  tree_asking = fold-Tree Asking Asking Asking Keyed Asking then_step body_step entry_step key_step tree_step

  -- the same of the parts of a tree
  abbrev pub then_asking : Then → Asking
  then_asking = fold-Then Asking Asking Asking Keyed Asking then_step body_step entry_step key_step tree_step

  abbrev pub body_asking : TreeBody → Asking
  body_asking = fold-TreeBody Asking Asking Asking Keyed Asking then_step body_step entry_step key_step tree_step

  abbrev pub entry_asking : Entry → Asking
  entry_asking = fold-Entry Asking Asking Asking Keyed Asking then_step body_step entry_step key_step tree_step

  abbrev pub key_asking : KeyThen → Keyed
  key_asking = fold-KeyThen Asking Asking Asking Keyed Asking then_step body_step entry_step key_step tree_step

  -- the guards of a tree whose first route has this number
  abbrev pub tree_guards : Tree → ℕ → List Guard
  tree_guards t first = (tree_asking t).guards first
