-- Matchers, read by what may still be nested.
use Rattle.std.specs.Prelude.{ℕ, zero, suc, List, [], ◌∷◌, Bool, true, false, Option, Some, None, Ok, ⊤}
use Rattle.serde_json.specs.Data.{Data, Members, no_members, member}
use Rattle.serde_json.specs.Find.{as_object}
use Rattle.json_tables.specs.declared.message.Message.TheVariants as messages
use Rattle.json_tables.specs.Names as name
use Rattle.json_walk.specs.declared.refusal.Kind.TheVariants.{Missing, WrongKind, TooDeep, NotInProfile}
use Rattle.json_walk.specs.Outcome.{Outcome, offence, or_offence, ◌>>=◌}
use Rattle.json_walk.specs.Places.{under}
use Rattle.json_walk.specs.Members.{members_at, is_object}
use Rattle.json_walk.specs.Fields.{Reading, optional, required, alone, must}
use Rattle.json_walk.specs.Leaves.{truth, list_of}
use Rattle.cfg_types.specs.declared.routes.Route.{Route}
use Rattle.cfg_types.specs.declared.trees.InputRule.{InputRule}
use Rattle.cfg_types.specs.declared.trees.Tree.{Tree}
use Rattle.cfg_types.specs.declared.trees.TreeBody.{TreeBody, Bare, List as Entries, Exact, Prefix}
use Rattle.cfg_types.specs.declared.trees.Then.{Then, Inner, Routes}
use Rattle.cfg_types.specs.declared.trees.Entry.{Entry}
use Rattle.cfg_types.specs.declared.trees.KeyThen.{KeyThen}
use Rattle.read_tree.specs.Inputs.{input}
use Rattle.read_tree.specs.Predicates.{predicate}
use Rattle.read_tree.specs.Actions.{action}
use Rattle.read_tree.specs.Maps.{in_byte_order, key_text, longest_first}

-- ---- what a match leads to

unfoldable pub then_form : Option Tree → Option (List Route) → Option Then
then_form (Some t) rs = Some (Inner t)
then_form None (Some rs) = Some (Routes rs)
then_form None None = None

unfoldable pub keeps_matching : List ℕ → Option Bool → Outcome ⊤
keeps_matching p (Some true) = offence (under p name.keep_matching) NotInProfile
keeps_matching p (Some false) = Ok tt
keeps_matching p None = Ok tt

-- matcher | action
unfoldable pub then_forms : Reading Tree → Reading (Option Then)
then_forms inner p d = do
  tree ← optional p d name.matcher inner
  routes ← optional p d name.action action
  Ok (then_form tree routes)

unfoldable pub on_match : Reading Tree → Reading Then
on_match inner p d = do
  _ ← members_at messages.OnMatch p d
  found ← then_forms inner p d
  keep ← optional p d name.keep_matching truth
  _ ← alone p d (name.matcher ∷ name.action ∷ [])
  next ← must p found
  _ ← keeps_matching p keep
  Ok next

-- ---- lists

unfoldable pub field_matcher : Reading Tree → Reading Entry
field_matcher inner p d = do
  _ ← members_at messages.FieldMatcher p d
  test ← required p d name.predicate (predicate 8)
  next ← required p d name.on_match (on_match inner)
  Ok (record { test = test; next = next })

unfoldable pub some_entry : List ℕ → List Entry → Outcome (List Entry)
some_entry p [] = offence p Missing
some_entry p (e ∷ es) = Ok (e ∷ es)

unfoldable pub matcher_list : Reading Tree → Reading (List Entry)
matcher_list inner p d = do
  _ ← members_at messages.MatcherList p d
  es ← required p d name.matchers (list_of None (field_matcher inner))
  some_entry (under p name.matchers) es

-- ---- maps

-- the member k, whose value is d, of the map at p
unfoldable pub key_then : Reading Tree → List ℕ → List ℕ → Data → Outcome KeyThen
key_then inner p k d = do
  key ← key_text (under p k) k
  next ← on_match inner (under p k) d
  Ok (record { key = key; next = next })

-- the members, one after another
unfoldable pub keyed : Reading Tree → List ℕ → Members → Outcome (List KeyThen)
keyed inner p no_members = Ok []
keyed inner p (member k d rest) = key_then inner p k d >>= λ x. keyed inner p rest >>= λ xs. Ok (x ∷ xs)

unfoldable pub map_entries : Reading Tree → Reading (List KeyThen)
map_entries inner p d = or_offence p WrongKind (as_object d) >>= λ ms. keyed inner p (in_byte_order ms)

unfoldable pub some_key : List ℕ → List KeyThen → Outcome (List KeyThen)
some_key p [] = offence p Missing
some_key p (k ∷ ks) = Ok (k ∷ ks)

unfoldable pub match_map : Reading Tree → Reading (List KeyThen)
match_map inner p d = do
  _ ← members_at messages.MatchMap p d
  ks ← required p d name.map (map_entries inner)
  some_key (under p name.map) ks

unfoldable pub map_form : InputRule → Option (List KeyThen) → Option (List KeyThen) → Option TreeBody
map_form i (Some ks) prefix = Some (Exact i ks)
map_form i None (Some ks) = Some (Prefix i (longest_first ks))
map_form i None None = None

unfoldable pub matcher_tree : Reading Tree → Reading TreeBody
matcher_tree inner p d = do
  _ ← members_at messages.MatcherTree p d
  seen ← required p d name.input input
  exact ← optional p d name.exact_match_map (match_map inner)
  prefix ← optional p d name.prefix_match_map (match_map inner)
  _ ← alone p d (name.exact_match_map ∷ name.prefix_match_map ∷ [])
  must p (map_form seen exact prefix)

-- ---- matchers

unfoldable pub body_form : Option (List Entry) → Option TreeBody → TreeBody
body_form (Some es) tree = Entries es
body_form None (Some b) = b
body_form None None = Bare

-- a matcher whose inner matchers are read by `inner`
unfoldable pub matcher_by : Reading Tree → Reading Tree
matcher_by inner p d = do
  _ ← members_at messages.Matcher p d
  entries ← optional p d name.matcher_list (matcher_list inner)
  tree ← optional p d name.matcher_tree (matcher_tree inner)
  rest ← optional p d name.on_no_match (on_match inner)
  _ ← alone p d (name.matcher_list ∷ name.matcher_tree ∷ [])
  Ok (record { body = body_form entries tree; otherwise = rest })

-- with so many levels left
unfoldable pub matcher : ℕ → Reading Tree
matcher zero p d = is_object p d >>= λ _. offence p TooDeep
matcher (suc n) p d = matcher_by (matcher n) p d
