-- HeaderValue and HeaderValueOption, each as its row of the table, and the header lists of a level.
use Rattle.std.specs.Prelude.{ℕ, List, [], ◌∷◌, Bool, true, false, ◌==◌, if◌then◌else◌, codes, Option, Some, None, unwrap_or, Ok}
use Rattle.json_tables.specs.declared.message.Message.TheVariants.{HeaderValue, HeaderValueOption}
use Rattle.json_tables.specs.Names as name
use Rattle.json_walk.specs.Outcome.{◌>>=◌}
use Rattle.json_walk.specs.Members.{members_at}
use Rattle.json_walk.specs.Fields.{Reading, optional, required, alone}
use Rattle.json_walk.specs.Leaves.{truth, choice, list_of}
use Rattle.cfg_types.specs.declared.changes.EditPair.{EditPair}
use Rattle.cfg_types.specs.declared.changes.Addition.{Addition}
use Rattle.cfg_types.specs.declared.changes.How.{How}
use Rattle.cfg_types.specs.declared.changes.How.TheVariants as how
use Rattle.read_match.specs.Kinds.{value_text, edit_name}
use Rattle.read_action.specs.declared.edits.HeaderList.{HeaderList}
use Rattle.read_action.specs.declared.edits.HeaderList.TheVariants as lists

-- a name and its value
unfoldable pub header_value : Reading (List ℕ × List ℕ)
header_value p d = do
  _ ← members_at HeaderValue p d
  called ← required p d name.key edit_name
  value ← optional p d name.value value_text
  Ok (called, unwrap_or value [])

unfoldable pub append_actions : List (List ℕ)
append_actions = codes "APPEND_IF_EXISTS_OR_ADD" ∷ codes "ADD_IF_ABSENT" ∷ codes "OVERWRITE_IF_EXISTS_OR_ADD" ∷ codes "OVERWRITE_IF_EXISTS" ∷ []

-- what each of the four names stands for
abbrev pub how_of : ℕ → How
how_of k = if k == 0 then how.Append else if k == 1 then how.IfAbsent else if k == 2 then how.Overwrite else how.OverwriteIfThere

unfoldable pub append_action : Reading How
append_action p d = do
  k ← choice append_actions p d
  Ok (how_of k)

-- the first that is there
unfoldable pub how_form : Option Bool → Option How → How
how_form (Some true) action = how.Append
how_form (Some false) action = how.Overwrite
how_form None (Some h) = h
how_form None None = how.Append

-- how the header is added, append | append_action, and whether an empty value is kept
unfoldable pub way_of_adding : Reading (How × Bool)
way_of_adding p d = do
  append ← optional p d name.append truth
  action ← optional p d name.append_action append_action
  keep ← optional p d name.keep_empty_value truth
  _ ← alone p d (name.append ∷ name.append_action ∷ [])
  Ok (how_form append action, unwrap_or keep false)

unfoldable pub header_value_option : Reading Addition
header_value_option p d = do
  _ ← members_at HeaderValueOption p d
  header ← required p d name.header header_value
  way ← way_of_adding p d
  Ok (record { name = header.0; value = header.1; how = way.0; keep_empty = way.1 })

-- the list with this name, of at most 1,000 elements; absent it is empty
unfoldable pub listed : {A : Type 0} → List ℕ → Reading A → Reading (List A)
listed n element p d = do
  found ← optional p d n (list_of (Some 1000) element)
  Ok (unwrap_or found [])

-- the four header lists of an object, in the table's order
unfoldable pub edits : Reading EditPair
edits p d = do
  add ← listed name.request_headers_to_add header_value_option p d
  remove ← listed name.request_headers_to_remove edit_name p d
  add_back ← listed name.response_headers_to_add header_value_option p d
  remove_back ← listed name.response_headers_to_remove edit_name p d
  Ok (record { request = record { remove = remove; add = add }; response = record { remove = remove_back; add = add_back } })

-- the name of a header list
abbrev pub name_of : HeaderList → List ℕ
name_of lists.RequestAdd = name.request_headers_to_add
name_of lists.RequestRemove = name.request_headers_to_remove
name_of lists.ResponseAdd = name.response_headers_to_add
name_of lists.ResponseRemove = name.response_headers_to_remove
