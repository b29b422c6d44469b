-- Values without members: what stands for a text, a truth, a name of a list, a list.
use Rattle.std.specs.Prelude.{ℕ, suc, ◌+◌, List, [], ◌∷◌, Bool, nat_le, if◌then◌else◌, Option, Some, None, Ok}
use Rattle.std.specs.List.{position_from}
use Rattle.std.specs.Str.{bytes_eq}
use Rattle.serde_json.specs.Data.{Items, no_items, item}
use Rattle.serde_json.specs.Find.{as_str, as_bool, as_array}
use Rattle.json_walk.specs.declared.refusal.Kind.TheVariants.{WrongKind, TooMany, OutOfRange}
use Rattle.json_walk.specs.Outcome.{Outcome, offence, or_offence, ◌>>=◌}
use Rattle.json_walk.specs.Places.{at_index}
use Rattle.json_walk.specs.Fields.{Reading}

unfoldable pub text : Reading (List ℕ)
text p d = or_offence p WrongKind (as_str d)

unfoldable pub truth : Reading Bool
truth p d = or_offence p WrongKind (as_bool d)

-- the number, counted from 0, of the text among the names
unfoldable pub choice : List (List ℕ) → Reading ℕ
choice names p d = do
  t ← text p d
  or_offence p OutOfRange (position_from (bytes_eq t) 0 names)

abbrev pub items_len : Items → ℕ
items_len no_items = 0
items_len (item d ds) = suc (items_len ds)

abbrev within : List ℕ → Option ℕ → Items → Outcome Items
within p None ds = Ok ds
within p (Some n) ds = if nat_le (items_len ds) n then Ok ds else offence p TooMany

-- the elements of an array of at most so many
unfoldable pub list : Option ℕ → Reading Items
list most p d = or_offence p WrongKind (as_array d) >>= λ ds. within p most ds

-- how many elements such an array has
unfoldable pub list_size : Option ℕ → Reading ℕ
list_size most p d = list most p d >>= λ ds. Ok (items_len ds)

-- the elements from the one with number i on
unfoldable pub items : {A : Type 0} → List ℕ → Reading A → ℕ → Items → Outcome (List A)
items p read i no_items = Ok []
items p read i (item d ds) = read (at_index p i) d >>= λ x. items p read (i + 1) ds >>= λ xs. Ok (x ∷ xs)

-- a list of what read reads
unfoldable pub list_of : {A : Type 0} → Option ℕ → Reading A → Reading (List A)
list_of most read p d = list most p d >>= λ ds. items p read 0 ds
