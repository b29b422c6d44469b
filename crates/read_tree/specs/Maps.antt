-- The members of a map in byte order, and its entries in route order.
use Rattle.std.specs.Prelude.{ℕ, List, [], ◌∷◌, length, nat_lt, nat_le, not, if◌then◌else◌, Ok}
use Rattle.std.specs.List.{list_all}
use Rattle.serde_json.specs.Data.{Members, no_members, member, put}
use Rattle.text_base.specs.Alphabets.{is_printed}
use Rattle.json_walk.specs.declared.refusal.Kind.TheVariants.{TooMany, BadText}
use Rattle.json_walk.specs.Outcome.{Outcome, offence}
use Rattle.cfg_types.specs.declared.trees.KeyThen.{KeyThen}

-- each key once, in byte order
abbrev pub in_byte_order : Members → Members
in_byte_order no_members = no_members
in_byte_order (member k d ms) = put k d (in_byte_order ms)

-- one entry among those behind it: behind the longer keys, and before those that aren't
abbrev pub put_longer : KeyThen → List KeyThen → List KeyThen
put_longer k [] = k ∷ []
put_longer k (x ∷ xs) = if nat_lt (length k.key) (length x.key) then x ∷ put_longer k xs else k ∷ x ∷ xs

-- by length, the longest first; where keys are as long, they keep their order
abbrev pub longest_first : List KeyThen → List KeyThen
longest_first [] = []
longest_first (k ∷ ks) = put_longer k (longest_first ks)

-- a key is a matcher text
unfoldable pub key_text : List ℕ → List ℕ → Outcome (List ℕ)
key_text p k = if not (nat_le (length k) 4096) then offence p TooMany else if list_all is_printed k then Ok k else offence p BadText
