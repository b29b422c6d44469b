-- Steps 1 and 2 of a message: it is an object, and its members are those of its table.
use Rattle.std.specs.Prelude.{ℕ, List, [], ◌∷◌, ◌++◌, map, Bool, false, not, ◌&&◌, ◌||◌, if◌then◌else◌, Option, Some, None, Ok, is_some, ⊤}
use Rattle.std.specs.Str.{bytes_eq}
use Rattle.serde_json.specs.Data.{Data, Members, no_members, member}
use Rattle.serde_json.specs.Find.{get, as_object, as_null}
use Rattle.json_tables.specs.declared.message.Message.{Message}
use Rattle.json_tables.specs.Spellings.{Spelled, spellings}
use Rattle.json_tables.specs.Fields.{fields}
use Rattle.json_tables.specs.Carried.{carried}
use Rattle.json_tables.specs.Outside.{outside}
use Rattle.json_walk.specs.declared.refusal.Kind.TheVariants.{UnknownField, WrongKind, Conflict, NotInProfile}
use Rattle.json_walk.specs.Outcome.{Outcome, offence, ◌>>=◌}
use Rattle.json_walk.specs.Places.{under}

abbrev pub is_null : Data → Bool
is_null d = is_some (as_null d)

-- the first entry that k spells
abbrev pub named : List ℕ → List Spelled → Option Spelled
named k [] = None
named k (n ∷ ns) = if bytes_eq k n.0 || bytes_eq k n.1 then Some n else named k ns

-- k is the snake_case spelling of n, and the lowerCamelCase spelling, which comes first in byte order, is there too
unfoldable pub once : List ℕ → Data → List ℕ → Spelled → Outcome ⊤
once p d k n = if not (bytes_eq k n.1) && is_some (get n.1 d) then offence (under p n.0) Conflict else Ok tt

-- k spells a member that may stand here
unfoldable pub known : List ℕ → Data → List ℕ → Option Spelled → Outcome ⊤
known p d k None = offence (under p k) UnknownField
known p d k (Some n) = once p d k n

-- a member outside the profile may stand here as null only
unfoldable pub allowed : List ℕ → Data → List ℕ → Data → Option Spelled → Option Spelled → Outcome ⊤
allowed p d k e (Some n) other = if is_null e then once p d k n else offence (under p n.0) NotInProfile
allowed p d k e None other = known p d k other

-- the member k, whose value is e, of the object d at p: those outside the profile are looked up first
unfoldable pub judge : Message → List ℕ → Data → List ℕ → Data → Outcome ⊤
judge m p d k e = allowed p d k e (named k (spellings (outside m))) (named k (spellings (fields m ++ carried m)))

-- the members in byte order
unfoldable pub scan : Message → List ℕ → Data → Members → Outcome ⊤
scan m p d no_members = Ok tt
scan m p d (member k e rest) = judge m p d k e >>= λ _. scan m p d rest

-- there and not null
abbrev pub is_given : Option Data → Bool
is_given None = false
is_given (Some d) = not (is_null d)

-- the spelled name of the member that is the field n
abbrev pub spelled : Data → Spelled → Option (List ℕ)
spelled d n = if is_given (get n.0 d) then Some n.0 else (if is_given (get n.1 d) then Some n.1 else None)

-- the spelled name of each field
abbrev pub names_of : Message → Data → List (Option (List ℕ))
names_of m d = map (spelled d) (spellings (fields m))

unfoldable pub scan_object : Message → List ℕ → Data → Option Members → Outcome ⊤
scan_object m p d None = offence p WrongKind
scan_object m p d (Some ms) = scan m p d ms

-- steps 1 and 2, and then the spelled name of each field that is there and not null
unfoldable pub members_at : Message → List ℕ → Data → Outcome (List (Option (List ℕ)))
members_at m p d = do
  _ ← scan_object m p d (as_object d)
  Ok (names_of m d)

-- step 1 alone
unfoldable pub is_object : List ℕ → Data → Outcome ⊤
is_object p d = if is_some (as_object d) then Ok tt else offence p WrongKind
