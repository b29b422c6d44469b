-- The line of a refusal: what is wrong, where, and in which file.
use Rattle.std.specs.Prelude.{ℕ, List, Option, Some, None, codes}
use Rattle.serde_json.specs.Data.{Data, Members, number, string, object, no_members, member, unsigned}
use Rattle.json_walk.specs.declared.refusal.Refusal.{Refusal}
use Rattle.json_walk.specs.declared.refusal.Kind.{Kind}
use Rattle.json_walk.specs.declared.refusal.Kind.TheVariants as kind
use Rattle.test_run.specs.Lines.{line_of}

abbrev pub kind_name : Kind → List ℕ
kind_name kind.Syntax = codes "Syntax"
kind_name kind.UnknownField = codes "UnknownField"
kind_name kind.WrongKind = codes "WrongKind"
kind_name kind.Missing = codes "Missing"
kind_name kind.Conflict = codes "Conflict"
kind_name kind.OutOfRange = codes "OutOfRange"
kind_name kind.Duplicate = codes "Duplicate"
kind_name kind.TooMany = codes "TooMany"
kind_name kind.TooDeep = codes "TooDeep"
kind_name kind.BadText = codes "BadText"
kind_name (kind.BadRegex at) = codes "BadRegex"
kind_name kind.NotInProfile = codes "NotInProfile"

-- the offset of a bad pattern, which stands first
abbrev pub offset_of : Kind → Option ℕ
offset_of (kind.BadRegex at) = Some at
offset_of _ = None

abbrev pub refusal_members : List ℕ → Refusal → Members
refusal_members file r = member (codes "kind") (string (kind_name r.kind)) (member (codes "place") (string r.place) (member (codes "refused") (string file) no_members))

abbrev pub with_offset : Option ℕ → Members → Members
with_offset None ms = ms
with_offset (Some at) ms = member (codes "at") (number (unsigned at)) ms

abbrev pub refusal_value : List ℕ → Refusal → Data
refusal_value file r = object (with_offset (offset_of r.kind) (refusal_members file r))

unfoldable pub refusal_line : List ℕ → Refusal → List ℕ
refusal_line file r = line_of (refusal_value file r)
