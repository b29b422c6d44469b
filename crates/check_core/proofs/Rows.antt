-- Cases of the definitions by computation: the names of kinds, lines of refusals, the numbers of statuses, words of calls.
use Rattle.std.proofs.Common.{◌≡◌, ℕ, Bool, true, false, List, [], ◌∷◌, map, Option, Some, None, refl}
use Rattle.std.specs.Prelude.{codes}
use Rattle.json_walk.specs.declared.refusal.Kind.TheVariants as kind
use Rattle.outside.specs.declared.whole.FileFail.TheVariants as file
use Rattle.outside.specs.declared.sink.WriteFail.TheVariants as sink
use Rattle.serde_json.specs.Data.{number, string, object, no_members, member, unsigned}
use Rattle.check_core.specs.Refusals.{kind_name, refusal_value}
use Rattle.check_core.specs.Status.{number_of, read_status_of, write_status_of}
use Rattle.text_base.specs.Asked.{Bytes}
use Rattle.check_core.specs.Check.{status_of}
use Rattle.check_core.specs.Words.{Command, check, parsed}
use Rattle.check_core.specs.declared.status.Status.TheVariants as status

kinds : map kind_name (kind.Syntax ∷ kind.UnknownField ∷ kind.WrongKind ∷ kind.Missing ∷ kind.Conflict ∷ kind.OutOfRange ∷ []) ≡
    codes "Syntax" ∷ codes "UnknownField" ∷ codes "WrongKind" ∷ codes "Missing" ∷ codes "Conflict" ∷ codes "OutOfRange" ∷ []
kinds = refl

other_kinds : map kind_name (kind.Duplicate ∷ kind.TooMany ∷ kind.TooDeep ∷ kind.BadText ∷ kind.BadRegex 7 ∷ kind.NotInProfile ∷ []) ≡
    codes "Duplicate" ∷ codes "TooMany" ∷ codes "TooDeep" ∷ codes "BadText" ∷ codes "BadRegex" ∷ codes "NotInProfile" ∷ []
other_kinds = refl

-- an offence in the test file
unknown_field : refusal_value (codes "tests") (record { place = codes "/tests/0/foo"; kind = kind.UnknownField }) ≡
    object (member (codes "kind") (string (codes "UnknownField")) (member (codes "place") (string (codes "/tests/0/foo")) (member (codes "refused") (string (codes "tests")) no_members)))
unknown_field = refl

-- the offset in a pattern stands first
bad_pattern : refusal_value (codes "config") (record { place = codes "/a"; kind = kind.BadRegex 12 }) ≡
    object (member (codes "at") (number (unsigned 12)) (member (codes "kind") (string (codes "BadRegex")) (member (codes "place") (string (codes "/a")) (member (codes "refused") (string (codes "config")) no_members))))
bad_pattern = refl

numbers : map number_of (status.Done ∷ status.TestsFailed ∷ status.Refused ∷ status.ReadFault ∷ status.WriteFault ∷ status.Usage ∷ status.TooLong ∷ status.Rejected ∷ status.NoMemory ∷ []) ≡
    0 ∷ 1 ∷ 2 ∷ 3 ∷ 4 ∷ 5 ∷ 6 ∷ 7 ∷ 8 ∷ []
numbers = refl

failed_reads : map read_status_of (file.Failed ∷ file.TooLong ∷ file.OutOfMemory ∷ []) ≡ status.ReadFault ∷ status.TooLong ∷ status.NoMemory ∷ []
failed_reads = refl

failed_writes : map write_status_of (sink.Failed ∷ sink.OutOfMemory ∷ []) ≡ status.WriteFault ∷ status.NoMemory ∷ []
failed_writes = refl

-- words behind `check`
abbrev call : List Bytes → Option Command
call words = parsed (codes "check" ∷ words)

-- the call of these two files
abbrev files : ℕ → Bool → Option Command
files percent only_failures = Some (check (record { config = codes "c.json"; tests = codes "t.json"; fail_under = percent; only_failures = only_failures }))

two_files : call (codes "c.json" ∷ codes "t.json" ∷ []) ≡ files 0 false
two_files = refl

options_anywhere : call (codes "--only-show-failures" ∷ codes "c.json" ∷ codes "--fail-under=50" ∷ codes "t.json" ∷ []) ≡ files 50 true
options_anywhere = refl

all_routes : call (codes "c.json" ∷ codes "t.json" ∷ codes "--fail-under=100" ∷ []) ≡ files 100 false
all_routes = refl

-- words that are no call
abbrev refused : List Bytes → Option Command
refused options = call (codes "c.json" ∷ codes "t.json" ∷ options)

no_call : map refused ((codes "t" ∷ []) ∷ (codes "-t" ∷ []) ∷ (codes "--" ∷ []) ∷ ([] ∷ []) ∷ (codes "--fail-under=101" ∷ []) ∷ (codes "--fail-under=05" ∷ []) ∷ (codes "--fail-under=+5" ∷ []) ∷ [])
    ≡ None ∷ None ∷ None ∷ None ∷ None ∷ None ∷ None ∷ []
no_call = refl

no_other_option : map refused ((codes "--fail-under=" ∷ []) ∷ (codes "--fail-under" ∷ []) ∷ (codes "--fail_under=5" ∷ []) ∷ (codes "--only-show-failures=true" ∷ []) ∷ (codes "--splits=16" ∷ []) ∷ [])
    ≡ None ∷ None ∷ None ∷ None ∷ None ∷ []
no_other_option = refl

option_twice : map refused ((codes "--fail-under=0" ∷ codes "--fail-under=0" ∷ []) ∷ (codes "--only-show-failures" ∷ codes "--only-show-failures" ∷ []) ∷ []) ≡ None ∷ None ∷ []
option_twice = refl

option_in_place_of_a_file : call (codes "c.json" ∷ codes "-t" ∷ []) ≡ None
option_in_place_of_a_file = refl

one_file : call (codes "c.json" ∷ codes "--fail-under=0" ∷ []) ≡ None
one_file = refl

other_command : parsed (codes "--fail-under=0" ∷ codes "check" ∷ codes "c.json" ∷ codes "t.json" ∷ []) ≡ None
other_command = refl

-- one of two routes is 50 percent, which is not less than 50
half_covered : status_of 50 0 1 2 ∷ status_of 51 0 1 2 ∷ status_of 0 1 2 2 ∷ status_of 100 0 0 0 ∷ [] ≡ status.Done ∷ status.TestsFailed ∷ status.TestsFailed ∷ status.Done ∷ []
half_covered = refl
