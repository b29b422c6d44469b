-- The lines of `check`: compact JSON with members in byte order, each followed by a line feed.
use Rattle.std.specs.Prelude.{ℕ, ◌≤◌, ◌⊎◌, ◌≡◌, Bool, ◌&&◌, List, [], ◌∷◌, ◌++◌, length, map, flat_map, if◌then◌else◌, codes, slice_index_or}
use Rattle.serde_json.specs.Data.{Data, number, string, array, object, no_members, member, unsigned}
use Rattle.serde_json.specs.View.{items_of}
use Rattle.serde_json.specs.Written.{compact_text}
use Rattle.text_base.specs.Asked.{Bytes}
use Rattle.cfg_types.specs.Order.{routes}
use Rattle.cfg_types.specs.declared.configs.Config.{Config}
use Rattle.test_read.specs.declared.test.Test.{Test}
use Rattle.test_run.specs.Verdicts.{failures, is_none, passes, failed}
use Rattle.test_run.specs.Coverage.{covered}
use Rattle.test_run.specs.declared.verdicts.Failure.{Failure}
use Rattle.test_run.specs.declared.verdicts.Failure.TheVariants as failure

-- a value on a line of its own
abbrev pub line_of : Data → Bytes
line_of value = compact_text value ++ 10 ∷ []

-- the names of what a test expects, by their numbers
unfoldable pub field_names : List Bytes
field_names =
    codes "cluster_name" ∷ codes "virtual_cluster_name" ∷ codes "virtual_host_name" ∷ codes "host_rewrite" ∷ codes "path_rewrite"
    ∷ codes "path_redirect" ∷ codes "request_header_matches" ∷ codes "response_header_matches" ∷ []

unfoldable pub field_name : ℕ → Bytes
field_name field = slice_index_or field_names field []

-- an expected text that isn't the actual one
abbrev pub text_failure_value : Bytes → Bytes → Bytes → Data
text_failure_value field expected actual = object (member (codes "actual") (string actual) (member (codes "expected") (string expected) (member (codes "field") (string field) no_members)))

-- a header rule that doesn't hold
abbrev pub header_failure_value : Bytes → ℕ → Data
header_failure_value field index = object (member (codes "field") (string field) (member (codes "index") (number (unsigned index)) no_members))

abbrev pub failure_value : Failure → Data
failure_value (failure.Text field expected actual) = text_failure_value (field_name field) expected actual
failure_value (failure.Header field index) = header_failure_value (field_name field) index

abbrev pub verdict_word : List Failure → Bytes
verdict_word fs = if is_none fs then codes "pass" else codes "fail"

-- the verdict on a test of this name with these failures
abbrev pub verdict_value : Bytes → List Failure → Data
verdict_value name fs = object (member (codes "failures") (array (items_of (map failure_value fs))) (member (codes "test") (string name) (member (codes "verdict") (string (verdict_word fs)) no_members)))

-- a text stands in one of the first six fields, a header rule in one of the last two
abbrev pub IsNamed : Failure → Type 0
IsNamed (failure.Text field expected actual) = field ≤ 5
IsNamed (failure.Header field index) = (field ≡ 6) ⊎ (field ≡ 7)

unfoldable pub verdict_line : Bytes → List Failure → Bytes
verdict_line name fs = line_of (verdict_value name fs)

abbrev pub test_line : Config → Test → Bytes
test_line c t = verdict_line t.name (failures c t)

abbrev pub sum_value : ℕ → ℕ → ℕ → ℕ → Data
sum_value covered failed routes tests = object (member (codes "covered") (number (unsigned covered)) (member (codes "failed") (number (unsigned failed)) (member (codes "routes") (number (unsigned routes)) (member (codes "tests") (number (unsigned tests)) no_members))))

unfoldable pub sum_line : ℕ → ℕ → ℕ → ℕ → Bytes
sum_line covered failed routes tests = line_of (sum_value covered failed routes tests)

-- the line of a test, or nothing where it passes and only failures are shown
abbrev pub shown_line : Bool → Config → Test → Bytes
shown_line only_failures c t = if only_failures && passes c t then [] else test_line c t

-- a line for each test that is shown, in order, then the sums of all tests
unfoldable pub check_text : Bool → Config → List Test → Bytes
check_text only_failures c ts = flat_map (shown_line only_failures c) ts ++ sum_line (covered c ts) (failed c ts) (length (routes c)) (length ts)
