-- The words of a call.
use Rattle.std.specs.Prelude.{ℕ, ◌==◌, ◌&&◌, ◌||◌, Bool, false, not, List, [], ◌∷◌, length, if◌then◌else◌, Option, Some, None, is_some, option_and_then, option_map, unwrap_or, slice_get, codes, bytes_eq, nat_le, count_by}
use Rattle.std.specs.List.{list_any, list_all, filter, filter_map}
use Rattle.std.specs.Str.Parse.{digits_value}
use Rattle.text_base.specs.Asked.{Bytes}
use Rattle.text_base.specs.Alphabets.{is_digit}
use Rattle.text_base.specs.Seen.{key_value}
use Rattle.check_core.specs.declared.calls.Budgets.{Budgets}

-- `check CONFIG TESTS` with its options: the names of the two files, the least percentage of routes that tests have to
-- cover, and whether passing tests go untold
pub record CheckCall : Type 0 where
  pub config : Bytes
  pub tests : Bytes
  pub fail_under : ℕ
  pub only_failures : Bool

-- `reach CONFIG` with its options: the name of the file, and the budgets of the search
pub record ReachCall : Type 0 where
  pub config : Bytes
  pub budgets : Budgets

-- `verify CONFIG REPORT`: the names of the two files
pub record VerifyCall : Type 0 where
  pub config : Bytes
  pub report : Bytes

-- `sample N` has the number of hosts
pub data Command : Type 0 where
  check : CheckCall → Command
  reach : ReachCall → Command
  verify : VerifyCall → Command
  sample : ℕ → Command

-- a word that isn't empty and doesn't begin with -
abbrev pub is_argument : Bytes → Bool
is_argument [] = false
is_argument (b ∷ bytes) = not (b == 45)

-- `0`, or a digit 1 to 9 and further digits
abbrev pub is_number : Bytes → Bool
is_number [] = false
is_number (d ∷ ds) = list_all is_digit (d ∷ ds) && (not (d == 48) || length ds == 0)

-- the number that a text says, from least to most
abbrev pub number_within : ℕ → ℕ → Bytes → Option ℕ
number_within least most t = if is_number t && nat_le least (digits_value 10 t) && nat_le (digits_value 10 t) most then Some (digits_value 10 t) else None

-- N of an option `NAME=N`, from least to most
abbrev pub option_number : Bytes → ℕ → ℕ → Bytes → Option ℕ
option_number name least most word = option_and_then (number_within least most) (key_value name word)

-- the number of the first word that is such an option, or the default
abbrev pub first_number : (Bytes → Option ℕ) → ℕ → List Bytes → ℕ
first_number option default words = unwrap_or (slice_get (filter_map option words) 0) default

abbrev pub is_at_most_once : (Bytes → Bool) → List Bytes → Bool
is_at_most_once p words = nat_le (count_by p words) 1

-- P of `--fail-under=P`, from 0 to 100
abbrev pub percent_of : Bytes → Option ℕ
percent_of = option_number (codes "--fail-under") 0 100

abbrev pub is_percent : Bytes → Bool
is_percent word = is_some (percent_of word)

abbrev pub is_only_failures : Bytes → Bool
is_only_failures word = bytes_eq word (codes "--only-show-failures")

-- an argument or an option of `check`
abbrev pub is_check_word : Bytes → Bool
is_check_word word = is_argument word || is_percent word || is_only_failures word

-- each word is an argument or an option, and no option is there twice
abbrev pub are_check_words : List Bytes → Bool
are_check_words words = list_all is_check_word words && is_at_most_once is_percent words && is_at_most_once is_only_failures words

-- the least percentage that the options ask for, 0 by default
abbrev pub fail_under : List Bytes → ℕ
fail_under = first_number percent_of 0

-- CONFIG and TESTS are all arguments, and options may stand anywhere
abbrev pub check_call : List Bytes → List Bytes → Option Command
check_call (config ∷ tests ∷ []) words =
    Some (check (record { config = config; tests = tests; fail_under = fail_under words; only_failures = list_any is_only_failures words }))
check_call _ words = None

-- the call of `check` that the words after the command give
abbrev pub check_command : List Bytes → Option Command
check_command words = if are_check_words words then check_call (filter is_argument words) words else None

-- N of `--splits=N`, from 1 to 65,536
abbrev pub splits_of : Bytes → Option ℕ
splits_of = option_number (codes "--splits") 1 65536

-- N of `--states=N`, from 16 to 4,096
abbrev pub states_of : Bytes → Option ℕ
states_of = option_number (codes "--states") 16 4096

abbrev pub is_splits : Bytes → Bool
is_splits word = is_some (splits_of word)

abbrev pub is_states : Bytes → Bool
is_states word = is_some (states_of word)

-- an argument or an option of `reach`
abbrev pub is_reach_word : Bytes → Bool
is_reach_word word = is_argument word || is_splits word || is_states word

abbrev pub are_reach_words : List Bytes → Bool
are_reach_words words = list_all is_reach_word words && is_at_most_once is_splits words && is_at_most_once is_states words

-- the budgets that the options give, 4,096 splits and 1,000 states by default
abbrev pub budgets_of : List Bytes → Budgets
budgets_of words = record { splits = first_number splits_of 4096 words; states = first_number states_of 1000 words }

-- CONFIG is the one argument
abbrev pub reach_call : List Bytes → List Bytes → Option Command
reach_call (config ∷ []) words = Some (reach (record { config = config; budgets = budgets_of words }))
reach_call _ words = None

abbrev pub reach_command : List Bytes → Option Command
reach_command words = if are_reach_words words then reach_call (filter is_argument words) words else None

-- CONFIG and REPORT are all arguments
abbrev pub verify_call : List Bytes → Option Command
verify_call (config ∷ report ∷ []) = Some (verify (record { config = config; report = report }))
verify_call _ = None

-- the number of hosts, from 1 to 2,000, is the one argument
abbrev pub sample_call : List Bytes → Option Command
sample_call (number ∷ []) = option_map sample (number_within 1 2000 number)
sample_call _ = None

-- without options each word is an argument
abbrev pub plain_command : (List Bytes → Option Command) → List Bytes → Option Command
plain_command call words = if list_all is_argument words then call (filter is_argument words) else None

-- the call of the command of this name
abbrev pub command_named : Bytes → List Bytes → Option Command
command_named name words =
    if bytes_eq name (codes "check") then check_command words
    else if bytes_eq name (codes "reach") then reach_command words
    else if bytes_eq name (codes "verify") then plain_command verify_call words
    else if bytes_eq name (codes "sample") then plain_command sample_call words
    else None

-- the command that the words give, if they are in the grammar
abbrev pub parsed : List Bytes → Option Command
parsed [] = None
parsed (name ∷ words) = command_named name words
