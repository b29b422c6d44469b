-- The files that a command reads whole and judges: what one holds, and how one ends a run.
-- An outcome is what the bytes of such a file stand for, or their first offence.
use Rattle.std.specs.Prelude.{◌≡◌, ℕ, ◌<◌, ◌≤◌, List, [], length, Option, Some, Ok, Err, codes}
use Rattle.outside.specs.Contents.{Contents, find}
use Rattle.json_walk.specs.Outcome.{Outcome}
use Rattle.json_walk.specs.declared.refusal.Refusal.{Refusal}
use Rattle.read_config.specs.Configs.{config_of}
use Rattle.check_core.specs.Refusals.{refusal_line}
use Rattle.check_core.specs.declared.status.Status.{Status}
use Rattle.check_core.specs.declared.status.Status.TheVariants.{Refused, TooLong}

-- the most bytes of a configuration or a test file
abbrev pub file_limit : ℕ
file_limit = 16777216

-- the file holds these bytes
abbrev pub IsFile : Contents → List ℕ → List ℕ → Type 0
IsFile files name bytes = find name files ≡ Some bytes

-- a file of at most as many bytes as may be
abbrev pub IsFit : Contents → List ℕ → List ℕ → Type 0
IsFit files name bytes = IsFile files name bytes × (length bytes ≤ file_limit)

-- the file is there
abbrev pub IsThere : List ℕ → Contents → Type 0
IsThere name files = (bytes : List ℕ) × IsFile files name bytes

-- the file holds this value
pub record FileHolds {A : Type 0} (outcome : List ℕ → Outcome A) (name : List ℕ) (files : Contents) (value : A) : Type 0 where
  pub bytes : List ℕ
  pub fit : IsFit files name bytes
  pub reads : outcome bytes ≡ Ok value

-- The file is read and judged, and this ends the run: it is too long, or its first offence is told by the word of its kind.
pub data FileEnds {A : Type 0} (outcome : List ℕ → Outcome A) (word name : List ℕ) (files : Contents) (text : List ℕ) (status : Status) : Type 0 where
  by_length : (bytes : List ℕ) → IsFile files name bytes → file_limit < length bytes → text ≡ [] → status ≡ TooLong → FileEnds {A = A} outcome word name files text status
  by_offence : (bytes : List ℕ) (r : Refusal) → IsFit files name bytes → outcome bytes ≡ Err r → text ≡ refusal_line word r → status ≡ Refused → FileEnds {A = A} outcome word name files text status

-- A file whose bytes are told ends the run: it is too long or has an offence.
pub data Stops {A : Type 0} (outcome : List ℕ → Outcome A) (name : List ℕ) (told : Option Contents) : Type 0 where
  is_long : (files : Contents) (bytes : List ℕ) → told ≡ Some files → IsFile files name bytes → file_limit < length bytes → Stops {A = A} outcome name told
  is_bad : (files : Contents) (bytes : List ℕ) (r : Refusal) → told ≡ Some files → IsFile files name bytes → outcome bytes ≡ Err r → Stops {A = A} outcome name told

-- the configuration ends the call
abbrev pub ConfigEnds : List ℕ → Contents → List ℕ → Status → Type 0
ConfigEnds = FileEnds config_of (codes "config")

-- the second file of this name is asked for, which it is only where the configuration doesn't end the call
abbrev pub IsSecond : List ℕ → List ℕ → Option Contents → List ℕ → Type 0
IsSecond config second told name = (name ≡ second) × (Stops config_of config told → ⊥)
