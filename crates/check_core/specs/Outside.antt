-- What stands outside a run, as it is told.
use Rattle.std.specs.Prelude.{◌≡◌, ℕ, ◌≤◌, List, Option}
use Rattle.outside.specs.Contents.{Contents}
use Rattle.outside.specs.States.{FilesState, SinkState}

-- the contents of files, the bytes written, and both counts of faults
pub record Outside : Type 0 where
  pub files : Option Contents
  pub written : Option (List ℕ)
  pub read_faults : ℕ
  pub write_faults : ℕ

abbrev pub outside : FilesState → SinkState → Outside
outside files sink = record { files = files.told; written = sink.written; read_faults = files.faults; write_faults = sink.faults }

-- files hold what they held, and no count fell
pub record IsKept (old new : Outside) : Type 0 where
  pub files : new.files ≡ old.files
  pub reads : old.read_faults ≤ new.read_faults
  pub writes : old.write_faults ≤ new.write_faults

-- both counts are as they were
abbrev pub IsQuiet : Outside → Outside → Type 0
IsQuiet old new = (new.read_faults ≡ old.read_faults) × (new.write_faults ≡ old.write_faults)
