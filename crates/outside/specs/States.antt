-- What contracts see of files and of a sink.
use Rattle.std.specs.Prelude.{ℕ, Bool, List, Option}
use Rattle.outside.specs.Contents.{Contents}

-- what each name holds, where that is told; which names may be asked for; and how often the host has failed
pub record FilesState : Type 0 where
  pub told : Option Contents
  pub admits : List ℕ → Bool
  pub faults : ℕ

-- the bytes written so far, where they are told; and how often the host has failed
pub record SinkState : Type 0 where
  pub written : Option (List ℕ)
  pub faults : ℕ
