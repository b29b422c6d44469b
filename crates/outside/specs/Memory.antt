-- How files and a sink in memory answer, and what a call leaves of them.
use Rattle.std.specs.Prelude.{ℕ, ◌+◌, ◌-◌, ◌^◌, ◌==◌, ◌||◌, min, Bool, List, if◌then◌else◌, is_none, Vec}
use Rattle.std.specs.List.{list_any}
use Rattle.std.specs.declared.alloc.Global.{Global}
use Rattle.outside.specs.Contents.{find, contents_of}
use Rattle.outside.specs.declared.memory.MemoryFiles.{MemoryFiles}
use Rattle.outside.specs.declared.memory.MemorySink.{MemorySink}

-- one more, up to the greatest u64
abbrev pub counted : ℕ → ℕ
counted n = min (n + 1) (2 ^ 64 - 1)

-- the call with this number is listed
abbrev pub is_listed : ℕ → Vec ℕ Global → Bool
is_listed call failing = list_any (λ k. k == call) failing.items

-- the call is listed, or the name is absent
abbrev pub fails : MemoryFiles → List ℕ → Bool
fails files name = is_listed files.calls files.failing || is_none (find name (contents_of files.map.items))

-- one call more, and one fault more where it failed
abbrev pub after_read : MemoryFiles → Bool → MemoryFiles
after_read files failed = record files { calls = counted files.calls; faults = (if failed then counted files.faults else files.faults) }

-- the same of a sink, whose bytes may have grown
abbrev pub after_write : MemorySink → Vec ℕ Global → Bool → MemorySink
after_write sink bytes failed = record sink { bytes = bytes; calls = counted sink.calls; faults = (if failed then counted sink.faults else sink.faults) }
