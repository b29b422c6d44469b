-- The statuses.
use Rattle.std.specs.Prelude.{◌≡◌, ◌⊎◌, ℕ, Bool, true, false}
use Rattle.outside.specs.declared.whole.FileFail.{FileFail}
use Rattle.outside.specs.declared.whole.FileFail.TheVariants as file
use Rattle.outside.specs.declared.sink.WriteFail.{WriteFail}
use Rattle.outside.specs.declared.sink.WriteFail.TheVariants as sink
use Rattle.check_core.specs.declared.status.Status.{Status}
use Rattle.check_core.specs.declared.status.Status.TheVariants.{Done, TestsFailed, Refused, ReadFault, WriteFault, Usage, TooLong, Rejected, NoMemory}

abbrev pub number_of : Status → ℕ
number_of Done = 0
number_of TestsFailed = 1
number_of Refused = 2
number_of ReadFault = 3
number_of WriteFault = 4
number_of Usage = 5
number_of TooLong = 6
number_of Rejected = 7
number_of NoMemory = 8

-- the status of a read that failed
abbrev pub read_status_of : FileFail → Status
read_status_of file.Failed = ReadFault
read_status_of file.TooLong = TooLong
read_status_of file.OutOfMemory = NoMemory

-- the status of a write that failed
abbrev pub write_status_of : WriteFail → Status
write_status_of sink.Failed = WriteFault
write_status_of sink.OutOfMemory = NoMemory

-- one that may come in place of the status that is due
abbrev pub IsCut : Status → Type 0
IsCut status = (status ≡ ReadFault) ⊎ (status ≡ WriteFault) ⊎ (status ≡ NoMemory)

-- one that comes with a text
abbrev pub is_final : Status → Bool
is_final Done = true
is_final TestsFailed = true
is_final Refused = true
is_final Rejected = true
is_final _ = false
