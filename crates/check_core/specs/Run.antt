-- What a run of a command does. A further command is a further case in `Due`, `Begins` and `IsDue`.
use Rattle.std.specs.Prelude.{◌≡◌, ◌⊎◌, ◌≢◌, List, ℕ, Option, Some}
use Rattle.outside.specs.Contents.{Contents}
use Rattle.outside.specs.Faults.{Rose}
use Rattle.outside.specs.Written.{Appends}
use Rattle.check_core.specs.Status.{IsCut}
use Rattle.check_core.specs.Words.{Command, check, reach, verify, sample}
use Rattle.check_core.specs.Outside.{Outside, IsKept, IsQuiet}
use Rattle.check_core.specs.Begun.{FrontOf, NothingOrFrontOf}
use Rattle.check_core.specs.Inputs.{IsThere, IsSecond}
use Rattle.check_core.specs.Check.{Checks}
use Rattle.check_core.specs.Reach.{Reaches, ReachBegins}
use Rattle.check_core.specs.Verify.{Verifies}
use Rattle.check_core.specs.Sample.{Samples, SampleBegins}
use Rattle.check_core.specs.declared.status.Status.{Status}
use Rattle.check_core.specs.declared.status.Status.TheVariants.{ReadFault, WriteFault, Usage, TooLong}

-- the text and the status that are due
abbrev pub Due : Command → Contents → List ℕ → Status → Type 0
Due (check call) = Checks call
Due (reach call) = Reaches call
Due (verify call) = Verifies call
Due (sample hosts) = Samples hosts

-- the bytes may be the front of what is written
abbrev pub Begins : Command → Contents → List ℕ → Type 0
Begins (check call) = FrontOf (Checks call)
Begins (reach call) = ReachBegins call
Begins (verify call) = NothingOrFrontOf (Verifies call)
Begins (sample hosts) = SampleBegins hosts

-- the name is asked for
abbrev pub IsDue : Command → Option Contents → List ℕ → Type 0
IsDue (check call) told name = (name ≡ call.config) ⊎ IsSecond call.config call.tests told name
IsDue (reach call) told name = name ≡ call.config
IsDue (verify call) told name = (name ≡ call.config) ⊎ IsSecond call.config call.report told name
IsDue (sample hosts) told name = ⊥

-- each file that is asked for is there
abbrev pub AreThere : Command → Contents → Type 0
AreThere command files = (name : List ℕ) → IsDue command (Some files) name → IsThere name files

-- What a run is to do: There says which files have to be there, Text what is due, and Front what the front of a text is.
-- Where files tell their bytes and are there, status and text are the due ones or the status is cut short, and whatever
-- the status, the front of a text is written. A status that blames the outside comes only where its count rose.
pub record Ends (There : Contents → Type 0) (Text : Contents → List ℕ → Status → Type 0) (Front : Contents → List ℕ → Type 0) (old new : Outside) (status : Status) : Type 0 where
  pub defined : (files : Contents) → old.files ≡ Some files → There files → IsCut status ⊎ ((text : List ℕ) × Text files text status × Appends old.written new.written text)
  pub front : (files : Contents) → old.files ≡ Some files → There files → (bytes : List ℕ) × Front files bytes × Appends old.written new.written bytes
  pub silent : (status ≡ ReadFault) ⊎ (status ≡ TooLong) → new.written ≡ old.written
  pub read : status ≡ ReadFault → Rose old.read_faults new.read_faults
  pub write : status ≡ WriteFault → Rose old.write_faults new.write_faults
  pub quiet : IsCut status ⊎ IsQuiet old new
  pub kept : IsKept old new
  pub grammar : status ≢ Usage

-- a run of a command
abbrev pub Runs : Command → Outside → Outside → Status → Type 0
Runs command = Ends (AreThere command) (Due command) (Begins command)
