-- What may stand where a text was begun.
use Rattle.std.specs.Prelude.{◌≡◌, ◌⊎◌, ℕ, List, []}
use Rattle.outside.specs.Contents.{Contents}
use Rattle.outside.specs.Written.{IsFront}
use Rattle.check_core.specs.declared.status.Status.{Status}

-- the front of some text that is due
abbrev pub FrontOf : (Contents → List ℕ → Status → Type 0) → Contents → List ℕ → Type 0
FrontOf due files bytes = (text : List ℕ) × (status : Status) × due files text status × IsFront bytes text

-- nothing, or the front of a text that is due
abbrev pub NothingOrFrontOf : (Contents → List ℕ → Status → Type 0) → Contents → List ℕ → Type 0
NothingOrFrontOf due files bytes = (bytes ≡ []) ⊎ FrontOf due files bytes
