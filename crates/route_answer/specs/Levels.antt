-- The levels of header edits as a list of references.
use denote.Ref.{Bor}
use Rattle.std.specs.Prelude.{List, map}
use Rattle.cfg_types.specs.declared.changes.EditPair.{EditPair}

-- the levels that these references point to
abbrev pub pairs_of : List (Bor EditPair) → List EditPair
pairs_of levels = map (λ l. l.now) levels
