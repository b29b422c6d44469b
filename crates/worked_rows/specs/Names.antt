-- The files of the cases.
use Rattle.std.specs.Prelude.{IsTrue, codes, is_some}
use Rattle.outside.specs.Contents.{Contents, find}

-- both names are there
abbrev pub HasBoth : Contents → Type 0
HasBoth files = IsTrue (is_some (find (codes "c") files)) × IsTrue (is_some (find (codes "t") files))
