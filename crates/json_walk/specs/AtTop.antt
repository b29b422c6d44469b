-- A refusal of a whole file.
use Rattle.std.specs.Prelude.{◌≡◌, []}
use Rattle.json_walk.specs.declared.refusal.Kind.{Kind}
use Rattle.json_walk.specs.declared.refusal.ReadFail.{ReadFail}
use Rattle.json_walk.specs.declared.refusal.ReadFail.TheVariants.{Refused, OutOfMemory}

-- it stands at the empty place, unless memory ran out
abbrev pub IsRefusal : Kind → ReadFail → Type 0
IsRefusal kind OutOfMemory = Unit {0}
IsRefusal kind (Refused r) = r ≡ record { place = []; kind = kind }
