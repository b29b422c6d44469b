-- The row that a line is, or its fault.
use Rattle.std.specs.Prelude.{◌≡◌, [], Result, Ok, Err, ⊤}
use Rattle.serde_json.specs.Data.{Data}
use Rattle.json_walk.specs.Bytes.{value_at}
use Rattle.json_walk.specs.Outcome.{Outcome}
use Rattle.text_base.specs.Asked.{Bytes}
use Rattle.goal_form.specs.declared.goal.Row.{Row}
use Rattle.cert_rows.specs.declared.fault.RowFault.{RowFault}
use Rattle.cert_rows.specs.declared.fault.RowFault.TheVariants as fault
use Rattle.cert_rows.specs.Rows.{row_of}

-- of an offence the place is kept
abbrev pub or_shape : Outcome Row → Result Row RowFault
or_shape (Ok r) = Ok r
or_shape (Err e) = Err (fault.Shape e.place)

abbrev pub of_value : Outcome Data → Result Row RowFault
of_value (Ok d) = or_shape (row_of [] d)
of_value (Err e) = Err fault.Syntax

unfoldable pub row_at : Bytes → Result Row RowFault
row_at line = of_value (value_at line)

-- the answer of the code is that of the definition; want of memory is free
abbrev pub Tells : RowFault → Result Row RowFault → Type 0
Tells fault.OutOfMemory o = ⊤
Tells fault.Syntax o = o ≡ Err fault.Syntax
Tells (fault.Shape place) o = o ≡ Err (fault.Shape place)

abbrev pub Answers : Result Row RowFault → Result Row RowFault → Type 0
Answers (Ok r) o = o ≡ Ok r
Answers (Err e) o = Tells e o
