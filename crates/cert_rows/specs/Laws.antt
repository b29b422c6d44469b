-- What is written of a row is read back as the row.
use Rattle.std.specs.Prelude.{◌≡◌, true, Ok}
use Rattle.goal_form.specs.declared.goal.Row.{Row}
use Rattle.cert_rows.specs.Shapes.{is_shaped, IsTypedRow}
use Rattle.cert_rows.specs.Lines.{row_text, row_line}
use Rattle.cert_rows.specs.Read.{row_at}

-- with the line feed and without it
abbrev pub RoundTrip : Row → Type 0
RoundTrip r = (row_at (row_line r) ≡ Ok r) × (row_at (row_text r) ≡ Ok r)

abbrev pub RoundTripLaw : Type 0
RoundTripLaw = (r : Row) → is_shaped r ≡ true → IsTypedRow r → RoundTrip r
