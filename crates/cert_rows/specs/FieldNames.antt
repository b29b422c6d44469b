-- The names of fields in a report.
use Rattle.std.specs.Prelude.{◌++◌, ◌&&◌, if◌then◌else◌, Option, Some, None, drop, codes, bytes_eq}
use Rattle.text_base.specs.Asked.{Bytes}
use Rattle.text_base.specs.Forms.{begins}
use Rattle.text_base.specs.Requests.{is_header_name}
use Rattle.text_base.specs.declared.request.Field.{Field}
use Rattle.text_base.specs.declared.request.Field.TheVariants as field

-- a header has its name after `header:`
unfoldable pub field_text : Field → Bytes
field_text field.Authority = codes "authority"
field_text field.Target = codes "target"
field_text field.Method = codes "method"
field_text field.Proto = codes "proto"
field_text field.Random = codes "random"
field_text field.Runtime = codes "runtime"
field_text field.Internal = codes "internal"
field_text (field.Header name) = codes "header:" ++ name

-- the name after `header:` is one that a header of a request may have
abbrev pub header_named : Bytes → Option Field
header_named text = if begins text (codes "header:") && is_header_name (drop 7 text) then Some (field.Header (drop 7 text)) else None

-- the field that a text names
unfoldable pub field_named : Bytes → Option Field
field_named text =
    if bytes_eq text (codes "authority") then Some field.Authority
    else if bytes_eq text (codes "target") then Some field.Target
    else if bytes_eq text (codes "method") then Some field.Method
    else if bytes_eq text (codes "proto") then Some field.Proto
    else if bytes_eq text (codes "random") then Some field.Random
    else if bytes_eq text (codes "runtime") then Some field.Runtime
    else if bytes_eq text (codes "internal") then Some field.Internal
    else header_named text
