use Rattle.std.proofs.Common.{◌∙◌, string_bytes}
use Rattle.cert_rows.proofs.RowsRead.{text_is, line_is}
use Rattle.cert_rows.proofs.read.is_written.Goals as goal

pub returns-then-are_same : goal.returns-then-are_same
returns-then-are_same c h =
    text_is c.args.row.now c.args.line.now (string_bytes c.in_ok-text.text) c.requires c.in_ok-text.ensures.typed c.in_ok-text.ensures.text
    (c.are_same.ensures c.if-are_same.true ∙ c.as_bytes.ensures.value ∙ c.as_str.ensures.value)

pub returns : goal.returns
returns c h =
    line_is c.args.row.now c.args.line.now (string_bytes c.in_ok-text.text) c.requires c.in_ok-text.ensures.typed c.in_ok-text.ensures.text
    (c.are_same-2.ensures h ∙ c.as_bytes-2.ensures.value ∙ c.as_str-2.ensures.value ∙ c.in_ok-push_str.ensures.bytes)
