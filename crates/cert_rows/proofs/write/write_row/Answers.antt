use Rattle.std.proofs.Common.{◌∙◌, ap, string_bytes}
use Rattle.cert_rows.proofs.RowsRead.{line_is}
use Rattle.cert_rows.proofs.write.write_row.Goals as goal

pub returns-clause-reads : goal.returns-clause-reads
returns-clause-reads c e = line_is c.args.row.now _ (string_bytes c.in_ok-text.text) e c.in_ok-text.ensures.typed c.in_ok-text.ensures.text (ap (λ v. v.items) c.into_bytes.ensures.value ∙ c.in_ok-push_str.ensures.bytes)
