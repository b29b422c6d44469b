use Rattle.std.proofs.Common.{List, Some, None, sym, ap, ◌∙◌}
use Rattle.std.specs.Prelude.{find, bytes_eq}
use Rattle.std.specs.Option.{option_copied}
use Rattle.text_base.specs.Asked.{Head}
use Rattle.path_change.proofs.Firsts.{own-header}
use Rattle.path_change.proofs.clusters.first_header.Goals as goal

pub returns-in_err-head : goal.returns-in_err-head
returns-in_err-head c =
    ap option_copied c.from_residual.ensures
    ∙ own-header c.args.parts.now c.args.name.now c.as_slice.result.now None c.marks_internal.result c.as_slice.ensures (sym c.if-eq.ensures) c.marks_internal.ensures
    c.if-marks_internal.false (c.in_err-head.ensures ∙ ap (λ (hs : List Head). find (λ h. bytes_eq h.0 c.args.name.now) hs) c.as_slice-2.ensures)

pub returns : goal.returns
returns c =
    ap Some c.as_slice-3.ensures
    ∙ own-header c.args.parts.now c.args.name.now c.as_slice.result.now (Some c.in_ok-head.head.now) c.marks_internal.result c.as_slice.ensures (sym c.if-eq.ensures)
    c.marks_internal.ensures c.if-marks_internal.false (c.in_ok-head.ensures ∙ ap (λ (hs : List Head). find (λ h. bytes_eq h.0 c.args.name.now) hs) c.as_slice-2.ensures)
