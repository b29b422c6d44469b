use Rattle.std.proofs.Common.{rules, refl, ◌≡◌, Err, ◌≤◌, length, ap, ◌∙◌, sym}
use Rattle.check_core.specs.Inputs.{file_limit, by_offence}
use Rattle.check_core.proofs.Ends.{holds_fit, status_handed, read_ended, write_ended, wrote_ended}
use Rattle.check_core.proofs.input.read_input.Goals as goal

pub returns-in_err-bytes-clause-ended : goal.returns-in_err-bytes-clause-ended
returns-in_err-bytes-clause-ended g c =
    status_handed _ _ _ c.from_residual.ensures
    (read_ended _ _ _ (g.F.Files.state c.args.files.now) (g.F.Files.state c.read_whole.new.files) _ _ _ refl c.in_err-bytes.ensures.long c.in_err-bytes.ensures.cause)

pub returns-in_err-write_refusal-in-Err-Refused-clause-ended : goal.returns-in_err-write_refusal-in-Err-Refused-clause-ended
returns-in_err-write_refusal-in-Err-Refused-clause-ended g c =
    let small : length c.in_ok-bytes.bytes.items ≤ file_limit = search rules in
    let reads : g.I.InputFile.outcome c.in_ok-bytes.bytes.items ≡ Err c.in-Err-Refused.refusal = ap g.I.InputFile.outcome (sym c.deref.ensures.value) ∙ (rw c.in-Err-Refused.field-0-is at c.in-Err-Refused.ensures.read) in
    status_handed _ _ _ c.from_residual-in_err-write_refusal-in-Err-Refused.ensures
    (write_ended _ _ _ (g.F.Files.state c.args.files.now) (g.F.Files.state c.read_whole.new.files) _ _ _ _ _ refl
    (λ files e there. by_offence _ _ (holds_fit _ _ _ c.in_ok-bytes.ensures.whole small files e there) reads refl refl)
    (rw c.word.ensures at c.in_err-write_refusal-in-Err-Refused.ensures))

pub returns-clause-ended : goal.returns-clause-ended
returns-clause-ended g c =
    let small : length c.in_ok-bytes.bytes.items ≤ file_limit = search rules in
    let reads : g.I.InputFile.outcome c.in_ok-bytes.bytes.items ≡ Err c.in-Err-Refused.refusal = ap g.I.InputFile.outcome (sym c.deref.ensures.value) ∙ (rw c.in-Err-Refused.field-0-is at c.in-Err-Refused.ensures.read) in
    wrote_ended _ _ (g.F.Files.state c.args.files.now) (g.F.Files.state c.read_whole.new.files) _ _ _ _ _ refl c.in_ok-bytes.ensures.cause.kept
    (λ files e there. by_offence _ _ (holds_fit _ _ _ c.in_ok-bytes.ensures.whole small files e there) reads refl refl)
    (rw c.word.ensures at c.in_ok-write_refusal-in-Err-Refused.ensures)
