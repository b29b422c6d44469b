use Rattle.std.proofs.Common.{sym, arith, length}
use Rattle.std.specs.Prelude.{◌==◌}
use Rattle.std.proofs.lemmas.Bool.{false_from_ne_true}
use Rattle.std.proofs.lemmas.List.Sums.{position_or_len_is}
use Rattle.outside.proofs.lines.line_end.Goals as goal

pub returns-in-Some-clause-place : goal.returns-in-Some-clause-place
returns-in-Some-clause-place c =
    let (before, here) = c.in-Some.ensures in
    let below = before.high in
    sym (position_or_len_is (λ b. b == 10) c.args.bytes.now c.in-Some.at 0 (omega (arith, below)) (λ k h. false_from_ne_true _ (before.before k (omega arith) h)) (λ _. here))

pub returns-in-None-clause-place : goal.returns-in-None-clause-place
returns-in-None-clause-place c =
    sym (position_or_len_is (λ b. b == 10) c.args.bytes.now (length c.args.bytes.now) 0 (omega arith)
    (λ k h. false_from_ne_true _ (c.in-None.ensures k (omega arith) (omega arith))) (λ h. absurd (omega arith)))
