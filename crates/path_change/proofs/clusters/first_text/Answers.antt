use Rattle.std.proofs.Common.{◌≡◌, true, sym, subst}
use Rattle.text_base.specs.Asked.{Asked}
use Rattle.text_base.specs.Requests.{is_valid}
use Rattle.path_change.proofs.Ascii.{value_is_text}
use Rattle.path_change.proofs.clusters.first_text.Goals as goal

pub unreachable-requires : goal.unreachable-requires
unreachable-requires c =
    let valid : is_valid c.parts-parts.result.now ≡ true = subst (λ (q : Asked). is_valid q ≡ true) (sym c.parts-parts.ensures.same) c.parts-parts.ensures.valid in
    absurd (c.in-Err.ensures.cases.0 (value_is_text c.parts-parts.result.now c.args.name.now c.in-Some.value.now valid c.in-Some.ensures))
