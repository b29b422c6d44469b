use Rattle.std.proofs.Common.{◌++◌, ◌<◌, ◌^◌, subst, ap, ◌∙◌, string_bytes}
use Rattle.serde_json.specs.Written.{compact_text}
use Rattle.text_base.specs.Asked.{Asked}
use Rattle.cert_rows.specs.Values.{request_value}
use Rattle.cert_rows.proofs.RowTexts.{reached_written}
use Rattle.cert_rows.proofs.Steps.{on_ok}
use Rattle.cert_rows.proofs.write.push_reached.Goals as goal

pub returns-clause-text : goal.returns-clause-text
returns-clause-text c =
    let request = c.in_ok-push_request.ensures.text ∙ ap (λ (q : Asked). string_bytes c.push_name.new.text ++ compact_text (request_value q)) c.parts-parts.ensures.same in
    reached_written c.args.place.now c.args.request.now c.push_str-2.result _ _ _ _ _ _ _ _ _ c.in_ok-push_str.ensures.bytes c.in_ok-push_name.ensures request c.in_ok-push_name-2.ensures c.in_ok-push_quoted.ensures
    c.in_ok-push_name-3.ensures c.in_ok-push_quoted-2.ensures c.push_str-2.ensures.bytes

pub returns-clause-typed : goal.returns-clause-typed
returns-clause-typed c = on_ok c.push_str-2.result _ (c.parts-parts.ensures.valid, subst (λ (q : Asked). q.random < 2 ^ 64) c.parts-parts.ensures.same c.in_ok-push_request.ensures.fits)
