use Rattle.std.proofs.Common.{ℕ, List, ◌++◌, string_bytes, sym, ap, ◌∙◌, refl, append_assoc}
use Rattle.std.proofs.Math.Utf8.{encode}
use Rattle.json_walk.proofs.Escape.{escape_more}
use Rattle.json_walk.proofs.places.under.Goals as goal

pub loop-c-preserved : goal.loop-c-preserved
loop-c-preserved c =
    let i = c.loop-c.invariant in
    let t = c.in-Some.ensures.steps in
    let bs : List ℕ = encode c.in-Some.c in
    (i.0 ++ bs, i.1 ∙ ap (λ r. i.0 ++ r) t.0 ∙ sym (append_assoc i.0 bs c.next.new.self.rest.now), rw c.in_ok-push_escaped.ensures (escape_more c.args.place.now i.0 bs _ (string_bytes c.loop-c.text) i.2 refl))
