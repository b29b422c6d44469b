use Rattle.std.proofs.Common.{◌≡◌, drop}
use Rattle.serde_json.specs.View.{items_view}
use Rattle.cert_rows.specs.Leaves.{words_from}
use Rattle.cert_rows.proofs.WordSteps.{prefixed}
use Rattle.cert_rows.proofs.words.words_in.Given as goal

abbrev pub invariant-loop-i : goal.invariant-loop-i
invariant-loop-i l = prefixed l.all (words_from l.place l.i (items_view (drop l.i l.values))) ≡ words_from l.place 0 (items_view l.values)
