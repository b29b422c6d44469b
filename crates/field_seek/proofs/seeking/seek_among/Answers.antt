use Rattle.std.proofs.Common.{◌≡◌, ◌<◌, ◌++◌, ◌∷◌, [], ℕ, Some, length, sym, ◌∙◌, ap, subst, arith}
use Rattle.rx_term.specs.Closing.{Meets}
use Rattle.rx_auto.proofs.Wholes.{ok_map}
use Rattle.rx_joint.specs.Joint.{Stands}
use Rattle.rx_joint.specs.Claims.{chosen}
use Rattle.rx_joint.proofs.Lawful.{meets_claims, listed_words}
use Rattle.field_seek.specs.Seen.{IsSeen}
use Rattle.field_seek.specs.Sought.{IsSought}
use Rattle.field_seek.proofs.Growing.{begun}
use Rattle.field_seek.proofs.Sought.{seen_is}
use Rattle.field_seek.proofs.seeking.seek_among.Goals as goal

pub returns : goal.returns
returns c =
    let m = c.in_ok-chosen.chosen in
    let claims = chosen c.args.joint.now.terms c.args.choice.now in
    ok_map c.seek_best_first.result (λ seen. IsSought m.tables m.holds m.bytes c.args.cap seen) (λ seen. IsSeen c.args.joint.now.valid claims c.args.cap seen)
    (λ seen h. seen_is m.tables m.holds m.bytes c.args.joint.now.valid claims c.in_ok-chosen.ensures c.args.cap seen h) c.seek_best_first.ensures

pub returns-then-meets : goal.returns-then-meets
returns-then-meets c =
    let m = c.in_ok-chosen.chosen in
    let claims = chosen c.args.joint.now.terms c.args.choice.now in
    let s = subst (λ z. Stands m.tables z []) (sym c.deref.ensures.value) c.in_ok-first.ensures in
    subst (λ w. Meets c.args.joint.now.valid claims w) (sym c.new.ensures.items)
    (meets_claims m.tables m.holds m.bytes c.args.joint.now.valid claims c.in_ok-chosen.ensures [] ((c.meets.ensures [] s).0 c.if-meets.true))

pub seek_best_first-requires-clause-listed : goal.seek_best_first-requires-clause-listed
seek_best_first-requires-clause-listed c = begun c.in_ok-chosen.chosen.tables c.in_ok-chosen.chosen.holds c.in_ok-first.first.items c.in_ok-first.ensures c.deref.result.now c.deref.ensures.value c.meets.result
    c.meets.ensures c.if-meets.false c.new-entries.result c.new-entries.ensures c.add.new.self (c.in_ok-add.ensures ∙ ap (λ z. z ++ c.in_ok-first.first.items ∷ []) c.new-states.ensures)

pub returns-then-is_over : goal.returns-then-is_over
returns-then-is_over c =
    let m = c.in_ok-chosen.chosen in
    let claims = chosen c.args.joint.now.terms c.args.choice.now in
    let all = c.in_ok-add.ensures ∙ ap (λ z. z ++ c.in_ok-first.first.items ∷ []) c.new-states.ensures in
    let l = begun m.tables m.holds c.in_ok-first.first.items c.in_ok-first.ensures c.deref.result.now c.deref.ensures.value c.meets.result c.meets.ensures c.if-meets.false c.new-entries.result c.new-entries.ensures
    c.add.new.self all in
    let o = c.is_over.ensures.over c.if-is_over.true in
    let e : o.0 ≡ length c.new-entries.result = none o.0 c.len.result (length c.new-entries.result) o.2 (c.len.ensures ∙ ap length all) (ap length c.new-entries.ensures) in
    record {
      full = subst (λ z. c.args.cap ≡ Some z) e o.1;
      listed = listed_words m.tables m.holds m.bytes c.args.joint.now.valid claims c.in_ok-chosen.ensures c.new-entries.result c.add.new.self l;
    }
  where
    none : (limit count entries : ℕ) → limit < count → count ≡ 1 → entries ≡ 0 → limit ≡ entries
    none limit count entries h e f = omega arith
