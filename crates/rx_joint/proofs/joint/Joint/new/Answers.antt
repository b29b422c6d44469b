use Rattle.std.proofs.Common.{◌≤◌, ◌++◌, ◌∷◌, [], length, sym, ◌∙◌, ap, subst, rules}
use Rattle.rx_auto.specs.Classes.{AddsSets, Covers}
use Rattle.rx_joint.specs.Meanings.{IsField}
use Rattle.rx_joint.proofs.Building.{one_table}
use Rattle.rx_joint.proofs.joint.Joint.new.Goals as goal

pub invariant_of-result : goal.invariant_of-result
invariant_of-result c =
    let t = c.in_ok-table.table in
    let small : length t.terms ≤ 4294967296 = search rules in
    subst (λ n. IsField c.push-2.new.self.items c.add_sets.new.sets.items c.in_ok-bytes.bytes.items n) (sym c.room-room.ensures.room)
    (subst (λ ts. IsField ts c.add_sets.new.sets.items c.in_ok-bytes.bytes.items t.room) (sym (c.in_ok-push-2.ensures.items ∙ ap (λ ts. ts ++ t ∷ []) c.new-tables.ensures.items))
    (one_table t c.args.valid.now c.add_sets.new.sets.items c.in_ok-bytes.bytes.items c.in_ok-table.ensures.0 c.in_ok-table.ensures.1 small c.known.ensures
    (subst (λ ss. AddsSets ss c.add_sets.new.sets.items c.args.valid.now) c.new-sets.ensures.items c.in_ok-add_sets.ensures)
    (subst (λ ss. Covers ss c.in_ok-bytes.bytes.items) c.deref.ensures.value c.in_ok-bytes.ensures)))
