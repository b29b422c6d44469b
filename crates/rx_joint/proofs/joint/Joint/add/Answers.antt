use Rattle.std.proofs.Common.{◌<◌, ◌≤◌, ◌++◌, ◌∷◌, [], length, sym, ◌∙◌, ap, subst, rules}
use Rattle.std.proofs.lemmas.Result.{err_from_is_err_and}
use Rattle.rx_auto.specs.Classes.{AddsSets, Covers}
use Rattle.rx_joint.specs.Joint.{own}
use Rattle.rx_joint.specs.Meanings.{IsField}
use Rattle.rx_joint.proofs.Building.{field_push, first_kept, owns_push}
use Rattle.rx_joint.proofs.joint.Joint.add.Goals as goal

pub returns-in_err-push-clause-added : goal.returns-in_err-push-clause-added
returns-in_err-push-clause-added c = let p = err_from_is_err_and c.from_residual-in_err-push.result c.from_residual-in_err-push.ensures.1 in rw p.1 tt

pub returns-in_err-push-clause-kept : goal.returns-in_err-push-clause-kept
returns-in_err-push-clause-kept c = let p = err_from_is_err_and c.from_residual-in_err-push.result c.from_residual-in_err-push.ensures.1 in rw p.1 c.self.view_is

pub invariant_of-self-2 : goal.invariant_of-self-2
invariant_of-self-2 c =
    let t = c.in_ok-table.table in
    let small : length t.terms ≤ 4294967296 = search rules in
    let few : length c.self.inside.tables.items < 4294967295 = search rules in
    let room : c.self.inside.room ≤ c.max-room.result = search rules in
    let roomy : t.room ≤ c.max-room.result = search rules in
    subst (λ ts. IsField ts c.add_sets.new.sets.items c.in_ok-bytes.bytes.items c.max-room.result) (sym c.in_ok-push-2.ensures.items)
    (field_push c.self.inside.tables.items c.self.inside.sets.items c.self.inside.bytes.items c.self.inside.room c.self.invariant t c.args.term.now c.add_sets.new.sets.items c.in_ok-bytes.bytes.items c.max-room.result
    c.in_ok-table.ensures.0 c.in_ok-table.ensures.1 small c.known.ensures few
    (subst (λ ss. AddsSets ss c.add_sets.new.sets.items c.args.term.now) (c.in_ok-sets.ensures.items ∙ c.deref.ensures.value) c.in_ok-add_sets.ensures)
    (subst (λ ss. Covers ss c.in_ok-bytes.bytes.items) c.deref-2.ensures.value c.in_ok-bytes.ensures) room roomy)

pub returns-clause-added : goal.returns-clause-added
returns-clause-added c =
    let t = c.in_ok-table.table in
    rw (c.in_ok-push-2.ensures.items) (
      ap own (first_kept t c.self.inside.tables.items c.self.invariant.some) ∙ ap (λ j. j.valid) c.self.view_is,
      owns_push t c.self.inside.tables.items c.self.invariant.some ∙ ap (λ j. j.terms ++ own t.terms ∷ []) c.self.view_is ∙ ap (λ z. c.args.self.now.terms ++ z ∷ []) c.in_ok-table.ensures.1,
    )
