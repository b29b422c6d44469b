use Rattle.std.proofs.Common.{◌<◌, length, get_or, sym, ◌∙◌, ap, subst, arith}
use Rattle.rx_auto.proofs.Likeness.{Has_get}
use Rattle.rx_joint.specs.Joint.{table_of, place_of, table_at, terms_in, picked}
use Rattle.rx_joint.proofs.Building.{picked_long}
use Rattle.rx_joint.proofs.Runs.{at_run}
use Rattle.rx_joint.proofs.places.gather_run.Goals as goal

pub gather_few-requires-clause-from : goal.gather_few-requires-clause-from
gather_few-requires-clause-from c = λ g m.
    let p = at_run c.args.from.now c.args.at c.args.end c.requires.at c.requires.end g m in
    let t = picked (terms_in c.args.tables.now) c.args.numbers.now in
    subst (λ z. (table_of z < length t) × (place_of z < length (table_at t (table_of z)))) p.3 (c.requires.from (get_or c.args.from.now p.0 0) (Has_get c.args.from.now p.0 0 (omega (arith, p.2, c.requires.end))))

pub gather_many-requires-clause-from : goal.gather_many-requires-clause-from
gather_many-requires-clause-from c = λ g m.
    let p = at_run c.args.from.now c.args.at c.args.end c.requires.at c.requires.end g m in
    let t = picked (terms_in c.args.tables.now) c.args.numbers.now in
    subst (λ z. (table_of z < length t) × (place_of z < length (table_at t (table_of z)))) p.3 (c.requires.from (get_or c.args.from.now p.0 0) (Has_get c.args.from.now p.0 0 (omega (arith, p.2, c.requires.end))))

pub gather_many-requires-clause-slot : goal.gather_many-requires-clause-slot
gather_many-requires-clause-slot c = subst (λ n. table_of (get_or c.args.from.now c.args.at 0) < n) (picked_long (terms_in c.args.tables.now) c.args.numbers.now)
    (c.requires.from (get_or c.args.from.now c.args.at 0) (Has_get c.args.from.now c.args.at 0 (omega (arith, c.requires.at, c.requires.end)))).0

pub gather_many-requires-clause-one : goal.gather_many-requires-clause-one
gather_many-requires-clause-one c = λ g m.
    let p = at_run c.args.from.now c.args.at c.args.end c.requires.at c.requires.end g m in
    ap table_of (sym p.3) ∙ c.requires.same p.0 p.1 p.2
