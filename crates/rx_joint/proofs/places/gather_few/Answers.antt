use Rattle.std.proofs.Common.{◌<◌, ◌≤◌, ◌+◌, ◌*◌, ℕ, List, length, get_or, sym, subst, arith}
use Rattle.rx_term.specs.declared.terms.Term.{Term}
use Rattle.rx_auto.proofs.Likeness.{Has_get}
use Rattle.rx_auto.specs.Live.{IsBehind}
use Rattle.rx_auto.specs.Edges.{AddsEdges}
use Rattle.rx_joint.specs.Joint.{table_of, place_of, terms_in, picked, IsLed}
use Rattle.rx_joint.proofs.Building.{picked_long, table_is}
use Rattle.rx_joint.proofs.Led.{gather_none, gather_more, take_all}
use Rattle.rx_joint.proofs.places.gather_few.Goals as goal

pub bounds-numbers-slot : goal.bounds-numbers-slot
bounds-numbers-slot c = subst (λ n. table_of (get_or c.args.from.now c.loop-number.number-index 0) < n) (picked_long (terms_in c.args.tables.now) c.args.numbers.now)
    (c.requires.from (get_or c.args.from.now c.loop-number.number-index 0) (Has_get c.args.from.now c.loop-number.number-index 0 c.loop-number-test.true)).0

pub bounds-tables-numbers : goal.bounds-tables-numbers
bounds-tables-numbers c = c.requires.numbers _ (Has_get c.args.numbers.now (table_of (get_or c.args.from.now c.loop-number.number-index 0)) 0
    (subst (λ n. table_of (get_or c.args.from.now c.loop-number.number-index 0) < n) (picked_long (terms_in c.args.tables.now) c.args.numbers.now)
    (c.requires.from (get_or c.args.from.now c.loop-number.number-index 0) (Has_get c.args.from.now c.loop-number.number-index 0 c.loop-number-test.true)).0))

pub edges-requires-clause-place : goal.edges-requires-clause-place
edges-requires-clause-place c =
    let g = get_or c.args.from.now c.loop-number.number-index 0 in
    let f = c.requires.from g (Has_get c.args.from.now c.loop-number.number-index 0 c.loop-number-test.true) in
    let l = subst (λ n. table_of g < n) (picked_long (terms_in c.args.tables.now) c.args.numbers.now) f.0 in
    subst (λ (ts : List Term). place_of g < length ts)
    (table_is c.args.tables.now c.args.numbers.now (table_of g) c.index-tables-numbers.result _ l (c.requires.numbers _ (Has_get c.args.numbers.now (table_of g) 0 l)) c.index-tables-numbers.is) f.1

pub edges-requires-clause-room : goal.edges-requires-clause-room
edges-requires-clause-room c =
    let g = get_or c.args.from.now c.loop-number.number-index 0 in
    let f = c.requires.from g (Has_get c.args.from.now c.loop-number.number-index 0 c.loop-number-test.true) in
    let l = subst (λ n. table_of g < n) (picked_long (terms_in c.args.tables.now) c.args.numbers.now) f.0 in
    let e = table_is c.args.tables.now c.args.numbers.now (table_of g) c.index-tables-numbers.result _ l (c.requires.numbers _ (Has_get c.args.numbers.now (table_of g) 0 l)) c.index-tables-numbers.is in
    let s = subst (λ (ts : List Term). length ts ≤ 4294967296) e (c.requires.tables.small (table_of g) f.0) in
    fits (table_of g) (length c.index-tables-numbers.result.terms) (omega (arith, f.0, c.requires.tables.few)) s
  where
    fits : (i n : ℕ) → i < 4294967296 → n ≤ 4294967296 → i * 4294967296 + n ≤ 18446744073709551616
    fits i n h k = omega arith

pub loop-number-preserved : goal.loop-number-preserved
loop-number-preserved c =
    let g = get_or c.args.from.now c.loop-number.number-index 0 in
    let f = c.requires.from g (Has_get c.args.from.now c.loop-number.number-index 0 c.loop-number-test.true) in
    let l = subst (λ n. table_of g < n) (picked_long (terms_in c.args.tables.now) c.args.numbers.now) f.0 in
    let e = table_is c.args.tables.now c.args.numbers.now (table_of g) c.index-tables-numbers.result _ l (c.requires.numbers _ (Has_get c.args.numbers.now (table_of g) 0 l)) c.index-tables-numbers.is in
    gather_more (picked (terms_in c.args.tables.now) c.args.numbers.now) c.args.from.now c.loop-number.number-index c.loop-number-test.true c.args.to.now.items c.loop-number.to.items c.edges.new.to.items c.loop-number.invariant
    (subst (λ ts. AddsEdges c.loop-number.to.items c.edges.new.to.items (λ b x. IsBehind ts (place_of g) b (table_of g * 4294967296) x)) (sym e) c.in_ok-edges.ensures)

pub returns : goal.returns
returns c = subst (λ xs. AddsEdges c.args.to.now.items c.loop-number.to.items (λ b x. IsLed (picked (terms_in c.args.tables.now) c.args.numbers.now) xs b x))
    (take_all c.loop-number.number-index c.args.from.now c.loop-number-test.false c.loop-number.auto.number-index-end) c.loop-number.invariant

pub loop-number-init : goal.loop-number-init
loop-number-init c = gather_none (picked (terms_in c.args.tables.now) c.args.numbers.now) c.args.from.now c.args.to.now.items
