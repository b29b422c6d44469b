use Rattle.std.proofs.Common.{◌<◌, ◌*◌, ℕ, List, length, map, sym, ◌∙◌, ap, subst}
use Rattle.rx_term.specs.declared.terms.Term.{Term}
use Rattle.rx_term.specs.Language.{Has}
use Rattle.rx_term.proofs.Language.{Has_unmap}
use Rattle.rx_auto.proofs.Likeness.{Has_get}
use Rattle.rx_auto.specs.Live.{IsBehind}
use Rattle.rx_auto.specs.Edges.{AddsEdges}
use Rattle.rx_auto.proofs.Wholes.{on_ok}
use Rattle.rx_joint.specs.Joint.{place_of, table_at, terms_in, picked, IsLed}
use Rattle.rx_joint.proofs.Building.{table_is}
use Rattle.rx_joint.proofs.Led.{take_all}
use Rattle.rx_joint.proofs.Runs.{one_table_leads}
use Rattle.rx_joint.proofs.places.gather_many.Goals as goal

pub bounds-tables-numbers : goal.bounds-tables-numbers
bounds-tables-numbers c = c.requires.numbers _ (Has_get c.args.numbers.now c.args.slot 0 c.requires.slot)

pub edges_of-requires-clause-places : goal.edges_of-requires-clause-places
edges_of-requires-clause-places c = λ p h.
    let t = picked (terms_in c.args.tables.now) c.args.numbers.now in
    let is = table_is c.args.tables.now c.args.numbers.now c.args.slot c.index-tables-numbers.result _ c.requires.slot (c.requires.numbers _ (Has_get c.args.numbers.now c.args.slot 0 c.requires.slot)) c.index-tables-numbers.is in
    let places = c.deref.ensures.value ∙ c.loop-number.invariant ∙ ap (map place_of) (take_all c.loop-number.number-index c.args.from.now c.loop-number-test.false c.loop-number.auto.number-index-end) in
    let u = Has_unmap place_of c.args.from.now p (subst (λ (xs : List ℕ). Has xs p) places h) in
    let f = (c.requires.from u.0 u.1).1 in
    subst (λ n. n < length c.index-tables-numbers.result.terms) (sym u.2)
    (subst (λ (ts : List Term). place_of u.0 < length ts) is (subst (λ s. place_of u.0 < length (table_at t s)) (c.requires.one u.0 u.1) f))

pub returns : goal.returns
returns c =
    let t = picked (terms_in c.args.tables.now) c.args.numbers.now in
    let is = table_is c.args.tables.now c.args.numbers.now c.args.slot c.index-tables-numbers.result _ c.requires.slot (c.requires.numbers _ (Has_get c.args.numbers.now c.args.slot 0 c.requires.slot)) c.index-tables-numbers.is in
    let ts = c.index-tables-numbers.result.terms in
    let old = c.args.to.now.items in
    let new = c.edges_of.new.to.items in
    let places = c.deref.ensures.value ∙ c.loop-number.invariant ∙ ap (map place_of) (take_all c.loop-number.number-index c.args.from.now c.loop-number-test.false c.loop-number.auto.number-index-end) in
    on_ok c.edges_of.result (AddsEdges old new (λ b x. (p : ℕ) × Has c.deref.result.now p × IsBehind ts p b (c.args.slot * 4294967296) x)) (AddsEdges old new (λ b x. IsLed t c.args.from.now b x))
    (λ f. one_table_leads t c.args.from.now c.args.slot ts c.requires.one is old new
    (subst (λ ps. AddsEdges old new (λ b x. (p : ℕ) × Has ps p × IsBehind ts p b (c.args.slot * 4294967296) x)) places f)) c.edges_of.ensures.edges
