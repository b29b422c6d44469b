use Rattle.std.proofs.Common.{◌<◌, ℕ, List, length, get_or, sym, ap, subst, arith}
use Rattle.rx_term.specs.Language.{Has}
use Rattle.rx_auto.specs.declared.parts.Spot.{Spot}
use Rattle.rx_auto.specs.Live.{IsBehind}
use Rattle.rx_auto.specs.Marks.{Adds}
use Rattle.rx_auto.specs.Reach.{EntersFrom}
use Rattle.rx_auto.specs.Edges.{AddsEdges}
use Rattle.rx_auto.proofs.Wholes.{on_ok}
use Rattle.rx_auto.proofs.Tables.{Has_at, tails_long}
use Rattle.rx_auto.proofs.Reached.{LeadsBelow, edges_from}
use Rattle.rx_auto.proofs.table.Table.edges_of.Goals as goal

pub enter_from-requires-clause-places : goal.enter_from-requires-clause-places
enter_from-requires-clause-places c = λ k h.
    subst (λ (ss : List Spot). get_or c.args.places.now k 0 < length ss) (sym c.deref.ensures.value)
    (let n = c.requires.places (get_or c.args.places.now k 0) (Has_at c.args.places.now k h) in
    omega (arith, n, ap (λ t. length t.terms) c.self.view_is, tails_long c.self.inside.dag c.self.inside.spots.items))

pub returns-clause-edges : goal.returns-clause-edges
returns-clause-edges c =
    let spots = c.self.inside.spots.items in
    let reps = c.self.inside.reps.items in
    let places = c.args.places.now in
    let row = c.reach.new.row.marks in
    let old = c.args.to.now.items in
    let new = c.put_marked.new.to.items in
    let within : (p : ℕ) → Has places p → p < length spots = λ p h. (let n = c.requires.places p h in omega (arith, n, ap (λ t. length t.terms) c.self.view_is, tails_long c.self.inside.dag spots)) in
    let entered = subst (λ (ss : List Spot). Adds c.clear.new.self.marks c.enter_from.new.nodes.marks (EntersFrom ss places)) c.deref.ensures.value c.enter_from.ensures.marks in
    on_ok c.put_marked.result (AddsEdges old new (LeadsBelow c.deref-2.result.now c.deref-3.result.now row c.args.base (length c.deref-2.result.now)))
    (AddsEdges old new (λ b x. (p : ℕ) × Has places p × IsBehind c.args.self.now.terms p b c.args.base x))
    (λ f.
    let f1 = subst (λ (ss : List Spot). AddsEdges old new (LeadsBelow ss c.deref-3.result.now row c.args.base (length ss))) c.deref-2.ensures.value f in
    let f2 = subst (λ rs. AddsEdges old new (LeadsBelow spots rs row c.args.base (length spots))) c.deref-3.ensures.value f1 in
    subst (λ t. AddsEdges old new (λ b x. (p : ℕ) × Has places p × IsBehind t.terms p b c.args.base x)) c.self.view_is
    (edges_from c.self.inside.dag c.self.inside.ways spots reps c.self.invariant.table places within c.clear-2.new.self.marks row c.clear.new.self.marks c.enter_from.new.nodes.marks
    c.clear-2.ensures.none c.clear.ensures.none entered c.reach.ensures.reached c.args.base old new f2)) c.put_marked.ensures
