use Rattle.std.proofs.Common.{ℕ, List, [], get_or, sym, ◌∙◌, subst}
use Rattle.rx_term.specs.Language.{Has}
use Rattle.rx_auto.proofs.Likeness.{Has_get}
use Rattle.rx_auto.specs.Edges.{AddsEdges}
use Rattle.rx_joint.specs.Lists.{list_at}
use Rattle.rx_joint.specs.Joint.{IsLed}
use Rattle.field_seek.proofs.Growing.{grows_same, has_grows, kept_state}
use Rattle.field_seek.proofs.best_first.expand.Goals as goal

pub loop-byte-init : goal.loop-byte-init
loop-byte-init c = record { grows = grows_same c.args.entries.now c.args.states.now; listed = c.requires.listed; roomy = c.requires.roomy }

pub try_byte-requires-clause-byte : goal.try_byte-requires-clause-byte
try_byte-requires-clause-byte c =
    let b = get_or c.bytes-byte-items.result.now c.loop-byte.byte-index 0 in
    c.known.ensures.within b (subst (λ (bs : List ℕ). Has bs b) c.bytes-byte-items.ensures (Has_get c.bytes-byte-items.result.now c.loop-byte.byte-index 0 c.loop-byte-test.true))

pub try_byte-requires-clause-from : goal.try_byte-requires-clause-from
try_byte-requires-clause-from c = subst (Has c.loop-byte.states) (sym (c.deref-in-loop-byte.ensures.value ∙ c.in_ok-from.ensures.items ∙ c.at-2.ensures))
    (has_grows c.args.entries.now c.args.states.now c.loop-byte.entries c.loop-byte.states (list_at c.args.states.now c.args.word) c.loop-byte.invariant.grows
    (Has_get c.args.states.now c.args.word [] c.requires.word))

pub try_byte-requires-clause-edges : goal.try_byte-requires-clause-edges
try_byte-requires-clause-edges c =
    let tables = c.args.chosen.now.tables in
    subst (λ es. AddsEdges [] es (λ b x. IsLed tables (list_at c.loop-byte.states c.args.word) b x)) (sym c.deref-in-loop-byte-2.ensures.value)
    (subst (λ z. AddsEdges [] c.edges.new.to.items (λ b x. IsLed tables z b x))
    (c.at.ensures ∙ sym (kept_state c.args.entries.now c.args.states.now c.loop-byte.entries c.loop-byte.states c.args.word c.requires.word c.loop-byte.invariant.grows)) c.in_ok-edges.ensures)
