use Rattle.std.proofs.Common.{◌<◌, ◌≤◌, ℕ, List, [], length, get_or, take, sym, ◌∙◌, subst}
use Rattle.rx_term.specs.Language.{Has}
use Rattle.rx_auto.proofs.Likeness.{Has_get}
use Rattle.rx_auto.specs.Live.{AddsNumbers}
use Rattle.rx_auto.specs.Edges.{Reads, AddsEdges}
use Rattle.rx_joint.specs.Lists.{list_at}
use Rattle.rx_joint.specs.Joint.{IsLed}
use Rattle.rx_joint.specs.Claims.{LeadsBack}
use Rattle.rx_joint.proofs.Led.{take_all}
use Rattle.rx_joint.proofs.Listing.{followed, back_more, back_none}
use Rattle.field_seek.specs.Sought.{IsStep, IfDone}
use Rattle.field_seek.proofs.Growing.{grows_same, grows_then, back_grows, grown, kept_state}
use Rattle.field_seek.proofs.listing.explore.Goals as goal

pub loop-byte-init : goal.loop-byte-init
loop-byte-init c = record {
  grows = grows_same c.args.entries.now c.args.states.now;
  listed = c.requires.listed;
  roomy = c.requires.roomy;
  back = back_none c.args.chosen.now.tables c.args.chosen.now.bytes c.args.states.now c.args.word;
  last = subst (Has c.args.states.now) (sym (c.in_ok-last.ensures.items ∙ c.at-2.ensures)) (Has_get c.args.states.now c.args.word [] c.requires.word);
}

pub list_next-requires-clause-byte : goal.list_next-requires-clause-byte
list_next-requires-clause-byte c =
    let b = get_or c.bytes-byte-items.result.now c.loop-byte.byte-index 0 in
    c.known.ensures.within b (subst (λ (bs : List ℕ). Has bs b) c.bytes-byte-items.ensures (Has_get c.bytes-byte-items.result.now c.loop-byte.byte-index 0 c.loop-byte-test.true))

pub list_next-requires-clause-next : goal.list_next-requires-clause-next
list_next-requires-clause-next c =
    let tables = c.args.chosen.now.tables in
    let b = get_or c.bytes-byte-items.result.now c.loop-byte.byte-index 0 in
    subst (λ z. AddsNumbers [] z (IsLed tables (list_at c.loop-byte.states c.args.word) b)) (sym c.deref-in-loop-byte-2.ensures.value)
    (followed tables c.edges.new.to.items (list_at c.loop-byte.states c.args.word) c.follow.new.to.items b
    (subst (λ z. AddsEdges [] c.edges.new.to.items (λ b x. IsLed tables z b x))
    (c.at.ensures ∙ sym (kept_state c.args.entries.now c.args.states.now c.loop-byte.entries c.loop-byte.states c.args.word c.requires.word c.loop-byte.invariant.grows)) c.in_ok-edges.ensures)
    (subst (λ es. AddsNumbers [] c.follow.new.to.items (Reads es b)) c.deref.ensures.value c.in_ok-follow.ensures))

pub loop-byte-preserved : goal.loop-byte-preserved
loop-byte-preserved c =
    let tables = c.args.chosen.now.tables in
    let bytes = c.args.chosen.now.bytes in
    let i = c.loop-byte.byte-index in
    let x = c.follow.new.to.items in
    let es = c.loop-byte.entries in
    let states = c.loop-byte.states in
    let es' = c.list_next.new.entries in
    let states' = c.list_next.new.states in
    let inv = c.loop-byte.invariant in
    let g = c.in_ok-byte.ensures.grows in
    let p = grown c.args.entries.now c.args.states.now es states c.args.word inv.grows c.requires.word in
    let l : i < length bytes = subst (λ (bs : List ℕ). i < length bs) c.bytes-byte-items.ensures c.loop-byte-test.true in
    let there : Has states' x = subst (λ z. Has states' z) c.deref-in-loop-byte-2.ensures.value (subst (λ s. IfDone s (Has states' c.deref-in-loop-byte-2.result.now)) c.in-Done.is c.in_ok-byte.ensures.there) in
    let led : AddsNumbers [] x (IsLed tables (list_at states c.args.word) (get_or bytes i 0)) =
    followed tables c.edges.new.to.items (list_at states c.args.word) x (get_or bytes i 0)
    (subst (λ z. AddsEdges [] c.edges.new.to.items (λ b x. IsLed tables z b x))
    (c.at.ensures ∙ sym (kept_state c.args.entries.now c.args.states.now es states c.args.word c.requires.word inv.grows)) c.in_ok-edges.ensures)
    (subst (λ bs. AddsNumbers [] x (Reads c.edges.new.to.items (get_or bs i 0))) c.bytes-byte-items.ensures
    (subst (λ es. AddsNumbers [] x (Reads es (get_or c.bytes-byte-items.result.now i 0))) c.deref.ensures.value c.in_ok-follow.ensures)) in
    record {
      grows = grows_then c.args.entries.now c.args.states.now es states es' states' inv.grows g;
      listed = c.in_ok-byte.ensures.listed;
      roomy = subst (IsStep tables c.args.chosen.now.holds c.args.cap c.args.word es' states') c.in-Done.is c.in_ok-byte.ensures.step;
      back = back_more tables bytes states' c.args.word i l (back_grows tables (take i bytes) es states es' states' c.args.word p g inv.back) x
          (subst (λ z. AddsNumbers [] x (IsLed tables z (get_or bytes i 0))) (sym (kept_state es states es' states' c.args.word p g)) led) there;
      last = subst (λ v. Has states' v.items) (sym c.swap.ensures.x_after) there;
    }

pub returns-clause-back : goal.returns-clause-back
returns-clause-back c = subst (λ bs. LeadsBack c.args.chosen.now.tables bs c.loop-byte.states c.args.word)
    (take_all c.loop-byte.byte-index c.args.chosen.now.bytes (subst (λ (bs : List ℕ). length bs ≤ c.loop-byte.byte-index) c.bytes-byte-items.ensures c.loop-byte-test.false)
    (subst (λ (bs : List ℕ). c.loop-byte.byte-index ≤ length bs) c.bytes-byte-items.ensures c.loop-byte.auto.byte-index-end)) c.loop-byte.invariant.back
