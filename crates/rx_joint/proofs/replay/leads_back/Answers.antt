use Rattle.std.proofs.Common.{◌≡◌, ◌<◌, ◌≤◌, ℕ, List, [], true, false, length, get_or, sym, ◌∙◌, subst}
use Rattle.rx_term.specs.Language.{Has}
use Rattle.rx_auto.proofs.Likeness.{Has_get}
use Rattle.rx_auto.specs.Live.{AddsNumbers}
use Rattle.rx_auto.specs.Edges.{Reads, AddsEdges}
use Rattle.rx_joint.specs.Lists.{list_at}
use Rattle.rx_joint.specs.Joint.{IsLed}
use Rattle.rx_joint.specs.Claims.{LeadsBack}
use Rattle.rx_joint.proofs.Led.{take_all}
use Rattle.rx_joint.proofs.Listing.{followed, back_more, back_none}
use Rattle.rx_joint.proofs.replay.leads_back.Goals as goal

pub loop-byte-init : goal.loop-byte-init
loop-byte-init c = record {
  back = back_none c.args.chosen.now.tables c.args.chosen.now.bytes c.args.states.now c.args.place;
  last = subst (Has c.args.states.now) (sym (c.in_ok-last.ensures.items ∙ c.at-2.ensures)) (Has_get c.args.states.now c.args.place [] c.requires.place);
}

pub returns-then-not-is_listed-clause-exact : goal.returns-then-not-is_listed-clause-exact
returns-then-not-is_listed-clause-exact c =
    let tables = c.args.chosen.now.tables in
    let bytes = c.args.chosen.now.bytes in
    let states = c.args.states.now in
    let i = c.loop-byte.byte-index in
    let x = c.follow.new.to.items in
    let l : i < length bytes = subst (λ (bs : List ℕ). i < length bs) c.bytes-byte-items.ensures c.loop-byte-test.true in
    let led : AddsNumbers [] x (IsLed tables (list_at states c.args.place) (get_or bytes i 0)) =
    followed tables c.edges.new.to.items (list_at states c.args.place) x (get_or bytes i 0)
    (subst (λ z. AddsEdges [] c.edges.new.to.items (λ b y. IsLed tables z b y)) c.at.ensures c.in_ok-edges.ensures)
    (subst (λ bs. AddsNumbers [] x (Reads c.edges.new.to.items (get_or bs i 0))) c.bytes-byte-items.ensures
    (subst (λ es. AddsNumbers [] x (Reads es (get_or c.bytes-byte-items.result.now i 0))) c.deref.ensures.value c.in_ok-follow.ensures)) in
    λ f. absurd (clash (sym c.if-not-is_listed.true ∙ c.is_listed.ensures.1 (subst (Has states) (sym c.deref-in-loop-byte-2.ensures.value) (f (get_or bytes i 0) (Has_get bytes i 0 l) x led))))
  where
    clash : false ≡ true → ⊥
    clash k = cc

pub loop-byte-preserved : goal.loop-byte-preserved
loop-byte-preserved c =
    let tables = c.args.chosen.now.tables in
    let bytes = c.args.chosen.now.bytes in
    let states = c.args.states.now in
    let i = c.loop-byte.byte-index in
    let x = c.follow.new.to.items in
    let l : i < length bytes = subst (λ (bs : List ℕ). i < length bs) c.bytes-byte-items.ensures c.loop-byte-test.true in
    let led : AddsNumbers [] x (IsLed tables (list_at states c.args.place) (get_or bytes i 0)) =
    followed tables c.edges.new.to.items (list_at states c.args.place) x (get_or bytes i 0)
    (subst (λ z. AddsEdges [] c.edges.new.to.items (λ b y. IsLed tables z b y)) c.at.ensures c.in_ok-edges.ensures)
    (subst (λ bs. AddsNumbers [] x (Reads c.edges.new.to.items (get_or bs i 0))) c.bytes-byte-items.ensures
    (subst (λ es. AddsNumbers [] x (Reads es (get_or c.bytes-byte-items.result.now i 0))) c.deref.ensures.value c.in_ok-follow.ensures)) in
    let there : Has states x = subst (Has states) c.deref-in-loop-byte-2.ensures.value (c.is_listed.ensures.0 c.if-not-is_listed.false) in
    record {
      back = back_more tables bytes states c.args.place i l c.loop-byte.invariant.back x led there;
      last = subst (λ v. Has states v.items) (sym c.swap.ensures.x_after) there;
    }

pub returns-clause-listed : goal.returns-clause-listed
returns-clause-listed c =
    let tables = c.args.chosen.now.tables in
    λ _. subst (λ bs. LeadsBack tables bs c.args.states.now c.args.place)
    (take_all c.loop-byte.byte-index c.args.chosen.now.bytes (subst (λ (bs : List ℕ). length bs ≤ c.loop-byte.byte-index) c.bytes-byte-items.ensures c.loop-byte-test.false)
    (subst (λ (bs : List ℕ). c.loop-byte.byte-index ≤ length bs) c.bytes-byte-items.ensures c.loop-byte.auto.byte-index-end)) c.loop-byte.invariant.back
