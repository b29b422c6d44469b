use Rattle.std.proofs.Common.{◌++◌, ◌∷◌, ℕ, List, [], inl, refl, sym, ◌∙◌, ap, subst}
use Rattle.rx_term.specs.Language.{Has}
use Rattle.rx_term.proofs.Language.{Has_right}
use Rattle.rx_joint.specs.Claims.{word_at}
use Rattle.field_seek.proofs.Growing.{grows_same, next_stands, one_more}
use Rattle.field_seek.proofs.step.list_next.Goals as goal

pub returns-then-is_listed-clause-grows : goal.returns-then-is_listed-clause-grows
returns-then-is_listed-clause-grows c = grows_same c.args.entries.now c.args.states.now

pub returns-then-meets-clause-grows : goal.returns-then-meets-clause-grows
returns-then-meets-clause-grows c = grows_same c.args.entries.now c.args.states.now

pub returns-then-meets-clause-step : goal.returns-then-meets-clause-step
returns-then-meets-clause-step c =
    let s = next_stands c.args.chosen.now.tables c.args.chosen.now.holds c.args.entries.now c.args.states.now c.known.ensures.ready c.requires.listed c.args.word c.args.byte c.args.next.now c.requires.word
    c.requires.next c.requires.byte in
    (c.requires.byte, (c.meets.ensures (word_at c.args.entries.now c.args.word ++ c.args.byte ∷ []) s).0 c.if-meets.true)

pub returns-then-is_over-clause-listed : goal.returns-then-is_over-clause-listed
returns-then-is_over-clause-listed c = one_more c.args.chosen.now.tables c.args.chosen.now.holds c.args.entries.now c.args.states.now c.known.ensures.ready c.requires.listed c.args.word c.args.byte c.args.next.now
    c.requires.word c.requires.next c.requires.byte c.is_listed.result c.is_listed.ensures c.if-is_listed.false c.meets.result c.meets.ensures c.if-meets.false c.push.new.self c.add.new.self c.in_ok-push.ensures.ok
    (c.in_ok-add.ensures ∙ ap (λ z. c.args.states.now ++ z ∷ []) c.in_ok-from_slice.ensures.items)

pub returns-clause-listed : goal.returns-clause-listed
returns-clause-listed c = one_more c.args.chosen.now.tables c.args.chosen.now.holds c.args.entries.now c.args.states.now c.known.ensures.ready c.requires.listed c.args.word c.args.byte c.args.next.now
    c.requires.word c.requires.next c.requires.byte c.is_listed.result c.is_listed.ensures c.if-is_listed.false c.meets.result c.meets.ensures c.if-meets.false c.push.new.self c.add.new.self c.in_ok-push.ensures.ok
    (c.in_ok-add.ensures ∙ ap (λ z. c.args.states.now ++ z ∷ []) c.in_ok-from_slice.ensures.items)

pub returns-clause-there : goal.returns-clause-there
returns-clause-there c = subst (λ (ss : List (List ℕ)). Has ss c.args.next.now) (sym (c.in_ok-add.ensures ∙ ap (λ z. c.args.states.now ++ z ∷ []) c.in_ok-from_slice.ensures.items))
    (Has_right c.args.states.now (c.args.next.now ∷ []) c.args.next.now (inl refl))
