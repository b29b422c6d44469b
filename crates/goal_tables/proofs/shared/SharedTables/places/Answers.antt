use Rattle.std.proofs.Common.{◌≡◌, ◌<◌, length, take, get_or, sym, ap, subst, ◌++◌, ◌∷◌, [], ◌∙◌}
use Rattle.std.proofs.lemmas.List.{take_more}
use Rattle.goal_tables.proofs.Growing.{are_placed_more, are_placed_push}
use Rattle.goal_tables.proofs.shared.SharedTables.places.Goals as goal

pub loop-atom-preserved : goal.loop-atom-preserved
loop-atom-preserved c =
    let atoms = c.args.goal.now.atoms in
    let i = c.loop-atom.atom-index in
    let a = c.atom-item.result in
    let now = c.place.new.self in
    let lt : i < length atoms = subst (λ xs. i < length xs) c.as_slice-atom-items.ensures.list c.loop-atom-test.true in
    let here : a ≡ get_or atoms i a = subst (λ xs. a ≡ get_or xs i a) c.as_slice-atom-items.ensures.list c.atom-item.is in
    let more = take_more atoms i a lt ∙ ap (λ x. take i atoms ++ x ∷ []) (sym here) in
    rw (c.in_ok-push.ensures.items, more)
    (are_placed_push now (take i atoms) c.loop-atom.places.items a c.in_ok-place.field-0
    (are_placed_more c.loop-atom.self now (take i atoms) c.loop-atom.places.items c.in_ok-place.ensures.extends c.loop-atom.invariant) c.in_ok-place.ensures.placed)
