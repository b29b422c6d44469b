use Rattle.std.proofs.Common.{refl, Some, ap, sym, ◌∙◌, length, arith}
use Rattle.std.proofs.lemmas.Option.{slice_get_read}
use Rattle.goal_build.proofs.Renumbered.{found_kept, found_numbered, kept_set}
use Rattle.goal_build.proofs.numbering.new_number.Goals as goal

pub returns-in-Some-clause-found : goal.returns-in-Some-clause-found
returns-in-Some-clause-found c =
    let n = c.requires.kept.long in let l = c.requires.below in
    let read = slice_get_read c.args.places.now.items (length c.args.places.now.items) c.args.number c.index.result.now refl (omega (arith, n, l)) c.index.ensures in
    found_kept _ c.args.places.now.items _ c.args.number c.in-Some.place c.requires.below c.requires.kept (read ∙ ap Some c.in-Some.is)

pub returns-clause-kept : goal.returns-clause-kept
returns-clause-kept c = kept_set _ _ _ _ _ _ _ (c.at.ensures ∙ ap Some (sym c.in_ok-atom.ensures)) c.in_ok-place.ensures.ok c.requires.kept

pub returns-clause-found : goal.returns-clause-found
returns-clause-found c = found_numbered _ _ _ _ _ _ (c.at.ensures ∙ ap Some (sym c.in_ok-atom.ensures)) c.in_ok-place.ensures.ok
