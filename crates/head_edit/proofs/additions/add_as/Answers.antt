use Rattle.std.proofs.Common.{refl}
use Rattle.std.proofs.lemmas.Bool.{false≢true}
use Rattle.head_edit.proofs.MapHeads.{has-contained, has-not_contained}
use Rattle.head_edit.proofs.additions.add_as.Goals as goal

pub returns-in-IfAbsent-clause-ok : goal.returns-in-IfAbsent-clause-ok
returns-in-IfAbsent-clause-ok c =
    let has = has-contained c.args.map.now c.args.name c.requires.valid (c.if-there.ensures.0 refl) in
    rw (c.in-IfAbsent.is, has) (λ q. refl)

pub returns-in-IfAbsent-2-clause-ok : goal.returns-in-IfAbsent-2-clause-ok
returns-in-IfAbsent-2-clause-ok c =
    let has = has-not_contained c.args.map.now c.args.name c.requires.valid (λ k. false≢true (c.if-there.ensures.1 k)) in
    rw (c.in-IfAbsent-2.is, has) c.append-in-IfAbsent-2.ensures.ok

pub returns-in-OverwriteIfThere-clause-ok : goal.returns-in-OverwriteIfThere-clause-ok
returns-in-OverwriteIfThere-clause-ok c =
    let has = has-contained c.args.map.now c.args.name c.requires.valid (c.if-there-2.ensures.0 refl) in
    rw (c.in-OverwriteIfThere.is, has) c.overwrite-in-OverwriteIfThere.ensures.ok

pub returns-in-OverwriteIfThere-2-clause-ok : goal.returns-in-OverwriteIfThere-2-clause-ok
returns-in-OverwriteIfThere-2-clause-ok c =
    let has = has-not_contained c.args.map.now c.args.name c.requires.valid (λ k. false≢true (c.if-there-2.ensures.1 k)) in
    rw (c.in-OverwriteIfThere-2.is, has) (λ q. refl)
