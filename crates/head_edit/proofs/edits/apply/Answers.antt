use Rattle.std.proofs.Common.{List, take, arith}
use Rattle.std.specs.List.{fold}
use Rattle.std.proofs.lemmas.Result.{on_ok_weaker, on_err_weaker}
use Rattle.text_base.specs.Asked.{Head}
use Rattle.text_base.specs.Heads.{SameHeads}
use Rattle.cfg_types.specs.HeaderEdits.{added, without_names}
use Rattle.head_edit.specs.Maps.{heads_of}
use Rattle.head_edit.proofs.MapHeads.{count-heads_of}
use Rattle.head_edit.proofs.NameValues.{same-trans, same-fold}
use Rattle.head_edit.proofs.edits.apply.Goals as goal

pub prove-unreachable-requires : goal.prove-unreachable-requires
prove-unreachable-requires c = omega (arith, count-heads_of c.args.map.now, c.len-count.ensures.value)

pub returns-clause-ok : goal.returns-clause-ok
returns-clause-ok c =
    let level = c.args.level.now in
    let start : List Head = without_names level.remove (heads_of c.args.map.now) in
    let mid : List Head = heads_of c.remove_all.new.map in
    let removed : SameHeads mid start = rw c.as_slice.ensures at c.remove_all.ensures.after in
    on_ok_weaker c.add_all.result
    (λ t. same-trans (heads_of c.add_all.new.map) (fold added mid level.add) (fold added start level.add) t (same-fold level.add mid start removed))
    (rw c.as_slice-2.ensures at c.add_all.ensures.ok)

pub returns-clause-err : goal.returns-clause-err
returns-clause-err c =
    let level = c.args.level.now in
    let start : List Head = without_names level.remove (heads_of c.args.map.now) in
    let mid : List Head = heads_of c.remove_all.new.map in
    let removed : SameHeads mid start = rw c.as_slice.ensures at c.remove_all.ensures.after in
    on_err_weaker c.add_all.result
    (λ (n, l, t). (n, l, same-trans (heads_of c.add_all.new.map) (fold added mid (take n level.add)) (fold added start (take n level.add)) t (same-fold (take n level.add) mid start removed)))
    (rw c.as_slice-2.ensures at c.add_all.ensures.err)
