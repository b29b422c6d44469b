use Rattle.std.proofs.Common.{◌≡◌, ℕ, List, [], length, take, true, sym, ap, subst, ◌∙◌, arith}
use Rattle.std.proofs.Math.Seq.{take-length}
use Rattle.http_header.specs.HeaderMap.{remove}
use Rattle.http_header.specs.Token.{lowercase}
use Rattle.text_base.specs.Asked.{Bytes}
use Rattle.text_base.specs.Seen.{values}
use Rattle.cfg_types.specs.HeaderEdits.{without_names}
use Rattle.cfg_types.specs.Kinds.{is_edit_name}
use Rattle.head_edit.specs.Maps.{heads_of}
use Rattle.head_edit.proofs.NameValues.{values-without, same-without_more}
use Rattle.head_edit.proofs.MapHeads.{same-remove, size-remove, valid-remove}
use Rattle.head_edit.proofs.MapKinds.{edit_name_lowered}
use Rattle.head_edit.proofs.edits.remove_all.Goals as goal

pub loop-name-init : goal.loop-name-init
loop-name-init c = record {
  same = λ q. sym (values-without q [] (heads_of c.args.map.now));
  size = omega arith;
  valid = c.requires.valid;
}

pub loop-name-preserved : goal.loop-name-preserved
loop-name-preserved c =
    let names : List Bytes = c.args.names.now in
    let name : Bytes = c.name-item.result in
    let lawful : is_edit_name name ≡ true = subst (λ (n : Bytes). is_edit_name n ≡ true) (sym c.name-item.is) (c.requires.lawful c.loop-name.name-index name c.loop-name-test.true) in
    let after : c.remove.new.self ≡ remove c.loop-name.map name =
    c.remove.ensures.after ∙ ap (λ (n : Bytes). remove c.loop-name.map (lowercase n)) c.as_bytes.ensures ∙ ap (remove c.loop-name.map) (edit_name_lowered name lawful) in
    record {
      same = same-without_more names c.loop-name.name-index name (heads_of c.args.map.now) (heads_of c.loop-name.map) (heads_of c.remove.new.self) c.loop-name-test.true c.name-item.is c.loop-name.invariant.same
          (rw after (same-remove c.loop-name.map name c.loop-name.invariant.valid.unique));
      size = rw after (let before = c.loop-name.invariant.size in omega (arith, size-remove c.loop-name.map name));
      valid = rw after (valid-remove c.loop-name.map name c.loop-name.invariant.valid);
    }

pub returns-clause-after : goal.returns-clause-after
returns-clause-after c =
    let end : c.loop-name.name-index ≡ length c.args.names.now = omega arith in
    λ q.
    c.loop-name.invariant.same q
    ∙ ap (λ (n : ℕ). values q (without_names (take n c.args.names.now) (heads_of c.args.map.now))) end
    ∙ ap (λ (ns : List Bytes). values q (without_names ns (heads_of c.args.map.now))) (take-length c.args.names.now)
