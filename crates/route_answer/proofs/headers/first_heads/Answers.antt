use Rattle.std.proofs.Common.{[], ◌∷◌, ◌++◌}
use Rattle.text_base.specs.Heads.{proto_head, internal_heads, SameHeads}
use Rattle.head_edit.specs.Maps.{heads_of}
use Rattle.route_answer.proofs.StartHeads.{heads_fit, valid_headers, same-start}
use Rattle.route_answer.proofs.headers.first_heads.Goals as goal

pub add_heads-requires-clause-valid : goal.add_heads-requires-clause-valid
add_heads-requires-clause-valid c =
    rw (c.as_slice-2.ensures, c.parts-parts.ensures.same) (heads_fit c.args.request.now.headers c.requires (valid_headers c.args.request.now c.parts-parts.ensures.valid))

pub returns-clause-same : goal.returns-clause-same
returns-clause-same c =
    let q = c.args.request.now in
    let one : SameHeads (heads_of c.add_head.new.map) (proto_head q.https ∷ []) =
    rw (c.as_slice.ensures, c.proto_of-proto.ensures, c.parts-parts.ensures.same, c.new-map.ensures) at c.in_ok-add_head.ensures.ok in
    let two : SameHeads (heads_of c.mark_internal.new.map) (heads_of c.add_head.new.map ++ internal_heads q.internal) =
    rw c.parts-parts.ensures.same at c.in_ok-mark_internal.ensures.same in
    let three : SameHeads (heads_of c.add_heads.new.map) (heads_of c.mark_internal.new.map ++ q.headers) =
    rw (c.as_slice-2.ensures, c.parts-parts.ensures.same) at c.in_ok-add_heads.ensures.ok in
    same-start q (heads_of c.add_head.new.map) (heads_of c.mark_internal.new.map) (heads_of c.add_heads.new.map) one two three
