use Rattle.std.proofs.Common.{◌≡◌}
use Rattle.std.proofs.lemmas.Result.{IfOk-weaker}
use Rattle.text_base.specs.Heads.{SameHeads}
use Rattle.text_base.specs.declared.request.Heads.{Heads}
use Rattle.cfg_types.specs.HeaderEdits.{edited_response}
use Rattle.head_edit.specs.Maps.{heads_of}
use Rattle.route_answer.specs.Levels.{pairs_of}
use Rattle.route_answer.proofs.LevelValues.{same-through}
use Rattle.route_answer.proofs.StartHeads.{heads_fit}
use Rattle.route_answer.proofs.headers.response_heads.Goals as goal

pub map_of-requires-clause-valid : goal.map_of-requires-clause-valid
map_of-requires-clause-valid c = rw c.as_slice.ensures (heads_fit c.args.response.now.list c.requires.heads c.requires.valid)

pub returns : goal.returns
returns c =
    let levels = pairs_of c.args.levels.now in
    let start : SameHeads (heads_of c.in_ok-map.map) c.args.response.now.list = rw c.as_slice.ensures at c.in_ok-map.ensures.same in
    IfOk-weaker c.heads_from.result (λ (h : Heads). h.list ≡ heads_of c.edit_response.new.map) (λ (h : Heads). SameHeads h.list (edited_response levels c.args.response.now.list))
    (λ h e. same-through (λ l. l.response) levels h.list (heads_of c.edit_response.new.map) (heads_of c.in_ok-map.map) c.args.response.now.list e c.in_ok-edit_response.ensures start)
    c.heads_from.ensures
