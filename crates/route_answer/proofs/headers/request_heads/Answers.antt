use Rattle.std.proofs.Common.{◌≡◌}
use Rattle.std.proofs.lemmas.Result.{IfOk-weaker}
use Rattle.text_base.specs.Heads.{heads, SameHeads}
use Rattle.text_base.specs.declared.request.Heads.{Heads}
use Rattle.cfg_types.specs.HeaderEdits.{edited_request}
use Rattle.head_edit.specs.Maps.{heads_of}
use Rattle.route_answer.specs.Levels.{pairs_of}
use Rattle.route_answer.proofs.LevelValues.{same-through}
use Rattle.route_answer.proofs.headers.request_heads.Goals as goal

pub returns : goal.returns
returns c =
    let levels = pairs_of c.args.levels.now in
    IfOk-weaker c.heads_from.result (λ (h : Heads). h.list ≡ heads_of c.edit_request.new.map) (λ (h : Heads). SameHeads h.list (edited_request levels (heads c.args.request.now)))
    (λ h e. same-through (λ l. l.request) levels h.list (heads_of c.edit_request.new.map) (heads_of c.in_ok-map.map) (heads c.args.request.now) e c.in_ok-edit_request.ensures c.in_ok-map.ensures.same)
    c.heads_from.ensures
