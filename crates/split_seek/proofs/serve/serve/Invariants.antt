use Rattle.std.proofs.Common.{◌≡◌, take}
use Rattle.split_seek.specs.Serving.{IsDraft, is_among}
use Rattle.split_seek.proofs.serve.serve.Given as goal

abbrev pub invariant-loop-field : goal.invariant-loop-field
invariant-loop-field l = record {
  draft : IsDraft l.goal l.cap l.path (λ f. is_among f (take l.field-index l.list)) l.draft.texts l.draft.full;
  hints : l.hints ≡ l.fn.hints;
}
