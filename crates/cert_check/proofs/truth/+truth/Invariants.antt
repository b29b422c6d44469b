use Rattle.std.proofs.Common.{◌≡◌, map, drop}
use Rattle.std.specs.List.{list_all, list_any}
use Rattle.text_base.specs.Seen.{seen}
use Rattle.goal_form.specs.Formulas.{truth_at}
use Rattle.goal_form.specs.Goals.{truths}
use Rattle.cert_check.proofs.truth.+truth.Given as goal

abbrev pub invariant-all_hold-loop-member : goal.invariant-all_hold-loop-member
invariant-all_hold-loop-member l = record {
  room : l.scratch ≡ l.fn.scratch;
  left : list_all (λ t. t) (map (truth_at (truths (seen l.request) l.atoms)) l.members) ≡ list_all (λ t. t) (map (truth_at (truths (seen l.request) l.atoms)) (drop l.member-index l.members));
}

abbrev pub invariant-any_holds-loop-member : goal.invariant-any_holds-loop-member
invariant-any_holds-loop-member l = record {
  room : l.scratch ≡ l.fn.scratch;
  left : list_any (λ t. t) (map (truth_at (truths (seen l.request) l.atoms)) l.members) ≡ list_any (λ t. t) (map (truth_at (truths (seen l.request) l.atoms)) (drop l.member-index l.members));
}
