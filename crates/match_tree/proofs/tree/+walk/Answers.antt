use Rattle.std.proofs.Common.{◌≤◌, arith, ap, map, slice_get, sym, ◌∙◌, length, subst, Some, None}
use denote.Param.Weighed.{at_most}
use Rattle.match_tree.specs.Outcomes.{lent, step_outcome}
use Rattle.match_tree.proofs.tree.Step.TheLaws.{the_size}
use Rattle.match_tree.proofs.Least.{step_fits}
use Rattle.match_tree.proofs.Taken.{taken, left, get_mapped}
use Rattle.match_tree.proofs.tree.+walk.Goals as goal

pub walk_at-walk-requires : goal.walk_at-walk-requires
walk_at-walk-requires g t c κs within =
    let m = at_most (the_size g.row.I g.row.A g.I.laws g.A.laws) c.args.steps.now c.args.place c.index-steps-place.result c.requires.within in
    let e = ap (the_size g.row.I g.row.A g.I.laws g.A.laws) c.index-steps-place.is in
    (omega (arith, m, e, c.decreases), (within.0, (within.1, step_fits c.args.steps.now c.args.place c.index-steps-place.result c.args.scratch.now c.index-steps-place.is c.requires.within c.requires.room)))

pub walk_at-returns-clause-outcome : goal.walk_at-returns-clause-outcome
walk_at-returns-clause-outcome g t c =
    ap Some c.walk.ensures.outcome ∙ sym (get_mapped (step_outcome g.I.Input.sees c.args.request.now) c.args.steps.now c.args.place c.index-steps-place.result c.index-steps-place.is c.requires.within)

pub Matcher::walk-returns-then-place-steps-clause-outcome : goal.Matcher::walk-returns-then-place-steps-clause-outcome
Matcher::walk-returns-then-place-steps-clause-outcome g t c =
    let n = c.args.self.now in
    let e = c.walk_at.ensures.outcome ∙ ap (λ l. slice_get (map (step_outcome g.I.Input.sees c.args.request.now) l) c.place-place.result) c.as_slice-steps.ensures in
    sym (taken g.I.Input.sees c.args.request.now n c.place-place.result (lent c.walk_at.result) c.place-place.ensures.place e)

pub Matcher::walk-returns-in-Some-clause-outcome : goal.Matcher::walk-returns-in-Some-clause-outcome
Matcher::walk-returns-in-Some-clause-outcome g t c =
    let n = c.args.self.now in
    let past : length n.steps ≤ c.place-place.result = subst (λ l. length l ≤ c.place-place.result) c.as_slice-steps.ensures (omega (arith, c.if-place-steps.false)) in
    c.walk.ensures.outcome ∙ sym (left g.I.Input.sees c.args.request.now n c.place-place.result (Some c.in-Some.step) c.place-place.ensures.place past c.in-Some.is)

pub Matcher::walk-returns-in-None-clause-outcome : goal.Matcher::walk-returns-in-None-clause-outcome
Matcher::walk-returns-in-None-clause-outcome g t c =
    let n = c.args.self.now in
    let past : length n.steps ≤ c.place-place.result = subst (λ l. length l ≤ c.place-place.result) c.as_slice-steps.ensures (omega (arith, c.if-place-steps.false)) in
    sym (left g.I.Input.sees c.args.request.now n c.place-place.result None c.place-place.ensures.place past c.in-None.is)
