use Rattle.std.proofs.Common.{◌≡◌, ◌+◌, subst, refl, ap, arith, ◌∙◌}
use Rattle.match_tree.specs.Guards.{route_guards}
use Rattle.match_tree.specs.Told.{AddsGuards}
use Rattle.match_tree.proofs.GuardLists.{adds_route, rule_meant}
use Rattle.match_tree.proofs.guard.add_routes.Goals as goal

pub loop-preserved : goal.loop-preserved
loop-preserved c =
    let i = c.loop.invariant in
    record {
      next = grind (arith, c.checked_add.ensures, c.ok_or.ensures.value, c.in_ok-next.was);
      added = λ atoms rule r.
          adds_route atoms rule c.args.first c.loop.counter c.loop.next _ _ _ _ i.next (i.added atoms rule r) c.in_ok-push.ensures.ok
          (rule_meant atoms _ _ rule c.loop.next c.in_ok-formula.formula r c.in_ok-formula.ensures.0 c.in_ok-formula.ensures.1) refl;
    }

pub returns : goal.returns
returns c = λ atoms rule r.
    let i = c.loop.invariant in
    let all : c.loop.counter ≡ c.args.many = omega arith in
    (i.next ∙ ap (λ n. c.args.first + n) all, subst (λ n. AddsGuards atoms c.args.list.now c.loop.list (route_guards rule c.args.first n)) all (i.added atoms rule r))
