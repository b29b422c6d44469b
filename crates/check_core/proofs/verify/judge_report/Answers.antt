use Rattle.std.proofs.Common.{◌≡◌, ◌<◌, ◌+◌, ℕ, length, true, false, refl, ◌∙◌, subst, rules}
use Rattle.cfg_types.specs.Order.{routes}
use Rattle.check_core.specs.Verdicts.{IsVerdictOn}
use Rattle.check_core.specs.declared.verify.Verdict.TheVariants.{Accepted, Rejected}
use Rattle.check_core.proofs.Judged.{none_judged, none_ahead, long_handed, is_row, no_row, one_more, wrong, cut, long, more, done}
use Rattle.check_core.proofs.verify.judge_report.Goals as goal

pub loop-route-init : goal.loop-route-init
loop-route-init g c = record {
  judged = none_judged c.args.config.now (g.F.Files.state c.args.files.now).told c.args.name.now c.in_ok-lines.lines.taken c.in_ok-lines.ensures.0;
  ahead = none_ahead (g.F.Files.state c.args.files.now).told c.args.name.now c.in_ok-lines.lines.taken c.in_ok-lines.lines.ahead c.in_ok-lines.ensures.1;
  kept = c.new-goals.ensures c.args.config.now;
  contents = refl;
  names = λ other. refl;
  count = refl;
}

pub returns-in_err-line-clause-long : goal.returns-in_err-line-clause-long
returns-in_err-line-clause-long g c =
    let inv = c.loop-route.invariant in
    let lt : c.loop-route.route < length (routes c.args.config.now) = search rules in
    long_handed _ _ _ c.from_residual-in_err-line.ensures (λ e. long c.args.config.now (g.F.Files.state c.args.files.now).told c.args.name.now c.loop-route.route c.loop-route.lines.taken inv.judged lt (rw inv.contents at c.in_err-line.ensures.long e))

pub returns-in_default-clause-judged : goal.returns-in_default-clause-judged
returns-in_default-clause-judged g c =
    let inv = c.loop-route.invariant in
    let lt : c.loop-route.route < length (routes c.args.config.now) = search rules in
    cut c.args.config.now (g.F.Files.state c.args.files.now).told c.args.name.now c.loop-route.route c.loop-route.lines.taken inv.judged lt (rw (c.in_default.is, inv.contents) at c.in_ok-line.ensures.none)

pub returns-then-not-branch-clause-judged : goal.returns-then-not-branch-clause-judged
returns-then-not-branch-clause-judged g c =
    let inv = c.loop-route.invariant in
    let lt : c.loop-route.route < length (routes c.args.config.now) = search rules in
    let no : c.in_ok-is_lawful_line.field-0 ≡ false = search rules in
    wrong c.args.config.now (g.F.Files.state c.args.files.now).told c.args.name.now c.loop-route.route c.loop-route.lines.taken inv.judged c.next.new.self.taken c.in-Some.line.items lt
    (no_row c.args.config.now c.loop-route.route c.in-Some.line.items c.deref.result.now c.in_ok-is_lawful_line.field-0 c.deref.ensures.value no c.in_ok-is_lawful_line.ensures.exact)
    (rw (c.in-Some.is, inv.contents) at c.in_ok-line.ensures.line)

pub loop-route-preserved : goal.loop-route-preserved
loop-route-preserved g c =
    let inv = c.loop-route.invariant in
    let said : c.in_ok-is_lawful_line.field-0 ≡ true = search rules in
    record {
      judged =
          one_more c.args.config.now (g.F.Files.state c.args.files.now).told c.args.name.now c.loop-route.route c.loop-route.lines.taken inv.judged c.next.new.self.taken c.in-Some.line.items
          (is_row c.args.config.now c.loop-route.route c.in-Some.line.items c.deref.result.now c.in_ok-is_lawful_line.field-0 c.deref.ensures.value said c.in_ok-is_lawful_line.ensures.exact)
          (rw (c.in-Some.is, inv.contents) at c.in_ok-line.ensures.line);
      ahead = rw inv.contents at c.in_ok-line.ensures.ahead;
      kept = c.in_ok-is_lawful_line.ensures.kept;
      contents = c.in_ok-line.ensures.contents ∙ inv.contents;
      names = λ other. c.in_ok-line.ensures.names other ∙ inv.names other;
      count = c.in_ok-line.ensures.cause.kept ∙ inv.count;
    }

pub returns-then-branch-clause-judged : goal.returns-then-branch-clause-judged
returns-then-branch-clause-judged g c =
    let inv = c.loop-route.invariant in
    let last : c.loop-route.route ≡ c.route_count-count.result = search rules in
    let end : c.in_ok-is_at_end.field-0 ≡ true = search rules in
    subst (λ (n : ℕ). IsVerdictOn c.args.config.now (g.F.Files.state c.args.files.now).told c.args.name.now (Accepted n)) last
    (done c.args.config.now (g.F.Files.state c.args.files.now).told c.args.name.now c.loop-route.route c.loop-route.lines.taken inv.judged (last ∙ c.route_count-count.ensures) (rw (end, inv.contents) at c.in_ok-is_at_end.ensures.end))

pub returns-clause-judged : goal.returns-clause-judged
returns-clause-judged g c =
    let inv = c.loop-route.invariant in
    let last : c.loop-route.route ≡ c.route_count-count.result = search rules in
    let end : c.in_ok-is_at_end.field-0 ≡ false = search rules in
    subst (λ (n : ℕ). IsVerdictOn c.args.config.now (g.F.Files.state c.args.files.now).told c.args.name.now (Rejected (n + 1))) last
    (more c.args.config.now (g.F.Files.state c.args.files.now).told c.args.name.now c.loop-route.route c.loop-route.lines.taken inv.judged (last ∙ c.route_count-count.ensures) (rw (end, inv.contents) at c.in_ok-is_at_end.ensures.end))
