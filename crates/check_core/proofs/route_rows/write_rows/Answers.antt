use Rattle.std.proofs.Common.{refl, ◌∙◌}
use Rattle.check_core.proofs.RowsWritten.{none_written, one_more, stopped, failed}
use Rattle.check_core.proofs.route_rows.write_rows.Goals as goal

pub returns-in_err-shared : goal.returns-in_err-shared
returns-in_err-shared g c =
    stopped c.args.config.now c.args.budgets (g.K.Sink.state c.args.out.now) (g.K.Sink.state c.args.out.now) 0 c.none-counts.result _ c.from_residual.ensures refl
    (none_written c.args.config.now c.args.budgets _ c.none-counts.result c.none-counts.ensures)

pub returns-in_err-row : goal.returns-in_err-row
returns-in_err-row g c = stopped _ _ _ _ _ _ _ c.from_residual-in_err-row.ensures c.loop-route.invariant.count c.loop-route.invariant.written

pub returns-in_err-line : goal.returns-in_err-line
returns-in_err-line g c = stopped _ _ _ _ _ _ _ c.from_residual-in_err-line.ensures c.loop-route.invariant.count c.loop-route.invariant.written

pub returns-in_err-write_whole : goal.returns-in_err-write_whole
returns-in_err-write_whole g c =
    failed _ _ _ _ _ _ _ _ _ _ _ c.from_residual-in_err-write_whole.ensures c.loop-route.invariant.count c.loop-route.invariant.written
    c.in_ok-row.ensures.row (c.deref.ensures.value ∙ c.in_ok-line.ensures.line) c.in_err-write_whole.ensures

pub loop-route-preserved : goal.loop-route-preserved
loop-route-preserved g c =
    record {
      written =
          one_more _ _ _ _ _ _ _ _ _ _ c.loop-route.invariant.written c.in_ok-row.ensures.row (c.deref.ensures.value ∙ c.in_ok-line.ensures.line)
          c.in_ok-write_whole.ensures.ok c.with-counts.ensures;
      kept = c.in_ok-row.ensures.kept;
      count = c.in_ok-write_whole.ensures.cause.kept ∙ c.loop-route.invariant.count;
    }
