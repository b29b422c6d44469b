use Rattle.std.proofs.Common.{arith}
use Rattle.head_edit.specs.Maps.{heads_of}
use Rattle.route_answer.specs.Levels.{pairs_of}
use Rattle.route_answer.proofs.LevelValues.{few_pairs, pair_at, lawful_at, same-next}
use Rattle.route_answer.proofs.headers.edit_request.Goals as goal

pub apply-requires-clause-lawful : goal.apply-requires-clause-lawful
apply-requires-clause-lawful c =
    (lawful_at c.args.levels.now c.loop-level.level-index c.level-item.result c.requires.lawful c.loop-level-test.true c.level-item.is).request

pub loop-level-preserved : goal.loop-level-preserved
loop-level-preserved c =
    let lawful = lawful_at c.args.levels.now c.loop-level.level-index c.level-item.result c.requires.lawful c.loop-level-test.true c.level-item.is in
    record {
      same = same-next (λ l. l.request) (pairs_of c.args.levels.now) c.loop-level.level-index c.level-item.result.now (heads_of c.args.map.now) (heads_of c.loop-level.map) (heads_of c.apply.new.map)
          (few_pairs c.args.levels.now c.loop-level.level-index c.loop-level-test.true) (pair_at c.args.levels.now c.loop-level.level-index c.level-item.result c.loop-level-test.true c.level-item.is)
          c.loop-level.invariant.same c.in_ok-apply.ensures.ok;
      size = let few = lawful.request.few_added in let before = c.loop-level.invariant.size in let more = c.apply.ensures.size in omega arith;
    }
