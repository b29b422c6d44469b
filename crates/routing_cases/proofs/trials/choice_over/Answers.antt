use Rattle.route_scan.specs.Starts.{ScanMeaning}
use Rattle.route_scan.proofs.Accepted.{paths_hold, same_count}
use Rattle.routing_cases.proofs.trials.choice_over.Goals as goal

pub choose-choice-requires-clause-size : goal.choose-choice-requires-clause-size
choose-choice-requires-clause-size c = same_count c.args.scan.now.table c.args.tests.now c.requires.tests

pub choose-choice-requires-clause-paths : goal.choose-choice-requires-clause-paths
choose-choice-requires-clause-paths c = λ r lt e. paths_hold c.args.scan.now.table c.args.tests.now c.args.request.now c.requires.tests r e
