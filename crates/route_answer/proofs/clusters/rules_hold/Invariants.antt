use Rattle.std.proofs.Common.{◌≡◌, drop}
use Rattle.cfg_types.specs.HeaderRules.{headers_hold}
use Rattle.route_answer.proofs.clusters.rules_hold.Given as goal

abbrev pub invariant-loop-rule : goal.invariant-loop-rule
invariant-loop-rule l = headers_hold l.rules l.request ≡ headers_hold (drop l.rule-index l.rules) l.request
