use denote.Text.{Utf8}
use denote.Shadow.{shadow}
use Rattle.routing_cases.proofs.replies.all_hold.Given as goal

-- the configuration that the rows are asked of is text
abbrev pub invariant-loop-row : goal.invariant-loop-row
invariant-loop-row l =
    (goal.iterator-loop-row).can_next l.row-iterator ×
    (goal.iterator-loop-row).is_finite l.row-iterator ×
    shadow (Utf8 l.config)
