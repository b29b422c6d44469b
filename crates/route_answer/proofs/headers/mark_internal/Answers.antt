use Rattle.route_answer.proofs.headers.mark_internal.Goals as goal

pub returns-then-internal-clause-same : goal.returns-then-internal-clause-same
returns-then-internal-clause-same c = rw c.if-internal.true (rw (c.as_slice.ensures, c.as_slice-then-internal.ensures) at c.add_head.ensures.ok)
