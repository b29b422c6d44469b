use Rattle.std.proofs.Common.{sym, ◌∙◌}
use Rattle.cert_check.proofs.Refuting.{refutes_no_rest, read_refutes, refutes_read, refuted, told, implied, refused}
use Rattle.cert_check.proofs.nodes.nodes_refute.Goals as goal

pub returns-then-has_unfinished-clause-exact : goal.returns-then-has_unfinished-clause-exact
returns-then-has_unfinished-clause-exact c = refused (refutes_no_rest c.args.goal.now 0 c.args.nodes.now (sym c.has_unfinished.ensures ∙ c.if-has_unfinished.true))

pub returns-clause-exact : goal.returns-clause-exact
returns-clause-exact c =
    told c.reads.result c.reads.ensures (read_refutes c.args.goal.now 0 c.args.nodes.now (sym c.has_unfinished.ensures ∙ c.if-has_unfinished.false)) (refutes_read c.args.goal.now 0 c.args.nodes.now)

pub returns-clause-sound : goal.returns-clause-sound
returns-clause-sound c =
    implied c.reads.result c.reads.ensures (λ h. refuted c.args.goal.now c.args.nodes.now (read_refutes c.args.goal.now 0 c.args.nodes.now (sym c.has_unfinished.ensures ∙ c.if-has_unfinished.false) h))
