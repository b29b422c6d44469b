use Rattle.check_core.proofs.top.run_call.Goals as goal

pub check-requires : goal.check-requires
check-requires g c name due = c.requires.admitted name (rw c.in-Check.is due)

pub verify-requires : goal.verify-requires
verify-requires g c name due = c.requires.admitted name (rw c.in-Verify.is due)

pub returns-in-Sample-clause-kept : goal.returns-in-Sample-clause-kept
returns-in-Sample-clause-kept g c = c.sample.ensures.kept (g.F.Files.state c.args.files.now)
