use Rattle.std.proofs.Common.{arith}
use Rattle.outside.proofs.TakenLines.{some_ahead}
use Rattle.outside.proofs.lines.Lines.is_at_end.Goals as goal

pub returns-then-ahead-gt0-clause-end : goal.returns-then-ahead-gt0-clause-end
returns-then-ahead-gt0-clause-end g c = some_ahead (g.F.Files.state c.args.files.now).told c.args.name.now c.args.self.now c.requires.ahead (omega arith)
