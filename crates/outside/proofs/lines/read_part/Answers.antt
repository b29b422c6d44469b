use Rattle.outside.proofs.TakenLines.{reads_longer}
use Rattle.outside.proofs.lines.read_part.Goals as goal

pub returns-clause-bytes : goal.returns-clause-bytes
returns-clause-bytes g c =
    let read = c.in-Ok.ensures in
    reads_longer (g.F.Files.state c.args.files.now).told c.args.name.now c.args.from c.in-Ok.count c.read.new.buf _ read.within read.bytes
