use Rattle.std.proofs.Common.{◌∙◌, arith, rules}
use Rattle.outside.proofs.TakenLines.{long_as, took_as, line_length_front}
use Rattle.outside.proofs.lines.Lines.next.Goals as goal

pub returns-then-limit-len-clause-long : goal.returns-then-limit-len-clause-long
returns-then-limit-len-clause-long g c _ =
    let here = c.loop-alloc.invariant in
    long_as (g.F.Files.state c.args.files.now).told c.args.name.now c.loop-alloc.self c.args.limit c.args.self.now.taken c.line_from-len.result here.taken c.line_from-len.ensures.place (omega arith) here.ahead

pub returns-then-len-ahead-clause-line : goal.returns-then-len-ahead-clause-line
returns-then-len-ahead-clause-line g c =
    let here = c.loop-alloc.invariant in
    let took = c.in_ok-take_line.ensures in
    (took_as (g.F.Files.state c.args.files.now).told c.args.name.now c.args.limit c.args.self.now.taken c.loop-alloc.self c.take_line.new.self c.in_ok-take_line.field-0.items c.line_from-len.result here.taken c.line_from-len.ensures.place
    (omega arith) (omega arith) took.line took.ahead took.taken here.ahead).0

pub returns-then-len-ahead-clause-ahead : goal.returns-then-len-ahead-clause-ahead
returns-then-len-ahead-clause-ahead g c =
    let here = c.loop-alloc.invariant in
    let took = c.in_ok-take_line.ensures in
    (took_as (g.F.Files.state c.args.files.now).told c.args.name.now c.args.limit c.args.self.now.taken c.loop-alloc.self c.take_line.new.self c.in_ok-take_line.field-0.items c.line_from-len.result here.taken c.line_from-len.ensures.place
    (omega arith) (omega arith) took.line took.ahead took.taken here.ahead).1

pub loop-alloc-preserved : goal.loop-alloc-preserved
loop-alloc-preserved g c =
    let here = c.loop-alloc.invariant in
    let more = c.in_ok-fill.ensures in
    let grown = line_length_front c.loop-alloc.self.ahead c.fill.new.self.ahead more.more in
    record {
      taken = more.taken ∙ here.taken;
      ahead = search rules;
      seen = omega (arith, grown, c.line_from-len.ensures.place);
      within = omega (arith, more.count, c.line_from-len.ensures.within);
      contents = more.contents ∙ here.contents;
      names = λ other. more.names other ∙ here.names other;
      count = more.cause.kept ∙ here.count;
    }
