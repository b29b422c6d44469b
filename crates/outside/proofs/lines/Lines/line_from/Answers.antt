use Rattle.std.proofs.Common.{◌≡◌, ◌+◌, ◌∙◌, drop, ap, rules}
use Rattle.outside.specs.Lines.{line_length}
use Rattle.outside.proofs.TakenLines.{line_length_seen, rest_of}
use Rattle.outside.proofs.lines.Lines.line_from.Goals as goal

pub returns-clause-place : goal.returns-clause-place
returns-clause-place c =
    let ahead : c.args.self.now.ahead ≡ drop c.self.inside.from c.deref.result.now = search rules in
    ap (λ n. c.args.seen + n) (c.line_end.ensures.place ∙ ap line_length (rest_of c.self.inside.from c.args.seen c.deref.result.now c.args.self.now.ahead ahead)) ∙ line_length_seen c.args.self.now.ahead c.args.seen c.requires.seen
