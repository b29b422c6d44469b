use Rattle.std.proofs.Common.{◌≡◌, ◌+◌, ◌++◌, ◌≤◌, ◌∙◌, ap, length, take, drop, rules, vec_len}
use Rattle.outside.proofs.TakenLines.{grown, filled_as, ended_as, part_of}
use Rattle.outside.proofs.lines.Lines.fill.Goals as goal

pub returns-clause-more : goal.returns-clause-more
returns-clause-more g c =
    let ahead : c.args.self.now.ahead ≡ drop c.self.inside.from c.self.inside.bytes.items = search rules in
    let within : c.self.inside.from ≤ length c.self.inside.bytes.items = search rules in
    let fit : c.in_ok-count.count ≤ vec_len c.self.inside.buf = search rules in
    let part : take c.in_ok-count.count c.deref.result.now ≡ take c.in_ok-count.count c.read_part.new.buf = ap (take c.in_ok-count.count) c.deref.ensures.value ∙ part_of c.in_ok-count.count (vec_len c.self.inside.buf) c.read_part.new.buf _ c.in_ok-count.ensures.within fit in
    let more = grown c.self.inside.from c.in_ok-count.count c.self.inside.bytes.items c.args.self.now.ahead c.read_part.new.buf c.extend_from_slice.new.self.items within ahead
    (c.in_ok-extend_from_slice.ensures.items ∙ ap (λ t. c.self.inside.bytes.items ++ t) part) in
    (take c.in_ok-count.count c.read_part.new.buf, more)

pub returns-clause-ahead : goal.returns-clause-ahead
returns-clause-ahead g c =
    let ahead : c.args.self.now.ahead ≡ drop c.self.inside.from c.self.inside.bytes.items = search rules in
    let within : c.self.inside.from ≤ length c.self.inside.bytes.items = search rules in
    let fit : c.in_ok-count.count ≤ vec_len c.self.inside.buf = search rules in
    let part : take c.in_ok-count.count c.deref.result.now ≡ take c.in_ok-count.count c.read_part.new.buf = ap (take c.in_ok-count.count) c.deref.ensures.value ∙ part_of c.in_ok-count.count (vec_len c.self.inside.buf) c.read_part.new.buf _ c.in_ok-count.ensures.within fit in
    let more = grown c.self.inside.from c.in_ok-count.count c.self.inside.bytes.items c.args.self.now.ahead c.read_part.new.buf c.extend_from_slice.new.self.items within ahead
    (c.in_ok-extend_from_slice.ensures.items ∙ ap (λ t. c.self.inside.bytes.items ++ t) part) in
    let taken : c.self.inside.taken ≡ c.args.self.now.taken = search rules in
    let place : c.in-Some.from ≡ c.args.self.now.taken + length c.args.self.now.ahead = search rules in
    filled_as (g.F.Files.state c.args.files.now).told c.args.name.now c.args.self.now c.in_ok-count.count c.in-Some.from c.self.inside.taken c.read_part.new.buf _ taken more place c.requires.ahead
    c.in_ok-count.ensures.bytes

pub returns-clause-end : goal.returns-clause-end
returns-clause-end g c =
    let place : c.in-Some.from ≡ c.args.self.now.taken + length c.args.self.now.ahead = search rules in
    ended_as (g.F.Files.state c.args.files.now).told c.args.name.now c.args.self.now c.in_ok-count.count c.in-Some.from c.read_part.new.buf place c.requires.ahead c.in_ok-count.ensures.bytes
