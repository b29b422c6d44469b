use Rattle.std.proofs.Common.{rules, ap, ◌≡◌, ◌∙◌, ℕ, ◌++◌, length, take, drop, arith, length-take}
use Rattle.std.proofs.lemmas.List.{take-append-le}
use Rattle.outside.proofs.Parts.{begins_step}
use Rattle.outside.proofs.whole.read_pieces.Goals as goal

pub loop-bytes-preserved : goal.loop-bytes-preserved
loop-bytes-preserved g c =
    let read = c.in-Ok.ensures in
    let more = c.in_ok-extend_from_slice.ensures in
    let part : take c.in-Ok.count (c.read.new.buf ++ drop c.min-room.result c.loop-bytes.buf) ≡ take c.in-Ok.count c.read.new.buf = take-append-le c.in-Ok.count c.read.new.buf _ read.within in
    let at : c.len-in-loop-bytes-2.result ≡ length c.loop-bytes.bytes.items = search rules in
    record {
      front = begins_step _ _ _ _ _ _ _ _ c.loop-bytes.invariant.contents at (more.items ∙ ap (λ t. c.loop-bytes.bytes.items ++ t) part) read.within c.loop-bytes.invariant.front read.bytes;
      within = omega (arith, more.len, length-take {A = ℕ}, read.within, c.min-room.ensures);
      contents = read.contents ∙ c.loop-bytes.invariant.contents;
      names = λ other. read.names other ∙ c.loop-bytes.invariant.names other;
      count = read.cause.kept ∙ c.loop-bytes.invariant.count;
    }
