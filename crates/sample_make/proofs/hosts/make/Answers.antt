use Rattle.std.proofs.Common.{rules, ◌≡◌, ◌++◌, ◌∷◌, [], arith, sym, ◌∙◌, ap}
use Rattle.std.proofs.lemmas.List.FromFn.{map-range_with_len_more}
use Rattle.sample_make.specs.Samples.{sample_host}
use Rattle.sample_make.proofs.hosts.make.Goals as goal

pub loop-number-preserved : goal.loop-number-preserved
loop-number-preserved c =
    let n = c.loop-number.number in
    let e = map-range_with_len_more sample_host 0 n n (omega arith) in
    let p : c.push.new.self ≡ c.loop-number.hosts ++ sample_host n ∷ [] = search rules in
    p ∙ ap (λ hs. hs ++ sample_host n ∷ []) c.loop-number.invariant ∙ sym e
