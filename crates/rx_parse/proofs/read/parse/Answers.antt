use Rattle.std.proofs.Common.{◌≡◌, length, Err, sym, ◌∙◌, ap, subst, arith}
use Rattle.rx_parse.specs.Answer.{Tells}
use Rattle.rx_parse.proofs.Reading.{HasCome, come_none, come_stop, come_end, told, tells_right}
use Rattle.rx_parse.proofs.read.parse.Goals as goal

pub loop-at-init : goal.loop-at-init
loop-at-init c = come_none c.args.text.now c.new-reader.result c.new-reader.ensures

pub returns-in_default-clause-right : goal.returns-in_default-clause-right
returns-in_default-clause-right c =
    let w = c.args.text.now in
    let e = come_stop w c.loop-at.at c.loop-at.reader c.loop-at-test.true c.loop-at.invariant (sym c.in_ok-next.ensures ∙ c.in_default.is) in
    told w (Err c.fault_at.result) (e ∙ ap Err (sym c.fault_at.ensures))

pub returns-clause-right : goal.returns-clause-right
returns-clause-right c =
    let w = c.args.text.now in
    let r = c.loop-at.reader in
    let i : c.loop-at.at ≡ length w = omega arith in
    let e = come_end w r (subst (λ n. HasCome w n r) i c.loop-at.invariant) in
    tells_right w c.end.result (subst (Tells c.end.result) (sym e) c.end.ensures)
