use Rattle.std.proofs.Common.{Some, ◌∙◌, ap}
use Rattle.rx_parse.specs.declared.place.Place.TheVariants.{Atomic}
use Rattle.rx_parse.specs.Answer.{frame_made}
use Rattle.rx_parse.proofs.Exact.{left_is_last}
use Rattle.rx_parse.proofs.reader.Reader.close.Goals as goal

pub returns : goal.returns
returns c =
    ap (λ t. Some (record c.args.self { outer = c.pop.new.self; top = t; pending = c.in_ok-self.field-0; place = Atomic })) c.replace-group.ensures.after
    ∙ left_is_last c.args.self c.args.self.outer c.pop.new.self c.in-Some.above c.in_ok-self.field-0 c.in-Some.ensures (c.in_ok-self.ensures ∙ ap frame_made c.replace-group.ensures.value)
