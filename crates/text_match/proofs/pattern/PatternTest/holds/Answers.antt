use Rattle.rx_auto.specs.Node.{term_at}
use Rattle.text_match.proofs.Languages.{is_member}
use Rattle.text_match.proofs.pattern.PatternTest.holds.Goals as goal

pub returns-clause-answer : goal.returns-clause-answer
returns-clause-answer c =
    rw (← c.self.view_is) (is_member (term_at c.self.inside.table.terms 0) c.args.text.now c.matches.result c.matches.ensures.is_in)
