use Rattle.rx_build.proofs.RuleTerms.{text_law}
use Rattle.rx_build.proofs.rules.text_rule_law.Goals as goal

pub returns : goal.returns
returns c = text_law
