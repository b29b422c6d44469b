-- What tests of texts mean: the rules that they were built from, and the room that they need.
use Rattle.std.specs.Prelude.{ℕ}
use Rattle.text_base.specs.Asked.{Bytes}
use Rattle.rx_auto.specs.Node.{term_at}
use Rattle.rx_auto.specs.Table.{TableMeaning}
use Rattle.cfg_types.specs.declared.rules.Pattern.{Pattern}
use Rattle.cfg_types.specs.declared.rules.TextRule.{TextRule}

pub record PatternMeaning : Type 0 where
  pub pattern : Pattern
  pub room : ℕ

-- the pattern of a text and the term that stands first in its table, and the table's room
abbrev pub meaning_of : Bytes → TableMeaning → PatternMeaning
meaning_of text table = record { pattern = record { text = text; term = term_at table.terms 0 }; room = table.room }

pub record TextMeaning : Type 0 where
  pub rule : TextRule
  pub room : ℕ
