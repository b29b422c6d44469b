use Rattle.std.proofs.Common.{◌≡◌, map, drop}
use Rattle.std.specs.Prelude.{string_bytes}
use Rattle.check_core.specs.Words.{option_number, first_number}
use Rattle.check_core.proofs.words.first_option.Given as goal

abbrev pub invariant-loop-word : goal.invariant-loop-word
invariant-loop-word l =
    first_number (option_number l.name l.least l.most) l.default (map string_bytes l.words) ≡ first_number (option_number l.name l.least l.most) l.default (map string_bytes (drop l.word-index l.words))
