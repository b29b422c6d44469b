use Rattle.std.proofs.Common.{◌≡◌, map, drop, slice_get}
use Rattle.std.specs.Prelude.{string_bytes}
use Rattle.std.specs.List.{filter}
use Rattle.check_core.specs.Words.{is_argument}
use Rattle.check_core.proofs.words.argument.Given as goal

abbrev pub invariant-loop-word : goal.invariant-loop-word
invariant-loop-word l =
    slice_get (filter is_argument (map string_bytes l.words)) l.number ≡ slice_get (filter is_argument (map string_bytes (drop l.word-index l.words))) l.left
