use Rattle.std.proofs.Common.{◌≡◌, ◌++◌, drop, take, map, string_bytes}
use Rattle.std.specs.Prelude.{All}
use Rattle.serde_json.specs.View.{items_of}
use Rattle.serde_json.specs.Written.{compact_text, items_text}
use Rattle.cert_rows.specs.Shapes.{IsTypedWord}
use Rattle.cert_rows.specs.Values.{word_value, words_value}
use Rattle.cert_rows.proofs.words.push_words.Given as goal

abbrev pub invariant-loop-word : goal.invariant-loop-word
invariant-loop-word l = record {
  written : string_bytes l.text ++ items_text l.later (items_of (map word_value (drop l.word-index l.words))) ≡ string_bytes l.fn.text ++ compact_text (words_value l.words);
  typed : All IsTypedWord (take l.word-index l.words);
}
