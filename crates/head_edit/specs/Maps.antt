-- What a map of headers holds, which headers can be put in one, and the front of a level's edits.
use Rattle.std.specs.Prelude.{ℕ, Bool, not, ◌&&◌, nat_le, List, length, map, take}
use Rattle.std.specs.List.{list_all}
use Rattle.http_header.specs.HeaderMap.{Entries, pairs}
use Rattle.http_header.specs.FieldValue.{FieldValue}
use Rattle.text_base.specs.Asked.{Bytes, Head}
use Rattle.text_base.specs.Alphabets.{is_token_byte, is_capital, is_printed}
use Rattle.text_base.specs.Requests.{some_of}
use Rattle.cfg_types.specs.declared.changes.Edits.{Edits}

-- the headers of a map by name and value: names in the map's order, the values of each name in theirs
abbrev pub heads_of : Entries FieldValue → List Head
heads_of m = map (λ p. (p.0, p.1.bytes)) (pairs m)

-- the name of a header in a map: a token in lower case of at most 1,024 bytes
abbrev pub is_map_name : Bytes → Bool
is_map_name n = nat_le (length n) 1024 && some_of (λ b. is_token_byte b && not (is_capital b)) n

-- a header that can be put in a map: such a name, and a value of printed bytes
abbrev pub is_map_head : Head → Bool
is_map_head h = is_map_name h.0 && list_all is_printed h.1

-- all removals of a level and its first n additions
abbrev pub first_edits : ℕ → Edits → Edits
first_edits n level = record { remove = level.remove; add = take n level.add }
