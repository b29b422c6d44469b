-- The host text of an authority, and when the text of a domain matches it.
use Rattle.std.specs.Prelude.{◌-◌, Bool, true, not, ◌&&◌, ◌==◌, nat_lt, if◌then◌else◌, [], ◌∷◌, length, take, drop, bytes_eq}
use Rattle.std.specs.List.{before_last, after_last}
use Rattle.std.specs.Str.{str_eq_ignore_ascii_case}
use Rattle.text_base.specs.Asked.{Bytes}
use Rattle.text_base.specs.Forms.{begins, ends}
use Rattle.text_base.specs.Seen.{has_byte}

-- a port stands behind the last `:`, where no `]` follows that `:`
abbrev pub has_port : Bytes → Bool
has_port a = has_byte 58 a && not (has_byte 93 (after_last (λ b. b == 58) a))

-- the authority, without its last `:` and what follows where ports are ignored
abbrev pub host_text : Bool → Bytes → Bytes
host_text ignore_port a = if ignore_port && has_port a then before_last (λ b. b == 58) a else a

-- an exact domain, its letter case ignored
abbrev pub exact_matches : Bytes → Bytes → Bool
exact_matches w t = str_eq_ignore_ascii_case t w

-- a suffix wildcard, by its text: the end of the host text, with one byte or more in front
abbrev pub suffix_matches : Bytes → Bytes → Bool
suffix_matches w t = nat_lt (length w) (length t) && str_eq_ignore_ascii_case (drop (length t - length w) t) w

-- a prefix wildcard, by its text: the front of the host text, with one byte or more behind
abbrev pub prefix_matches : Bytes → Bytes → Bool
prefix_matches w t = nat_lt (length w) (length t) && str_eq_ignore_ascii_case (take (length w) t) w

-- a domain as it is written, with its `*`, matches the host text
abbrev pub written_matches : Bytes → Bytes → Bool
written_matches d t =
    if bytes_eq d (42 ∷ []) then true
    else if begins d (42 ∷ []) then suffix_matches (drop 1 d) t
    else if ends d (42 ∷ []) then prefix_matches (take (length d - 1) d) t
    else exact_matches d t
