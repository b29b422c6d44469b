-- Bytes are read as text first.
use Rattle.std.proofs.Common.{◌≡◌, ℕ, List, [], Bool, true, false, cond, Some, None, Ok, refl}
use Rattle.std.specs.Str.{is_utf8, IsUtf8}
use Rattle.std.proofs.lemmas.Str.{IsUtf8-from_is_utf8, is_utf8-from_IsUtf8}
use Rattle.serde_json.specs.Data.{Data}
use Rattle.serde_json.specs.Read.{read}
use Rattle.json_walk.specs.declared.refusal.Kind.TheVariants.{Syntax}
use Rattle.json_walk.specs.Outcome.{offence, or_offence}
use Rattle.json_walk.specs.Bytes.{value_at}

pub is_value : (bytes : List ℕ) (d : Data) → IsUtf8 bytes × (read bytes ≡ Some d) → value_at bytes ≡ Ok d
unfolding value_at
is_value bytes d h = rw (is_utf8-from_IsUtf8 bytes h.0, h.1) refl

none_by : (bytes : List ℕ) (b : Bool) → is_utf8 bytes ≡ b → (IsUtf8 bytes → read bytes ≡ None) → cond b (or_offence [] Syntax (read bytes)) (offence [] Syntax) ≡ offence {A = Data} [] Syntax
none_by bytes true e h = rw (h (IsUtf8-from_is_utf8 bytes e)) refl
none_by bytes false e h = refl

pub is_none : (bytes : List ℕ) → (IsUtf8 bytes → read bytes ≡ None) → value_at bytes ≡ offence [] Syntax
unfolding value_at
is_none bytes h = none_by bytes (is_utf8 bytes) refl h
