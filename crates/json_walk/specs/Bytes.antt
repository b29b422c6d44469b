-- The JSON value that bytes are.
use Rattle.std.specs.Prelude.{ℕ, List, [], if◌then◌else◌}
use Rattle.std.specs.Str.{is_utf8}
use Rattle.serde_json.specs.Data.{Data}
use Rattle.serde_json.specs.Read.{read}
use Rattle.json_walk.specs.declared.refusal.Kind.TheVariants.{Syntax}
use Rattle.json_walk.specs.Outcome.{Outcome, offence, or_offence}

-- bytes that are no UTF-8, no JSON, or nested too deep are refused at the empty place
unfoldable pub value_at : List ℕ → Outcome Data
value_at bytes = if is_utf8 bytes then or_offence [] Syntax (read bytes) else offence [] Syntax
