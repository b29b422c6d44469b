-- The row of a JSON value, or its first offence: the verdict goes first, then the names of the members, then the members in the
-- order of their table.
use Rattle.std.specs.Prelude.{ℕ, List, Ok, Option, Some, None, codes, bytes_eq, if◌then◌else◌, option_and_then}
use Rattle.serde_json.specs.Data.{Data}
use Rattle.serde_json.specs.Find.{get, as_str}
use Rattle.json_tables.specs.Names as name
use Rattle.json_tables.specs.declared.message.Message.TheVariants.{ReachedRow, RefutedRow, UndecidedRow}
use Rattle.json_walk.specs.declared.refusal.Kind.TheVariants.{OutOfRange}
use Rattle.json_walk.specs.Outcome.{Outcome, offence, ◌>>=◌}
use Rattle.json_walk.specs.Places.{under}
use Rattle.json_walk.specs.Members.{members_at, is_object}
use Rattle.json_walk.specs.Fields.{Reading, required}
use Rattle.json_walk.specs.Leaves.{text}
use Rattle.json_walk.specs.Numbers.{count}
use Rattle.text_base.specs.Asked.{Bytes}
use Rattle.goal_form.specs.declared.goal.Row.{Row}
use Rattle.goal_form.specs.declared.goal.RowBody.TheVariants as row
use Rattle.cert_rows.specs.declared.letter.Verdict.{Verdict}
use Rattle.cert_rows.specs.declared.letter.Verdict.TheVariants as verdict
use Rattle.cert_rows.specs.Nodes.{nodes}
use Rattle.cert_rows.specs.Requests.{request}

unfoldable pub verdict_named : Bytes → Option Verdict
verdict_named text =
    if bytes_eq text (codes "reached") then Some verdict.Reached
    else if bytes_eq text (codes "refuted") then Some verdict.Refuted
    else if bytes_eq text (codes "undecided") then Some verdict.Undecided
    else None

-- the verdict of an object
unfoldable pub verdict_of : Data → Option Verdict
verdict_of d = option_and_then verdict_named (option_and_then as_str (get name.verdict d))

unfoldable pub splits : Reading ℕ
splits = count 1 65536

unfoldable pub states : Reading ℕ
states = count 16 4096

unfoldable pub reached : Reading Row
reached p d = do
  _ ← members_at ReachedRow p d
  q ← required p d name.request request
  place ← required p d name.route text
  Ok (record { route = place; body = row.Reached q })

unfoldable pub refuted : Reading Row
refuted p d = do
  _ ← members_at RefutedRow p d
  ns ← required p d name.nodes nodes
  place ← required p d name.route text
  Ok (record { route = place; body = row.Refuted ns })

unfoldable pub undecided : Reading Row
undecided p d = do
  _ ← members_at UndecidedRow p d
  ns ← required p d name.nodes nodes
  place ← required p d name.route text
  a ← required p d name.splits splits
  b ← required p d name.states states
  Ok (record { route = place; body = row.Undecided ns a b })

unfoldable pub by_verdict : List ℕ → Data → Option Verdict → Outcome Row
by_verdict p d None = offence (under p name.verdict) OutOfRange
by_verdict p d (Some verdict.Reached) = reached p d
by_verdict p d (Some verdict.Refuted) = refuted p d
by_verdict p d (Some verdict.Undecided) = undecided p d

-- the row of the value at p
unfoldable pub row_of : Reading Row
row_of p d = is_object p d >>= λ _. by_verdict p d (verdict_of d)
