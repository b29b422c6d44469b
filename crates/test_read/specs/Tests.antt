-- A test file: a list of tests, each as its row of the table.
use Rattle.std.specs.Prelude.{ℕ, List, [], None, Ok}
use Rattle.json_tables.specs.declared.message.Message.TheVariants as messages
use Rattle.json_tables.specs.Names as name
use Rattle.json_walk.specs.Outcome.{Outcome, ◌>>=◌}
use Rattle.json_walk.specs.Bytes.{value_at}
use Rattle.json_walk.specs.Members.{members_at}
use Rattle.json_walk.specs.Fields.{Reading, required}
use Rattle.json_walk.specs.Leaves.{text, list_of}
use Rattle.test_read.specs.declared.test.Test.{Test}
use Rattle.test_read.specs.Inputs.{input}
use Rattle.test_read.specs.Validation.{validate}

unfoldable pub test_entry : Reading Test
test_entry p d = do
  _ ← members_at messages.Test p d
  called ← required p d name.test_name text
  asked ← required p d name.input input
  expect ← required p d name.validate validate
  Ok (record { name = called; request = asked.0; response = asked.1; expect = expect })

unfoldable pub test_file : Reading (List Test)
test_file p d = do
  _ ← members_at messages.TestFile p d
  required p d name.tests (list_of None test_entry)

-- the tests that the bytes stand for, or their first offence
unfoldable pub tests_of : List ℕ → Outcome (List Test)
tests_of bytes = do
  d ← value_at bytes
  test_file [] d
