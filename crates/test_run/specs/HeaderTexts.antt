-- The texts that rules on headers look at, by what they are judged on.
use Rattle.std.specs.Prelude.{Option}
use Rattle.text_base.specs.Asked.{Bytes}
use Rattle.text_base.specs.Seen.{seen, field_named}
use Rattle.test_run.specs.Verdicts.{text_among, response_text}
use Rattle.test_run.specs.declared.headers.Looked.{Looked}
use Rattle.test_run.specs.declared.headers.Looked.TheVariants as looked

abbrev pub text_seen : Looked → Bytes → Option Bytes
text_seen (looked.Received q) name = seen q.now (field_named name)
text_seen (looked.Sent q authority target heads) name = text_among (record q.now { authority = authority.now; target = target.now }) heads name
text_seen (looked.Answered heads) name = response_text heads name
