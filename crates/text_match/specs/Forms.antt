-- The form that a test was built from, and the room that it needs.
use Rattle.std.specs.Prelude.{ℕ}
use Rattle.cfg_types.specs.declared.rules.TextForm.{TextForm}
use Rattle.cfg_types.specs.declared.rules.TextForm.TheVariants as form
use Rattle.text_match.specs.declared.text.FormTest.{FormTest}
use Rattle.text_match.specs.declared.text.FormTest.TheVariants as test

abbrev pub form_of : FormTest → TextForm
form_of (test.Exact v) = form.Exact v
form_of (test.Prefix v) = form.Prefix v
form_of (test.Suffix v) = form.Suffix v
form_of (test.Contains v) = form.Contains v
form_of (test.Pattern p) = form.Pattern p.pattern

-- only a pattern needs room
abbrev pub room_of : FormTest → ℕ
room_of (test.Exact v) = 0
room_of (test.Prefix v) = 0
room_of (test.Suffix v) = 0
room_of (test.Contains v) = 0
room_of (test.Pattern p) = p.room
