-- Conditions of one atom.
use Rattle.std.specs.Prelude.{Bool, if◌then◌else◌}
use Rattle.text_base.specs.declared.request.Field.{Field}
use Rattle.rx_term.specs.declared.terms.Term.{Term}
use Rattle.goal_form.specs.declared.atom.Atom.TheVariants.{Present, Within}
use Rattle.goal_form.specs.declared.sight.Condition.{Condition}
use Rattle.goal_form.specs.declared.sight.Condition as of
use Rattle.goal_form.specs.Fields.{is_always}

-- the field is there with a text in the term, which `user` says is made from a pattern of the configuration
abbrev pub within : Field → Term → Bool → Condition
within f term user = of.Leaf (Within f term user)

-- the field is there
abbrev pub present : Field → Condition
present f = if is_always f then of.Yes else of.Leaf (Present f)
