use Rattle.std.proofs.Common.{false, refl, sym, ap, ◌∙◌}
use Rattle.goal_form.specs.declared.formula.Standing.TheVariants.{Known}
use Rattle.split_seek.proofs.Looking.{value_known}
use Rattle.split_seek.proofs.look.look_at.Goals as goal

pub returns-in-Known-false-clause-sees : goal.returns-in-Known-false-clause-sees
returns-in-Known-false-clause-sees c =
    (value_known c.args.goal.now c.args.trail.now.path false (sym c.in-Known-false.ensures ∙ ap Known c.in-Known-false.field-0-test), refl)
