use Rattle.std.proofs.Common.{◌≡◌, take}
use Rattle.goal_form.proofs.copies.+copy.Given as goal

abbrev pub invariant-copy_formulas-loop-formula : goal.invariant-copy_formulas-loop-formula
invariant-copy_formulas-loop-formula l = l.list ≡ take l.formula-index l.formulas
