use Rattle.std.proofs.Common.{subst}
use Rattle.goal_tables.specs.Fields.{HasAlways}
use Rattle.goal_tables.proofs.shared.SharedTables.fields.Goals as goal

pub returns-clause-always : goal.returns-clause-always
returns-clause-always c = subst HasAlways c.self.view_is c.self.invariant.always
