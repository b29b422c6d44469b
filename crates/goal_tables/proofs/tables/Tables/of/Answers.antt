use Rattle.std.proofs.Common.{sym, subst}
use Rattle.goal_tables.specs.Fields.{AreFields, HasAlways, ArePlaced}
use Rattle.goal_tables.proofs.tables.Tables.of.Goals as goal

pub invariant_of-result : goal.invariant_of-result
invariant_of-result c =
    let same = sym c.fields-fields.ensures.same in
    record {
      formed = subst AreFields same c.fields-fields.ensures.fields;
      always = subst HasAlways same c.fields-fields.ensures.always;
      placed = subst (λ es. ArePlaced es c.args.goal.now.atoms c.args.places.items) same c.requires;
      roomy = c.most_room.ensures;
    }
