use Rattle.json_walk.proofs.FieldNames.{alone_goes, alone_stops, alone_done}
use Rattle.json_walk.proofs.fields.alone.Goals as goal

pub loop-i-preserved : goal.loop-i-preserved
loop-i-preserved c = alone_goes _ _ _ _ _ _ _ _ _ _ c.loop-i-test.true c.requires.within c.is_some-there.ensures c.field.ensures c.if-again.false c.loop-i.invariant

pub returns-then-again : goal.returns-then-again
returns-then-again c = rw (c.refused_at.ensures, c.in_ok-at.ensures) (alone_stops _ _ _ _ _ _ _ _ _ _ c.loop-i-test.true c.requires.within c.is_some-there.ensures c.field.ensures c.if-again.true c.loop-i.invariant)

pub returns : goal.returns
returns c = alone_done _ _ _ _ _ _ _ _ c.loop-i-test.false c.requires.within c.loop-i.invariant
