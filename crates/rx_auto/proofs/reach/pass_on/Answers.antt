use Rattle.std.proofs.Common.{inl, refl, sym, subst}
use Rattle.rx_term.specs.Language.{Has}
use Rattle.rx_auto.proofs.Marking.{within_both}
use Rattle.rx_auto.proofs.Reached.{both_only, both_done}
use Rattle.rx_auto.proofs.reach.pass_on.Goals as goal

pub put-requires : goal.put-requires
put-requires c = (c.requires.within c.args.at c.requires.marked).1 c.in-At.place (subst (λ z. Has z c.in-At.place) (sym c.in-At.ensures.made) (inl refl))

pub returns-in-Both-clause-within : goal.returns-in-Both-clause-within
returns-in-Both-clause-within c = within_both _ _ _ _ _ _ _ c.in-Both.ensures.made c.in-Both.ensures.fits.0 c.in-Both.ensures.fits.1 c.requires.marked c.mark_both.ensures.marks c.requires.within

pub returns-in-Both-clause-only : goal.returns-in-Both-clause-only
returns-in-Both-clause-only c = both_only c.args.ways.now c.args.row.now.marks _ _ _ _ _ c.in-Both.ensures.made c.mark_both.ensures.marks (c.requires.within c.args.at c.requires.marked).0 c.requires.marked

pub returns-in-Both-clause-done : goal.returns-in-Both-clause-done
returns-in-Both-clause-done c = both_done c.args.ways.now c.args.row.now.marks _ _ _ _ _ c.in-Both.ensures.made c.mark_both.ensures.marks c.in-Both.ensures.fits.0 c.in-Both.ensures.fits.1
