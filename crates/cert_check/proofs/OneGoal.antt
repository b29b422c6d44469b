-- A route has one goal: its guard is one, and atoms numbered by their first places leave no choice.
use Rattle.std.proofs.Common.{◌≡◌, true, List, map, length, Some, slice_get, sym, ap, ap₂, subst, ◌∙◌}
use Rattle.goal_form.specs.declared.atom.Atom.{Atom}
use Rattle.goal_form.specs.declared.formula.Formula.{Formula}
use Rattle.goal_form.specs.declared.goal.Goal.{Goal}
use Rattle.goal_form.specs.declared.sight.Condition.{Condition}
use Rattle.goal_form.specs.Formulas.{leaves_below}
use Rattle.goal_form.specs.Conditions.{condition_of}
use Rattle.rule_form.specs.Leaves.{atoms_in}
use Rattle.goal_build.specs.Numbering.{numbers_in, IsNumbered}
use Rattle.goal_build.specs.Goals.{goal_condition}
use Rattle.cert_check.specs.Laws.{OneGoalLaw}
use Rattle.cert_check.proofs.Numbers.{one_numbering}
use Rattle.cert_check.proofs.Rebuilt.{are_atoms, one_formula}
use Rattle.cert_check.proofs.OneGuard.{one_spot}

one_numbered : (c : Condition) (g h : Goal) → IsNumbered c g → IsNumbered c h → (g.atoms ≡ h.atoms) × (g.formula ≡ h.formula)
one_numbered c g h k l =
    let atoms : map (slice_get g.atoms) (numbers_in g.formula) ≡ map (slice_get h.atoms) (numbers_in h.formula) =
    are_atoms g.atoms g.formula k.meant.leaves ∙ ap (λ z. map Some (atoms_in z)) (k.meant.is ∙ sym l.meant.is) ∙ sym (are_atoms h.atoms h.formula l.meant.leaves) in
    let n = one_numbering g.atoms h.atoms k.apart l.apart (numbers_in g.formula) (numbers_in h.formula) k.order l.order atoms in
    let below : leaves_below (length g.atoms) h.formula ≡ true = subst (λ z. leaves_below (length z) h.formula ≡ true) (sym n.1) l.meant.leaves in
    let is : condition_of g.atoms h.formula ≡ c = subst (λ z. condition_of z h.formula ≡ c) (sym n.1) l.meant.is in
    (n.1, one_formula g.atoms g.formula h.formula k.meant.leaves below (k.meant.is ∙ sym is) n.0)

goal_made : (a b : List Atom) (f g : Formula) → a ≡ b → f ≡ g → ◌≡◌ {A = Goal} (record { atoms = a; formula = f }) (record { atoms = b; formula = g })
goal_made a b f g s t = ap₂ {A = List Atom} {B = Formula} {C = Goal} (λ x y. record { atoms = x; formula = y }) s t

pub one_goal : OneGoalLaw
one_goal c r g h k l =
    let s = one_spot c r k.h l.h k.host l.host k.own l.own k.before l.before k.guarded l.guarded in
    let first : goal_condition c k.h k.host k.own k.before ≡ goal_condition c l.h l.host l.own l.before =
    ap (λ i. goal_condition c i k.host k.own k.before) s.0 ∙ ap (λ x. goal_condition c l.h x k.own k.before) s.1 ∙ ap₂ (λ x y. goal_condition c l.h l.host x y) s.2 s.3 in
    let n = one_numbered (goal_condition c l.h l.host l.own l.before) g h (subst (λ z. IsNumbered z g) first k.numbered) l.numbered in
    goal_made g.atoms h.atoms g.formula h.formula n.0 n.1
