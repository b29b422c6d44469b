-- What stands at a path whose fields are served.
use Rattle.std.proofs.Common.{◌≡◌, ◌≢◌, ℕ, Bool, true, false, length, sym, ap, ◌∙◌}
use Rattle.text_base.specs.Asked.{Asked}
use Rattle.text_base.specs.Requests.{is_valid}
use Rattle.text_base.specs.Seen.{seen}
use Rattle.goal_form.specs.declared.formula.Truth.TheVariants.{No}
use Rattle.goal_form.specs.declared.formula.Standing.TheVariants.{Known, Open}
use Rattle.goal_form.specs.declared.goal.Goal.{Goal}
use Rattle.goal_form.specs.declared.goal.Node.{Node}
use Rattle.goal_form.specs.declared.goal.Node.TheVariants.{Split, False, Clash, Closed, Rest, Capped}
use Rattle.goal_form.specs.Formulas.{Path, leaf_on, value_on, standing_on, value_of, leaves_below}
use Rattle.goal_form.specs.Goals.{is_true_where}
use Rattle.goal_form.specs.Refutations.{Shuts}
use Rattle.goal_form.specs.Shown.{Served}
use Rattle.goal_form.specs.Trails.{InRange}
use Rattle.goal_form.specs.Unfinished.{is_rest, MayLeave}
use Rattle.goal_form.proofs.Standings.{standing_value, next_open}
use Rattle.goal_form.proofs.Served.{served_true, served_shown}
use Rattle.split_seek.specs.Texts.{Texts, text_of, AreSingle, made}
use Rattle.split_seek.specs.Serving.{FullAt, IsOpen}
use Rattle.split_seek.specs.Findings.{MeetsGoal, MayStep}
use Rattle.split_seek.proofs.Making.{seen_made}

pub value_known : (goal : Goal) (path : Path) (b : Bool) → standing_on path goal.formula ≡ Known b → value_on path goal.formula ≡ value_of (Known b)
value_known goal path b e = sym (standing_value (leaf_on path) goal.formula) ∙ ap value_of e

pub reached_meets : (goal : Goal) (path : Path) (ts : Texts) (q : Asked) → Served goal.atoms path (text_of ts) → AreSingle ts → InRange (length goal.atoms) path → standing_on path goal.formula ≡ Known true →
    q ≡ made ts → is_valid q ≡ true → MeetsGoal goal q
reached_meets goal path ts q served single range e is valid = record {
  valid = valid;
  right = ap (λ x. is_true_where (seen x) goal) is
      ∙ ap (λ x. is_true_where x goal) (seen_made ts single (served_shown goal.atoms path (text_of ts) served))
      ∙ served_true goal path (text_of ts) served range (value_known goal path true e);
}

pub open_steps : (goal : Goal) (path : Path) (k : ℕ) → IsOpen goal path → leaves_below (length goal.atoms) goal.formula ≡ true → standing_on path goal.formula ≡ Open k → MayStep goal path k
open_steps goal path k o below e =
    let next = next_open (leaf_on path) (length goal.atoms) k goal.formula e below in
    record {
      lawful = record { known = next.1; undecided = next.0; open_here = sym (standing_value (leaf_on path) goal.formula) ∙ ap value_of e };
      plain = record { next = e; no_clash = o.no_clash; met = o.met };
    }

-- a field with too many states is a leaf where the value isn't No
pub full_leaf : (goal : Goal) (cap : ℕ) (path : Path) (n : Node) → FullAt goal cap path n → value_on path goal.formula ≢ No → MayLeave goal cap path n × (is_rest n ≡ false)
full_leaf goal cap path (Split k) h v = absurd h
full_leaf goal cap path False h v = absurd h
full_leaf goal cap path (Clash f) h v = absurd h
full_leaf goal cap path (Closed f words) h v = absurd h
full_leaf goal cap path Rest h v = absurd h
full_leaf goal cap path (Capped f words) h v = (record { open_here = v; required = h.0; user = h.1; apart = h.2; many = h.3 }, cc)

pub shut_leaf : (goal : Goal) (cap : ℕ) (path : Path) (n : Node) → Shuts goal path n → MayLeave goal cap path n
shut_leaf goal cap path (Split k) h = h
shut_leaf goal cap path False h = h
shut_leaf goal cap path (Clash f) h = h
shut_leaf goal cap path (Closed f words) h = h
shut_leaf goal cap path Rest h = absurd h
shut_leaf goal cap path (Capped f words) h = absurd h

pub known_true : (goal : Goal) (path : Path) → standing_on path goal.formula ≡ Known true → value_on path goal.formula ≢ No
known_true goal path e n = let yes_here = value_known goal path true e in cc
