-- The row of what a search found.
use Rattle.std.proofs.Common.{◌≡◌, ℕ, Some, slice_get, ◌↔◌, IsTrue, refl, sym, subst}
use Rattle.std.proofs.lemmas.Bool.{both_ways}
use Rattle.text_base.specs.Asked.{Asked}
use Rattle.text_base.specs.Requests.{is_valid}
use Rattle.goal_form.specs.declared.goal.Goal.{Goal}
use Rattle.goal_form.specs.declared.goal.Row.{Row}
use Rattle.goal_form.specs.Goals.{is_true_at}
use Rattle.cfg_types.specs.Choices.{IsSent}
use Rattle.cfg_types.specs.Order.{routes}
use Rattle.cfg_types.specs.declared.configs.Config.{Config}
use Rattle.cfg_types.specs.declared.routes.Route.{Route}
use Rattle.goal_build.specs.Goals.{IsGoal}
use Rattle.split_seek.specs.Findings.{Answers, AreEnough, IsDecided}
use Rattle.split_seek.specs.declared.finding.Finding.{Finding}
use Rattle.split_seek.specs.declared.finding.Finding.TheVariants.{Reached, Refuted, Undecided}
use Rattle.cert_check.specs.LawfulRows.{AreBudgets, IsLawfulBody}
use Rattle.cert_check.proofs.OneGoal.{one_goal}
use Rattle.cert_check.proofs.Refuting.{refuted}
use Rattle.check_core.specs.Rows.{IsSearchedBody, IsSearchedRow}
use Rattle.check_core.specs.Found.{found_body}
use Rattle.check_core.specs.declared.calls.Budgets.{Budgets}

module _ (c : Config) (b : Budgets) (r : ℕ) (goal : Goal) (bounds : AreBudgets b.splits b.states) (is : IsGoal c r goal)
    (sent : (q : Asked) → IsTrue (is_valid q) → IsTrue (is_true_at q goal) ↔ IsSent c q r) where
  lawful_found : (f : Finding) → Answers goal b.splits b.states f → IsLawfulBody c r (found_body b f)
  lawful_found (Reached q) h = (h.valid, (sent q h.valid).0 h.right)
  lawful_found (Refuted nodes) h = (goal, is, h.0)
  lawful_found (Undecided nodes) h = (bounds, goal, is, h.0)

  searched_found : (f : Finding) → Answers goal b.splits b.states f → (AreEnough goal b.splits b.states → IsDecided f) → IsSearchedBody c r b (found_body b f)
  searched_found (Reached q) h decides = tt
  searched_found (Refuted nodes) h decides =
      ((goal, is, h.1), (λ q valid s. both_ways (is_true_at q goal) (refuted goal nodes h.0 q valid) ((sent q valid).1 s)))
  searched_found (Undecided nodes) h decides =
      ((goal, is, h.1), refl, refl, (λ g k enough. decides (subst (λ z. AreEnough z b.splits b.states) (one_goal c r g goal k is) enough)))

  -- the row at the route's place tells what was found
  pub searched_row : (f : Finding) (row : Row) (route : Route) → Answers goal b.splits b.states f → (AreEnough goal b.splits b.states → IsDecided f) →
      slice_get (routes c) r ≡ Some route → row.route ≡ route.place → row.body ≡ found_body b f → IsSearchedRow c b r row
  searched_row f row route h decides there place same = record {
    lawful = record { route = route; is_route = there; place = place; body = subst (λ x. IsLawfulBody c r x) (sym same) (lawful_found f h) };
    searched = subst (λ x. IsSearchedBody c r b x) (sym same) (searched_found f h decides);
  }
