-- A body shows the same of a route's goal as of the route.
use Rattle.std.proofs.Common.{◌≡◌, ℕ, Bool, true, false, List, Some, slice_get, ◌↔◌, IsTrue, IfOk, Result, Ok, Err, sym, ap, subst, ◌∙◌}
use Rattle.std.specs.declared.alloc.AllocError.{AllocError}
use Rattle.std.proofs.lemmas.Bool.{both_ways}
use Rattle.text_base.specs.Asked.{Asked}
use Rattle.text_base.specs.Requests.{is_valid}
use Rattle.goal_form.specs.declared.goal.Goal.{Goal}
use Rattle.goal_form.specs.declared.goal.Node.{Node}
use Rattle.goal_form.specs.declared.goal.Row.{Row}
use Rattle.goal_form.specs.declared.goal.RowBody.{RowBody}
use Rattle.goal_form.specs.declared.goal.RowBody.TheVariants.{Reached, Refuted, Undecided}
use Rattle.goal_form.specs.Goals.{is_true_at}
use Rattle.goal_form.specs.Refutations.{Refutes}
use Rattle.goal_form.specs.Unfinished.{Unfinished}
use Rattle.cfg_types.specs.Choices.{IsSent}
use Rattle.cfg_types.specs.Lawful.{IsLawful}
use Rattle.cfg_types.specs.Order.{routes}
use Rattle.cfg_types.specs.declared.configs.Config.{Config}
use Rattle.cfg_types.specs.declared.routes.Route.{Route}
use Rattle.goal_build.specs.Goals.{IsGoal}
use Rattle.goal_build.proofs.SentLaws.{sent_law}
use Rattle.cert_check.specs.LawfulRows.{AreBudgets, IsLawfulBody, IsLawfulRow}
use Rattle.cert_check.specs.GoalRows.{IsBodyOf}
use Rattle.cert_check.proofs.OneGoal.{one_goal}
use Rattle.cert_check.proofs.Refuting.{refuted}

module _ (c : Config) (r : ℕ) (goal : Goal) (lawful : IsLawful c) (is : IsGoal c r goal) where
  body_lawful : (b : RowBody) → IsBodyOf goal b → IsLawfulBody c r b
  body_lawful (Reached q) h = (h.0, (sent_law c r goal q lawful is h.0).0 h.1)
  body_lawful (Refuted nodes) h = (goal, is, h)
  body_lawful (Undecided nodes splits states) h = (h.0, goal, is, h.1)

  lawful_body : (b : RowBody) → IsLawfulBody c r b → IsBodyOf goal b
  lawful_body (Reached q) h = (h.0, (sent_law c r goal q lawful is h.0).1 h.1)
  lawful_body (Refuted nodes) h = let (g, k, e) = h in subst (λ z. Refutes z nodes) (one_goal c r g goal k is) e
  lawful_body (Undecided nodes splits states) h = let (b, g, k, e) = h in (b, subst (λ z. Unfinished z nodes splits states) (one_goal c r g goal k is) e)

  -- a row at its place is lawful where its body is
  pub row_told : (row : Row) (route : Route) (yes : Result Bool AllocError) → slice_get (routes c) r ≡ Some route → row.route ≡ route.place →
      IfOk yes (λ b. IsTrue b ↔ IsBodyOf goal row.body) → IfOk yes (λ b. IsTrue b ↔ IsLawfulRow c r row)
  row_told row route (Err e) there place h = tt
  row_told row route (Ok b) there place h = (
    (λ t. record { route = route; is_route = there; place = place; body = body_lawful row.body (h.0 t) }),
    (λ k. h.1 (lawful_body row.body k.body)),
  )

  -- no valid request is sent to a route that is refuted
  pub row_sound : (row : Row) (nodes : List Node) (yes : Result Bool AllocError) → row.body ≡ Refuted nodes → IfOk yes (λ b. IsTrue b ↔ IsBodyOf goal row.body) →
      IfOk yes (λ b. IsTrue b → (q : Asked) → is_valid q ≡ true → IsSent c q r → ⊥)
  row_sound row nodes (Err e) s h = tt
  row_sound row nodes (Ok b) s h = λ t q v sent. both_ways (is_true_at q goal) (refuted goal nodes (subst (IsBodyOf goal) s (h.0 t)) q v) ((sent_law c r goal q lawful is v).1 sent)

-- a row at another place isn't lawful
pub row_elsewhere : (c : Config) (r : ℕ) (row : Row) (route : Route) → slice_get (routes c) r ≡ Some route → (row.route ≡ route.place → ⊥) → IsTrue false ↔ IsLawfulRow c r row
row_elsewhere c r row route there n = ((λ t. absurd (cc)), (λ k. absurd (elsewhere k)))
  where
    elsewhere : IsLawfulRow c r row → ⊥
    elsewhere k =
        let both : Some k.route ≡ Some route = sym k.is_route ∙ there in
        let same : k.route ≡ route = (cc) in
        n (k.place ∙ ap (λ x. x.place) same)

-- ---- bodies

pub request_told : (v t : Bool) (r : Result Bool AllocError) → v ≡ true → IfOk r (λ yes. t ≡ yes) → IfOk r (λ yes. IsTrue yes ↔ ((v ≡ true) × (t ≡ true)))
request_told v t (Err e) valid h = tt
request_told v t (Ok b) valid h = ((λ s. (valid, h ∙ s)), (λ k. sym h ∙ k.1))

pub budgets_refused : (P : Type 0) (splits states : ℕ) → (AreBudgets splits states → ⊥) → IsTrue false ↔ (AreBudgets splits states × P)
budgets_refused P splits states n = ((λ s. absurd (cc)), (λ k. absurd (n k.0)))

pub budgets_met : (P : Type 0) (splits states : ℕ) (r : Result Bool AllocError) → AreBudgets splits states → IfOk r (λ yes. IsTrue yes ↔ P) → IfOk r (λ yes. IsTrue yes ↔ (AreBudgets splits states × P))
budgets_met P splits states (Err e) b h = tt
budgets_met P splits states (Ok x) b h = ((λ s. (b, h.0 s)), (λ k. h.1 k.1))
