-- Runs of live places of one table.
use Rattle.std.proofs.Common.{◌≡◌, ℕ, ◌+◌, ◌-◌, ◌*◌, ◌<◌, ◌≤◌, inl, inr, List, map, length, get_or, take, drop, sym, ◌∙◌, ap, subst, arith, length-take, length-drop}
use Rattle.std.proofs.lemmas.List.{get_or-take, get_or-drop}
use Rattle.std.proofs.lemmas.Bool.{cases_lt}
use Rattle.rx_term.specs.declared.terms.Term.{Term}
use Rattle.rx_term.specs.Language.{Has}
use Rattle.rx_term.proofs.Language.{Has_map, Has_unmap}
use Rattle.rx_auto.proofs.Likeness.{Has_get, Has_place}
use Rattle.rx_auto.specs.declared.edges.Edge.{Edge}
use Rattle.rx_auto.specs.Live.{IsBehind}
use Rattle.rx_auto.specs.Edges.{AddsEdges}
use Rattle.rx_auto.proofs.Reading.{edges_then, edges_as}
use Rattle.rx_joint.specs.Joint.{table_of, place_of, table_at, IsLed}

pub taken_at : (xs : List ℕ) (n j : ℕ) → j < n → j < length xs → Has (take n xs) (get_or xs j 0)
taken_at xs n j h l = subst (Has (take n xs)) (get_or-take n xs j 0 h) (Has_get (take n xs) j 0 (omega (arith, length-take n xs, h, l)))

pub at_taken : (xs : List ℕ) (n g : ℕ) → Has (take n xs) g → (j : ℕ) × (j < n) × (j < length xs) × (get_or xs j 0 ≡ g)
at_taken xs n g h =
    let p = Has_place (take n xs) g 0 h in
    let l : p.0 < n = omega (arith, p.1, length-take n xs) in
    (p.0, l, omega (arith, p.1, length-take n xs), sym (get_or-take n xs p.0 0 l) ∙ p.2)

module _ (xs : List ℕ) (at end : ℕ) (h : at < end) (l : end ≤ length xs) where
  pub run_at : (j : ℕ) → at ≤ j → j < end → Has (take (end - at) (drop at xs)) (get_or xs j 0)
  run_at j a b =
      let e : at + (j - at) ≡ j = omega (arith, a) in
      subst (Has (take (end - at) (drop at xs))) (get_or-drop at xs (j - at) 0 ∙ ap (λ k. get_or xs k 0) e)
      (taken_at (drop at xs) (end - at) (j - at) (omega (arith, a, b)) (omega (arith, length-drop at xs, a, b, l)))

  pub at_run : (g : ℕ) → Has (take (end - at) (drop at xs)) g → (j : ℕ) × (at ≤ j) × (j < end) × (get_or xs j 0 ≡ g)
  at_run g m =
      let p = at_taken (drop at xs) (end - at) g m in
      (at + p.0, omega arith, omega (arith, p.1, h), sym (get_or-drop at xs p.0 0) ∙ p.3)

  -- the numbers up to the end of the run are those before it and its own
  pub run_more : (tables : List (List Term)) (old mid new : List Edge) → AddsEdges old mid (λ b x. IsLed tables (take at xs) b x) →
      AddsEdges mid new (λ b x. IsLed tables (take (end - at) (drop at xs)) b x) → AddsEdges old new (λ b x. IsLed tables (take end xs) b x)
  run_more tables old mid new f g = edges_then old mid new (λ b x. IsLed tables (take at xs) b x) (λ b x. IsLed tables (take (end - at) (drop at xs)) b x) (λ b x. IsLed tables (take end xs) b x) f g
      (λ b x m. let p = at_taken xs at m.0 m.1 in (m.0, subst (Has (take end xs)) p.3 (taken_at xs end p.0 (omega (arith, p.1, h)) p.2), m.2))
      (λ b x m. let p = at_run m.0 m.1 in (m.0, subst (Has (take end xs)) p.3 (taken_at xs end p.0 p.2 (omega (arith, p.2, l))), m.2))
      (λ b x m.
      let p = at_taken xs end m.0 m.1 in
      elim (cases_lt p.0 at) [
        | inl k ↦ inl (m.0, subst (Has (take at xs)) p.3 (taken_at xs at p.0 k p.2), m.2)
        | inr k ↦ inr (m.0, subst (Has (take (end - at) (drop at xs))) p.3 (run_at p.0 k p.1), m.2)
      ])

-- the places of one table lead to where the numbers do
pub one_table_leads : (tables : List (List Term)) (from : List ℕ) (slot : ℕ) (ts : List Term) → ((g : ℕ) → Has from g → table_of g ≡ slot) → table_at tables slot ≡ ts → (old new : List Edge) →
    AddsEdges old new (λ b x. (p : ℕ) × Has (map place_of from) p × IsBehind ts p b (slot * 4294967296) x) → AddsEdges old new (λ b x. IsLed tables from b x)
one_table_leads tables from slot ts one e old new f = edges_as old new (λ b x. (p : ℕ) × Has (map place_of from) p × IsBehind ts p b (slot * 4294967296) x) (λ b x. IsLed tables from b x) f
    (λ b x m.
    let u = Has_unmap place_of from m.0 m.1 in
    let k = one u.0 u.1 in (
      u.0,
      u.1,
      subst (λ t. IsBehind (table_at tables t) (place_of u.0) b (t * 4294967296 + 0) x) (sym k)
          (subst (λ z. IsBehind z (place_of u.0) b (slot * 4294967296 + 0) x) (sym e)
          (subst (λ p. IsBehind ts p b (slot * 4294967296 + 0) x) u.2 (m.2.0, m.2.1 ∙ plus_zero (slot * 4294967296) m.2.0, m.2.2))),
    ))
    (λ b x m.
    let k = one m.0 m.1 in
    let r = subst (λ z. IsBehind z (place_of m.0) b (slot * 4294967296 + 0) x) e (subst (λ t. IsBehind (table_at tables t) (place_of m.0) b (t * 4294967296 + 0) x) k m.2) in
    (place_of m.0, Has_map place_of from m.0 m.1, (r.0, r.1 ∙ sym (plus_zero (slot * 4294967296) r.0), r.2)))
  where
    plus_zero : (n p : ℕ) → n + p ≡ n + 0 + p
    plus_zero n p = omega arith
