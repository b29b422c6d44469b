-- Where several places lead to, one place after another.
use Rattle.std.proofs.Common.{◌≡◌, ℕ, ◌+◌, ◌*◌, ◌<◌, ◌≤◌, inl, inr, List, [], ◌∷◌, length, get_or, take, refl, sym, ◌∙◌, ap, subst, arith}
use Rattle.std.proofs.lemmas.List.{take_more}
use Rattle.std.proofs.lemmas.Bool.{cases_eq}
use Rattle.std.proofs.Math.Seq.{take-length}
use Rattle.rx_term.specs.declared.terms.Term.{Term}
use Rattle.rx_term.specs.Language.{Has}
use Rattle.rx_term.proofs.Language.{Has_left, Has_right}
use Rattle.rx_auto.proofs.Likeness.{Has_taken}
use Rattle.rx_auto.specs.Live.{AddsNumbers, IsBehind}
use Rattle.rx_auto.specs.Edges.{AddsEdges}
use Rattle.rx_auto.specs.declared.edges.Edge.{Edge}
use Rattle.rx_auto.proofs.Ascending.{adds_then}
use Rattle.rx_auto.proofs.Reading.{edges_then, edges_nothing}
use Rattle.rx_joint.specs.Joint.{number_of, table_of, place_of, table_at, IsLed}

pub has_taken_more : (xs : List ℕ) (i x : ℕ) → i < length xs → Has (take i xs) x → Has (take (i + 1) xs) x
has_taken_more xs i x l h = subst (λ z. Has z x) (sym (take_more xs i 0 l)) (Has_left (take i xs) (get_or xs i 0 ∷ []) x h)

pub has_taken_last : (xs : List ℕ) (i : ℕ) → i < length xs → Has (take (i + 1) xs) (get_or xs i 0)
has_taken_last xs i l = subst (λ z. Has z (get_or xs i 0)) (sym (take_more xs i 0 l)) (Has_right (take i xs) (get_or xs i 0 ∷ []) (get_or xs i 0) (inl refl))

pub take_all : (n : ℕ) (xs : List ℕ) → length xs ≤ n → n ≤ length xs → take n xs ≡ xs
take_all n xs h k = let e : n ≡ length xs = omega arith in ap (λ z. take z xs) e ∙ take-length xs

module _ (tables : List (List Term)) (from : List ℕ) (i : ℕ) (l : i < length from) where
  -- what the place reads and where that leads
  abbrev pub Behind : ℕ → ℕ → Type 0
  Behind b x = IsBehind (table_at tables (table_of (get_or from i 0))) (place_of (get_or from i 0)) b (table_of (get_or from i 0) * 4294967296) x

  pub gather_more : (old mid new : List Edge) → AddsEdges old mid (λ b x. IsLed tables (take i from) b x) → AddsEdges mid new Behind →
      AddsEdges old new (λ b x. IsLed tables (take (i + 1) from) b x)
  gather_more old mid new f g = edges_then old mid new (λ b x. IsLed tables (take i from) b x) Behind (λ b x. IsLed tables (take (i + 1) from) b x) f g
      (λ b x h. (h.0, has_taken_more from i h.0 l h.1, h.2))
      (λ b x h. (get_or from i 0, has_taken_last from i l, (h.0, h.1 ∙ plus_zero (table_of (get_or from i 0) * 4294967296) h.0, h.2)))
      (λ b x h. elim (Has_taken from i 0 h.0 l h.1) [
        | inl k ↦ inl (h.0, k, h.2)
        | inr e ↦ inr (subst (λ g. IsBehind (table_at tables (table_of g)) (place_of g) b (table_of g * 4294967296) x) (sym e)
            (h.2.0, h.2.1 ∙ sym (plus_zero (table_of h.0 * 4294967296) h.2.0), h.2.2))
      ])
    where
      plus_zero : (n p : ℕ) → n + p ≡ n + 0 + p
      plus_zero n p = omega arith

pub gather_none : (tables : List (List Term)) (from : List ℕ) (es : List Edge) → AddsEdges es es (λ b x. IsLed tables (take 0 from) b x)
gather_none tables from es = edges_nothing es (λ b x. IsLed tables (take 0 from) b x) (λ b x h. absurd (none from h.0 h.1))
  where
    none : (xs : List ℕ) (g : ℕ) → Has (take 0 xs) g → ⊥
    none [] g k = k
    none (y ∷ xs) g k = k

-- the first places of the first tables
pub first_more : (old mid new : List ℕ) (i : ℕ) → AddsNumbers old mid (λ x. (k : ℕ) × (k < i) × (x ≡ number_of k 0)) → AddsNumbers mid new (λ x. x ≡ i * 4294967296) →
    AddsNumbers old new (λ x. (k : ℕ) × (k < i + 1) × (x ≡ number_of k 0))
first_more old mid new i f g = adds_then old mid new (λ x. (k : ℕ) × (k < i) × (x ≡ number_of k 0)) (λ x. x ≡ i * 4294967296) (λ x. (k : ℕ) × (k < i + 1) × (x ≡ number_of k 0)) f g
    (λ x h. (h.0, omega (arith, h.1), h.2))
    (λ x e. (i, omega arith, e ∙ plus_zero (i * 4294967296)))
    (λ x h. elim (cases_eq h.0 i) [
      | inl e ↦ inr (h.2 ∙ sym (plus_zero (h.0 * 4294967296)) ∙ ap (λ k. k * 4294967296) e)
      | inr e ↦ inl (h.0, less h.0 h.1 e, h.2)
    ])
  where
    plus_zero : (n : ℕ) → n ≡ n + 0
    plus_zero n = omega arith

    less : (k : ℕ) → k < i + 1 → (k ≡ i → ⊥) → k < i
    less k h e = omega (arith, e)
