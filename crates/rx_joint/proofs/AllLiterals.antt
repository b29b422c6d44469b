-- Literals as a choice of all terms.
use Rattle.std.proofs.Common.{◌≡◌, ℕ, ◌+◌, ◌<◌, ◌≤◌, Bool, List, [], ◌∷◌, ◌++◌, length, get_or, take, ◌∙◌, ap, arith, length-append}
use Rattle.std.proofs.lemmas.List.{get_or_append_left, take_more}
use Rattle.std.proofs.Math.Seq.{get_or-append_seam, take-length}
use Rattle.rx_term.specs.declared.terms.Term.{Term, Nothing}
use Rattle.rx_auto.specs.Node.{term_at}
use Rattle.rx_joint.specs.declared.literals.Literal.{Literal}
use Rattle.rx_joint.specs.Claims.{claims_of, chosen, AreChosen}
use Rattle.rx_joint.proofs.Choosing.{map_push}

module _ (terms : List Term) (t : Term) (h : Bool) where
  pub chosen_push : (choice : List (ℕ × Bool)) → AreChosen terms choice → AreChosen (terms ++ t ∷ []) (choice ++ (length terms, h) ∷ [])
  chosen_push [] a = (omega (arith, length-append terms (t ∷ [])), tt)
  chosen_push (c ∷ choice) a = (omega (arith, a.0, length-append terms (t ∷ [])), chosen_push choice a.1)

  pub chosen_claims : (choice : List (ℕ × Bool)) → AreChosen terms choice → chosen (terms ++ t ∷ []) (choice ++ (length terms, h) ∷ []) ≡ chosen terms choice ++ (t, h) ∷ []
  chosen_claims [] a = ap (λ x. (x, h) ∷ []) (get_or-append_seam terms t [] Nothing)
  chosen_claims (c ∷ choice) a =
      let e : term_at (terms ++ t ∷ []) c.0 ≡ term_at terms c.0 = get_or_append_left terms (t ∷ []) Nothing c.0 a.0 in
      ap (λ x. (x, c.1) ∷ chosen (terms ++ t ∷ []) (choice ++ (length terms, h) ∷ [])) e ∙ ap (λ z. (term_at terms c.0, c.1) ∷ z) (chosen_claims choice a.1)

-- the claims of one more literal
pub claims_more : (literals : List Literal) (i : ℕ) (d : Literal) → i < length literals →
    claims_of (take (i + 1) literals) ≡ claims_of (take i literals) ++ ((get_or literals i d).term, (get_or literals i d).holds) ∷ []
claims_more literals i d h = ap claims_of (take_more literals i d h) ∙ map_push (λ (l : Literal). (l.term, l.holds)) (take i literals) (get_or literals i d)

pub all_literals : (n : ℕ) (literals : List Literal) → length literals ≤ n → n ≤ length literals → claims_of (take n literals) ≡ claims_of literals
all_literals n literals h k = let e : n ≡ length literals = omega (arith, h, k) in ap (λ z. claims_of (take z literals)) e ∙ ap claims_of (take-length literals)
