-- A choice read from its end.
use Rattle.std.proofs.Common.{◌≡◌, List, [], ◌∷◌, ◌++◌, refl, sym, ap, ◌∙◌, append_assoc}
use Rattle.rx_term.specs.declared.terms.Term.{Term}
use Rattle.rx_term.specs.Term.{alt}
use Rattle.rx_rows.specs.Rows.{choice}

-- the last two terms may be one
choice_two : (ts : List Term) (t u : Term) → choice (ts ++ t ∷ u ∷ []) ≡ choice (ts ++ alt t u ∷ [])
choice_two [] t u = refl
choice_two (s ∷ []) t u = refl
choice_two (s ∷ r ∷ ts) t u = ap (alt s) (choice_two (r ∷ ts) t u)

pub choice_last : (all ts rest : List Term) (t u v : Term) → choice (ts ++ u ∷ []) ≡ choice all → ts ≡ rest ++ t ∷ [] → v ≡ alt t u → choice (rest ++ v ∷ []) ≡ choice all
choice_last all ts rest t u v e s i =
    ap (λ x. choice (rest ++ x ∷ [])) i ∙ sym (choice_two rest t u) ∙ ap choice (sym (ap (λ l. l ++ u ∷ []) s ∙ append_assoc rest (t ∷ []) (u ∷ []))) ∙ e
